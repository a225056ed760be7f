-- Words give leaves alone.
use Rattle.std.proofs.Common.{◌≡◌, ◌∙◌, ℕ, zero, suc, ◌+◌, ◌-◌, Bool, true, false, not, cond, ◌||◌, List, [], ◌∷◌, length, Option, Some, None, is_some, option_map, Result, Ok, Err, nat_cmp, refl, sym, subst, ap}
use Rattle.std.specs.Prelude.{slice_get, codes}
use Rattle.std.specs.Option.{option_and_then}
use Rattle.std.specs.Ordering.{eq_by_cmp}
use Rattle.std.specs.Cmp.{nat_cmp_total}
use Rattle.std.specs.FinSet as set
use Rattle.std.specs.FinSet.{FinSet, contains-insert, contains-empty}
use Rattle.std.proofs.lemmas.Bool.{eqb-true, false≢true}
use Rattle.pvd_type.specs.Tree.{Tree}
use Rattle.pvd_type.specs.Numbers.{is_leaf, leaves, numbered, number_at}
use Rattle.pvd_type.proofs.Sets.{by_cmp}
use Rattle.pvd_type.proofs.Leaves.{leaf_flag, in_leaves}
use Rattle.pvd_value.specs.Data.{Data}
use Rattle.pvd_value.specs.Fits.{fits_of}
use Rattle.cli_text.specs.declared.fault.Cause.{Cause}
use Rattle.cli_text.specs.declared.fault.PutText.{PutText}
use Rattle.cli_text.specs.declared.fault.PutText.TheVariants.{OutOfRange}
use Rattle.cli_text.specs.declared.words.Way.{Way}
use Rattle.cli_text.specs.declared.words.Way.TheVariants as way
use Rattle.cli_text.specs.Words.{made, and_then}
use Rattle.cli_text.specs.Put.{some_is, if_leaf, leaf_number, split_word, named_leaf, by_path, is_enum, value_way, way_of, target, choices_of, give, put_at, give_at, put_word, at_position, put_from, if_fits, put_by}

abbrev Leads : Tree → ℕ → Type 0
Leads t n = set.contains (leaves t) n ≡ true

abbrev Holds : Tree → FinSet nat_cmp → Type 0
Holds t s = (k : ℕ) → set.contains s k ≡ true → Leads t k

empty_holds : (t : Tree) → Holds t set.empty
empty_holds t k h = absurd (false≢true (sym (contains-empty nat_cmp k) ∙ h))

insert_holds : (t : Tree) (s : FinSet nat_cmp) (n : ℕ) → Holds t s → Leads t n → Holds t (set.insert s n)
insert_holds t s n holds leads k h = step (eq_by_cmp nat_cmp k n) refl (sym (contains-insert nat_cmp_total s n k) ∙ h)
  where
    step : (b : Bool) → eq_by_cmp nat_cmp k n ≡ b → (b || set.contains s k) ≡ true → Leads t k
    step true e g = subst (λ (q : ℕ). Leads t q) (sym (eqb-true k n (sym (by_cmp k n) ∙ e))) leads
    step false e g = holds k g

leaf_of : (ts : List Tree) (n : ℕ) → some_is is_leaf (slice_get ts n) ≡ true → leaf_flag ts n ≡ true
leaf_of [] n h = absurd (false≢true h)
leaf_of (t ∷ ts) zero h = h
leaf_of (t ∷ ts) (suc n) h = leaf_of ts n h

abbrev number_or : Option ℕ → ℕ
number_or None = 0
number_or (Some n) = n

if_leaf_leads : (t : Tree) (n k : ℕ) → if_leaf t n ≡ Some k → Leads t k
if_leaf_leads t n k h = step (some_is is_leaf (slice_get (numbered t) n)) refl h
  where
    step : (b : Bool) → some_is is_leaf (slice_get (numbered t) n) ≡ b → cond b (Some n) None ≡ Some k → Leads t k
    step true e g = subst (λ (q : ℕ). Leads t q) (ap number_or g) (in_leaves t n ∙ leaf_of (numbered t) n e)
    step false e g = absurd cc

leaf_number_leads : (t : Tree) (path : List ℕ) (k : ℕ) → leaf_number t path ≡ Some k → Leads t k
leaf_number_leads t path k h = step (number_at path t) h
  where
    step : (o : Option ℕ) → option_and_then (if_leaf t) o ≡ Some k → Leads t k
    step None g = absurd cc
    step (Some n) g = if_leaf_leads t n k g

abbrev first_or : Option (ℕ × List ℕ) → ℕ
first_or None = 0
first_or (Some p) = p.0

named_leads : (t : Tree) (path text : List ℕ) (p : ℕ × List ℕ) → named_leaf t (path, text) ≡ Some p → Leads t p.0
named_leads t path text p h = step (leaf_number t path) refl h
  where
    step : (o : Option ℕ) → leaf_number t path ≡ o → option_map (λ (n : ℕ). (n, text)) o ≡ Some p → Leads t p.0
    step None e g = absurd cc
    step (Some n) e g = subst (λ (q : ℕ). Leads t q) (ap first_or g) (leaf_number_leads t path n e)

by_path_leads : (t : Tree) (w : List ℕ) (p : ℕ × List ℕ) → by_path t w ≡ Some p → Leads t p.0
by_path_leads t w p h = step (split_word w) h
  where
    step : (o : Option (List ℕ × List ℕ)) → option_and_then (named_leaf t) o ≡ Some p → Leads t p.0
    step None g = absurd cc
    step (Some q) g = named_leads t q.0 q.1 p g

abbrev IsGood : Tree → Way → Type 0
IsGood t way.Paths = Unit {0}
IsGood t (way.Leaf n) = Leads t n
IsGood t (way.Choice n) = Leads t n

abbrev IsGoodIf : Tree → Option Way → Type 0
IsGoodIf t None = Unit {0}
IsGoodIf t (Some w) = IsGood t w

choice_good : (t : Tree) (o : Option ℕ) → ((n : ℕ) → o ≡ Some n → Leads t n) → IsGoodIf t (option_map way.Choice o)
choice_good t None leads = tt
choice_good t (Some n) leads = leads n refl

value_good : (t : Tree) (o : Option ℕ) → ((n : ℕ) → o ≡ Some n → Leads t n) → IsGoodIf t (value_way t o)
value_good t (Some n) leads = leads n refl
value_good t None leads = step (is_enum t)
  where
    step : (b : Bool) → IsGoodIf t (cond b (option_map way.Choice (leaf_number t (codes "value.index"))) None)
    step true = choice_good t (leaf_number t (codes "value.index")) (λ n e. leaf_number_leads t (codes "value.index") n e)
    step false = tt

way_good : (t : Tree) (first : List ℕ) → IsGoodIf t (way_of t first)
way_good t first = step (is_some (by_path t first))
  where
    step : (b : Bool) → IsGoodIf t (cond b (Some way.Paths) (value_way t (leaf_number t (codes "value"))))
    step true = tt
    step false = value_good t (leaf_number t (codes "value")) (λ n e. leaf_number_leads t (codes "value") n e)

target_leads : (w : Way) (t : Tree) (word : List ℕ) (p : ℕ × List ℕ) → IsGood t w → target w t word ≡ Some p → Leads t p.0
target_leads way.Paths t word p good h = by_path_leads t word p h
target_leads (way.Leaf n) t word p good h = subst (λ (q : ℕ). Leads t q) (ap first_or h) good
target_leads (way.Choice n) t word p good h = subst (λ (q : ℕ). Leads t q) (ap first_or h) good

abbrev HoldsIf : {E : Type 0} → Tree → Result (FinSet nat_cmp × Data) E → Type 0
HoldsIf t (Ok s) = Holds t s.0
HoldsIf t (Err e) = Unit {0}

made_holds : (t : Tree) (m : FinSet nat_cmp) (r : Result Data Cause) → Holds t m → HoldsIf t (made (λ (v : Data). (m, v)) r)
made_holds t m (Ok v) holds = holds
made_holds t m (Err c) holds = tt

module _ (w : Way) (choices : List (List ℕ)) (t : Tree) (good : IsGood t w) where
  word_holds : (s : FinSet nat_cmp × Data) (word : List ℕ) → Holds t s.0 → HoldsIf t (put_word w choices t s word)
  word_holds s word holds = step (target w t word) refl
    where
      step : (o : Option (ℕ × List ℕ)) → target w t word ≡ o → HoldsIf t (give_at w choices t s o)
      step None e = tt
      step (Some p) e = made_holds t (set.insert s.0 p.0) (put_at (give w choices (not (set.contains s.0 p.0)) p.1) p.0 t s.1) (insert_holds t s.0 p.0 holds (target_leads w t word p good e))

  words_hold : (position : ℕ) (s : FinSet nat_cmp × Data) (words : List (List ℕ)) → Holds t s.0 → HoldsIf t (put_from w choices t position s words)
  words_hold position s [] holds = holds
  words_hold position s (word ∷ words) holds = step (λ after h. words_hold (position + 1) after words h) (put_word w choices t s word) (word_holds s word holds)
    where
      step : ((after : FinSet nat_cmp × Data) → Holds t after.0 → HoldsIf t (put_from w choices t (position + 1) after words))
          → (r : Result (FinSet nat_cmp × Data) Cause) → HoldsIf t r → HoldsIf t (and_then (λ (after : FinSet nat_cmp × Data). put_from w choices t (position + 1) after words) (at_position position r))
      step rest (Ok after) h = rest after h
      step rest (Err c) h = tt

fitting_holds : (t : Tree) (last : ℕ) (s : FinSet nat_cmp × Data) → Holds t s.0 → HoldsIf t (if_fits t last s)
fitting_holds t last s holds = step (fits_of 16 s.1 t)
  where
    step : (b : Bool) → HoldsIf t (cond b (Ok s) (Err (OutOfRange last)))
    step true = holds
    step false = tt

by_holds : (t : Tree) (v : Data) (words : List (List ℕ)) (o : Option Way) → IsGoodIf t o → HoldsIf t (put_by t v words o)
by_holds t v words None good = tt
by_holds t v words (Some w) good = step (put_from w (choices_of t v) t 0 (set.empty, v) words) (words_hold w (choices_of t v) t good 0 (set.empty, v) words (empty_holds t))
  where
    step : (r : Result (FinSet nat_cmp × Data) PutText) → HoldsIf t r → HoldsIf t (and_then (if_fits t (length words - 1)) r)
    step (Ok s) h = fitting_holds t (length words - 1) s h
    step (Err e) h = tt

-- what words give are leaves
pub put_holds : (t : Tree) (v : Data) (words : List (List ℕ)) (first : List ℕ) (w : Way) (s : FinSet nat_cmp × Data) → Some w ≡ way_of t first → put_by t v words (Some w) ≡ Ok s
    → (k : ℕ) → set.contains s.0 k ≡ true → set.contains (leaves t) k ≡ true
put_holds t v words first w s is put =
    let good : IsGoodIf t (Some w) = subst (λ (o : Option Way). IsGoodIf t o) (sym is) (way_good t first) in
    subst (λ (r : Result (FinSet nat_cmp × Data) PutText). HoldsIf t r) put (by_holds t v words (Some w) good)
