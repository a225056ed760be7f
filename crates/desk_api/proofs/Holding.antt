-- The records that entries hold.
use Rattle.std.specs.Prelude.{◌≡◌, ℕ, zero, suc, ◌+◌, ◌<◌, ◌≤◌, ◌==◌, ◌||◌, Bool, IsTrue, List, [], ◌∷◌, ◌++◌, length, Option, Some, None, set, slice_get, refl}
use Rattle.std.specs.List.{AllByRecursion, filter, list_all, list_any, range_with_len}
use Rattle.std.proofs.Common.{true, false, cond, arith, sym, ◌∙◌, ap, subst, eq-eqb, ltb}
use Rattle.std.proofs.lemmas.Bool.{false≢true, eqb-true, ltb-true, ltb-false}
use Rattle.std.proofs.lemmas.Bool.Decides.{same_from_decides}
use Rattle.rec_kinds.specs.Configs.{Config}
use Rattle.rec_kinds.specs.declared.datum.Action.{Action}
use Rattle.rec_kinds.specs.declared.state.RecState.{RecState}
use Rattle.journal_core.specs.Legality.{AreProcessed, IsDone}
use Rattle.journal_core.specs.Moments.{Moment}
use Rattle.histories.proofs.Prefixes.{element_within}
use Rattle.std.specs.List.Sorted.{IsStrictlyIncreasing}
use Rattle.std.proofs.lemmas.List.Folds.{list_any-append}
use Rattle.group_view.specs.Leaves.{footprint}
use Rattle.desk_api.proofs.Noting.{here, later, some_place, all_from_each, one_of_all, or_false}
use Rattle.desk_api.proofs.Reaching.{footprint_below}
use Rattle.desk_api.proofs.Rising.{filter_rising}
use Rattle.desk_api.proofs.Showing.{over_at}
use Rattle.desk_api.specs.Sites.{AreOver}
use Rattle.desk_api.specs.Grouping.{is_among}
use Rattle.desk_api.specs.Puts.{footprint_by, footprint_with, is_held, is_held_with}
use Rattle.desk_api.specs.declared.history.SiteData.{SiteData}

-- a number that passes a test stands in the filtered range

keeps_by : (test : Bool) (a n : ℕ) (rest : List ℕ) → is_among rest n ≡ true → is_among (cond test (a ∷ rest) rest) n ≡ true
keeps_by true a n rest is = later a rest n is
keeps_by false a n rest is = is

in_range : (p : ℕ → Bool) (count a n : ℕ) → a ≤ n → n < a + count → p n ≡ true → is_among (filter p (range_with_len a count)) n ≡ true
in_range p zero a n least most passes = absurd (omega (arith, least, most))
in_range p (suc count) a n least most passes = first_or_later (ltb a n) refl (λ above. in_range p count (a + 1) n above (omega (arith, most)) passes) where
  first_or_later : (less : Bool) → ltb a n ≡ less → (a + 1 ≤ n → is_among (filter p (range_with_len (a + 1) count)) n ≡ true)
      → is_among (cond (p a) (a ∷ filter p (range_with_len (a + 1) count)) (filter p (range_with_len (a + 1) count))) n ≡ true
  first_or_later true is more = let less : a < n = ltb-true a n is in keeps_by (p a) a n (filter p (range_with_len (a + 1) count)) (more (omega (arith, less)))
  first_or_later false is more =
      let same : a ≡ n = omega (arith, least, ltb-false a n is) in
      let first : p a ≡ true = ap p same ∙ passes in
      rw first (subst (λ (j : ℕ). is_among (a ∷ filter p (range_with_len (a + 1) count)) j ≡ true) same (here a (filter p (range_with_len (a + 1) count))))

-- ---- what an action writes is held

pub turned_eq : (a b : ℕ) → (a == b) ≡ (b == a)
turned_eq a b = same_from_decides {P = a ≡ b} (a == b) (b == a) ((λ e. eqb-true a b e), (λ e. eq-eqb a b e)) ((λ e. sym (eqb-true b a e)), (λ e. eq-eqb b a (sym e)))

or_true : (b : Bool) → (b || true) ≡ true
or_true true = refl
or_true false = refl

holds_own : (site : SiteData) (rec : ℕ) → is_held_with site rec rec ≡ true
holds_own site rec = rw (eq-eqb rec rec refl) refl

abbrev AreHeld : SiteData → List (ℕ × Action) → List (ℕ × Action) → Type 0
AreHeld site whole actions = AllByRecursion (λ action. is_held site whole action.0 ≡ true) actions

held_more : (site : SiteData) (a : ℕ × Action) (whole actions : List (ℕ × Action)) → AreHeld site whole actions → AreHeld site (a ∷ whole) actions
held_more site a whole [] held = tt
held_more site a whole (x ∷ actions) held = (rw held.0 (or_true (is_held_with site x.0 a.0)), held_more site a whole actions held.1)

pub each_held : (site : SiteData) (actions : List (ℕ × Action)) → AreHeld site actions actions
each_held site [] = tt
each_held site (a ∷ actions) = (rw (holds_own site a.0) refl, held_more site a actions actions (each_held site actions))

configured : (site : SiteData) (states : List RecState) (moment : Moment) (action : ℕ × Action) (drove : Bool) (write : ℕ × RecState) (config : Option Config) (state : Option RecState)
    → slice_get site.configs action.0 ≡ config → IsDone config state moment action drove write → (action.0 < length site.configs) × (action.0 ≡ write.0)
configured site states moment action drove write (Some config) (Some state) is done = (element_within site.configs action.0 config is, sym (ap (λ (w : ℕ × RecState). w.0) done.write_is))
configured site states moment action drove write (Some config) None is done = absurd done
configured site states moment action drove write None state is done = absurd done

-- among these records are all that are held
abbrev HasHeld : SiteData → List (ℕ × Action) → List ℕ → Type 0
HasHeld site whole recs = (n : ℕ) → n < length site.configs → is_held site whole n ≡ true → is_among recs n ≡ true

inside_each : (site : SiteData) (whole : List (ℕ × Action)) (recs : List ℕ) → HasHeld site whole recs → (states : List RecState) (moment : Moment) (actions : List (ℕ × Action)) (drove : List Bool) (writes : List (ℕ × RecState))
    → AreHeld site whole actions → AreProcessed site.configs states moment actions drove writes
    → list_all (λ (write : ℕ × RecState). is_among recs write.0) writes ≡ true
inside_each site whole recs has states moment [] [] [] held done = refl
inside_each site whole recs has states moment [] [] (w ∷ writes) held done = absurd done
inside_each site whole recs has states moment [] (d ∷ drove) writes held done = absurd done
inside_each site whole recs has states moment (a ∷ actions) [] writes held done = absurd done
inside_each site whole recs has states moment (a ∷ actions) (d ∷ drove) [] held done = absurd done
inside_each site whole recs has states moment (a ∷ actions) (d ∷ drove) (w ∷ writes) held done =
    let at = configured site states moment a d w (slice_get site.configs a.0) (slice_get states a.0) refl done.0 in
    let first : is_among recs w.0 ≡ true = subst (λ (n : ℕ). is_among recs n ≡ true) at.1 (has a.0 at.0 held.0) in
    rw first (inside_each site whole recs has (set states w.0 w.1) moment actions drove writes held.1 done.1)

has_held : (site : SiteData) (actions : List (ℕ × Action)) → HasHeld site actions (footprint_by site actions)
has_held site actions n less held = in_range (is_held site actions) (length site.configs) 0 n (omega arith) (omega (arith, less)) held

has_held_with : (site : SiteData) (actions : List (ℕ × Action)) (looked : List ℕ) → HasHeld site actions (footprint_with site actions looked)
has_held_with site actions looked n less held =
    in_range (λ rec. is_held site actions rec || is_among looked rec) (length site.configs) 0 n (omega arith) (omega (arith, less)) (ap (λ (b : Bool). b || is_among looked n) held)

pub writes_inside : (site : SiteData) (states : List RecState) (moment : Moment) (actions : List (ℕ × Action)) (drove : List Bool) (writes : List (ℕ × RecState))
    → AreProcessed site.configs states moment actions drove writes → IsTrue (list_all (λ write. list_any (λ rec. rec == write.0) (footprint_by site actions)) writes)
writes_inside site states moment actions drove writes done = inside_each site actions (footprint_by site actions) (has_held site actions) states moment actions drove writes (each_held site actions) done

pub writes_inside_with : (site : SiteData) (states : List RecState) (moment : Moment) (actions : List (ℕ × Action)) (looked : List ℕ) (drove : List Bool) (writes : List (ℕ × RecState))
    → AreProcessed site.configs states moment actions drove writes → IsTrue (list_all (λ write. list_any (λ rec. rec == write.0) (footprint_with site actions looked)) writes)
writes_inside_with site states moment actions looked drove writes done =
    inside_each site actions (footprint_with site actions looked) (has_held_with site actions looked) states moment actions drove writes (each_held site actions) done

-- ---- what is held is there

held_here : (site : SiteData) (rec written : ℕ) (own read : Bool) → (rec == written) ≡ own → list_any (λ g. is_among (footprint g written) rec) site.groups ≡ read → AreOver site → written < length site.configs
    → (own || read) ≡ true → rec < length site.configs
held_here site rec written true read is reads over less held = let same : rec ≡ written = eqb-true rec written is in omega (arith, less, same)
held_here site rec written false read is reads over less held =
    let found = some_place (λ g. is_among (footprint g written) rec) site.groups (reads ∙ held) in
    footprint_below site.configs found.1 written rec (over_at site.configs site.groups found.0 found.1 over found.2) found.3

held_below : (site : SiteData) (rec written : ℕ) → AreOver site → written < length site.configs → is_held_with site rec written ≡ true → rec < length site.configs
held_below site rec written over less held = held_here site rec written (rec == written) (list_any (λ g. is_among (footprint g written) rec) site.groups) refl refl over less held

held_within : (site : SiteData) (actions : List (ℕ × Action)) (rec : ℕ) → AreOver site → AllByRecursion (λ a. a.0 < length site.configs) actions → is_held site actions rec ≡ true → rec < length site.configs
held_within site [] rec over within held = absurd (false≢true held)
held_within site (a ∷ actions) rec over within held = first_or_later (is_held_with site rec a.0) refl (λ e. held_within site actions rec over within.1 e) held where
  first_or_later : (b : Bool) → is_held_with site rec a.0 ≡ b → (is_held site actions rec ≡ true → rec < length site.configs) → (b || is_held site actions rec) ≡ true → rec < length site.configs
  first_or_later true is later e = held_below site rec a.0 over within.0 is
  first_or_later false is later e = later e

either_within : (site : SiteData) (actions : List (ℕ × Action)) (looked : List ℕ) (rec : ℕ) → AreOver site → AllByRecursion (λ a. a.0 < length site.configs) actions → AllByRecursion (λ r. r < length site.configs) looked
    → (held : Bool) → is_held site actions rec ≡ held → (held || is_among looked rec) ≡ true → rec < length site.configs
either_within site actions looked rec over within below true is e = held_within site actions rec over within is
either_within site actions looked rec over within below false is e = one_of_all (λ r. r < length site.configs) looked rec below e

-- Numbers that rise, and among which are the held records and those that are looked at, are the footprint.
pub is_footprint : (site : SiteData) (actions : List (ℕ × Action)) (looked recs : List ℕ) → AreOver site → AllByRecursion (λ a. a.0 < length site.configs) actions → AllByRecursion (λ r. r < length site.configs) looked
    → IsStrictlyIncreasing recs → ((rec : ℕ) → is_among recs rec ≡ (is_held site actions rec || is_among looked rec)) → recs ≡ footprint_with site actions looked
is_footprint site actions looked recs over within below rises are =
    sym (filter_rising (λ rec. is_held site actions rec || is_among looked rec) recs (length site.configs) rises
    (all_from_each (λ rec. rec < length site.configs) recs (λ rec e. either_within site actions looked rec over within below (is_held site actions rec) refl (sym (are rec) ∙ e)))
    (λ rec. sym (are rec)))

-- where nothing is looked at the footprint is that of the actions alone
pub looks_at_none : (site : SiteData) (actions : List (ℕ × Action)) → footprint_with site actions [] ≡ footprint_by site actions
looks_at_none site actions = λ i. filter (λ rec. or_false (is_held site actions rec) i) (range_with_len 0 (length site.configs))

held_last_cases : (a b : Bool) → (a || (b || false)) ≡ (a || b)
held_last_cases true b = refl
held_last_cases false true = refl
held_last_cases false false = refl

-- one more action
pub held_last : (site : SiteData) (actions : List (ℕ × Action)) (a : ℕ × Action) (rec : ℕ) → is_held site (actions ++ a ∷ []) rec ≡ (is_held site actions rec || is_held_with site rec a.0)
held_last site actions a rec =
    list_any-append (λ (x : ℕ × Action). is_held_with site rec x.0) actions (a ∷ [])
    ∙ held_last_cases (is_held site actions rec) (is_held_with site rec a.0)
