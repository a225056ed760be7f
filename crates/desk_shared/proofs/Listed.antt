-- Lists by their places.
use Rattle.std.proofs.Common.{◌≡◌, ◌==◌, ◌||◌, ℕ, ◌<◌, ◌≤◌, zero, suc, Bool, true, false, List, [], ◌∷◌, ◌++◌, length, map, set, Option, None, Some, get_or, refl, sym, ◌∙◌, ap, subst, arith}
use Rattle.std.specs.Prelude.{is_some, slice_index_or}
use Rattle.std.specs.List.{slice_get, list_any, AllByRecursion}
use Rattle.std.specs.List.Sorted.{IsStrictlyIncreasing}
use Rattle.std.proofs.lemmas.Bool.{eq-eqb, eqb-true, false≢true}
use Rattle.std.proofs.lemmas.List.{length-map, length-set}
use Rattle.std.proofs.lemmas.List.Kept.{AllPairs-from_increasing}
use Rattle.std.proofs.lemmas.Option.{none-some, slice_get_within}
use Rattle.rec_kinds.specs.declared.state.RecState.{RecState}
use Rattle.histories.specs.History.{Every}
use Rattle.journal_core.specs.Histories.{written}
use Rattle.hall_locks.specs.Hands.{Rises}
use Rattle.desk_api.specs.Views.{AreStatesOf}
use Rattle.desk_core.specs.Ports.{ports_there}

-- ---- what stands at a place

abbrev or_else : {A : Type 0} → A → Option A → A
or_else d None = d
or_else d (Some z) = z

pub some_same : {A : Type 0} (a b : A) → Some a ≡ Some b → a ≡ b
some_same a b e = ap (or_else a) e

pub got_or : {A : Type 0} (xs : List A) (n : ℕ) (x d : A) → slice_get xs n ≡ Some x → slice_index_or xs n d ≡ x
got_or [] n x d is = absurd (none-some x is)
got_or (y ∷ xs) zero x d is = some_same y x is
got_or (y ∷ xs) (suc n) x d is = got_or xs n x d is

pub set_there : {A : Type 0} (xs : List A) (n : ℕ) (x : A) → n < length xs → slice_get (set xs n x) n ≡ Some x
set_there [] n x less = absurd (omega (arith, less))
set_there (y ∷ xs) zero x less = refl
set_there (y ∷ xs) (suc n) x less = set_there xs n x (omega (arith, less))

pub set_elsewhere : {A : Type 0} (xs : List A) (k j : ℕ) (x : A) → (k ≡ j → ⊥) → slice_get (set xs k x) j ≡ slice_get xs j
set_elsewhere [] k j x apart = refl
set_elsewhere (y ∷ xs) zero zero x apart = absurd (apart refl)
set_elsewhere (y ∷ xs) zero (suc j) x apart = refl
set_elsewhere (y ∷ xs) (suc k) zero x apart = refl
set_elsewhere (y ∷ xs) (suc k) (suc j) x apart = set_elsewhere xs k j x (λ e. apart (ap suc e))

pub at_end : {A : Type 0} (xs : List A) (x : A) → slice_get (xs ++ x ∷ []) (length xs) ≡ Some x
at_end [] x = refl
at_end (y ∷ xs) x = at_end xs x

-- what is there within the list
pub some_there : {A : Type 0} (xs : List A) (n : ℕ) → n < length xs → (x : A) × (slice_get xs n ≡ Some x)
some_there [] n less = absurd (omega (arith, less))
some_there (x ∷ xs) zero less = (x, refl)
some_there (x ∷ xs) (suc n) less = some_there xs n (omega (arith, less))

pub past_end : {A : Type 0} (xs : List A) (n : ℕ) → length xs ≤ n → slice_get xs n ≡ None
past_end [] n past = refl
past_end (x ∷ xs) zero past = absurd (omega (arith, past))
past_end (x ∷ xs) (suc n) past = past_end xs n (omega (arith, past))

-- lists with the same at each place are the same
pub same_lists : {A : Type 0} (xs ys : List A) → ((n : ℕ) → slice_get xs n ≡ slice_get ys n) → xs ≡ ys
same_lists [] [] each = refl
same_lists [] (y ∷ ys) each = absurd (none-some y (each 0))
same_lists (x ∷ xs) [] each = absurd (none-some x (sym (each 0)))
same_lists (x ∷ xs) (y ∷ ys) each =
    let head : x ≡ y = some_same x y (each 0) in
    let tail : xs ≡ ys = same_lists xs ys (λ n. each (suc n)) in
    λ i. head i ∷ tail i

-- ---- what is among numbers

here_or : (a b : Bool) → a ≡ true → (a || b) ≡ true
here_or true b is = refl
here_or false b is = absurd (false≢true is)

later_or : (a b : Bool) → b ≡ true → (a || b) ≡ true
later_or true b is = refl
later_or false b is = is

no_first : (a b : Bool) → (a || b) ≡ false → a ≡ false
no_first true b is = absurd (false≢true (sym is))
no_first false b is = refl

no_later : (a b : Bool) → (a || b) ≡ false → b ≡ false
no_later true b is = absurd (false≢true (sym is))
no_later false b is = is

abbrev pub among : List ℕ → ℕ → Bool
among recs k = list_any (λ (r : ℕ). r == k) recs

pub among_there : (recs : List ℕ) (j r : ℕ) → slice_get recs j ≡ Some r → among recs r ≡ true
among_there [] j r is = absurd (none-some r is)
among_there (x ∷ recs) zero r is = here_or (x == r) (among recs r) (eq-eqb x r (some_same x r is))
among_there (x ∷ recs) (suc j) r is = later_or (x == r) (among recs r) (among_there recs j r is)

pub not_among : (recs : List ℕ) (k j r : ℕ) → among recs k ≡ false → slice_get recs j ≡ Some r → r ≡ k → ⊥
not_among recs k j r out is same = false≢true (sym out ∙ ap (among recs) (sym same) ∙ among_there recs j r is)

-- where it stands
pub place_among : (recs : List ℕ) (k : ℕ) → among recs k ≡ true → (j : ℕ) × (slice_get recs j ≡ Some k)
place_among [] k is = absurd (false≢true is)
place_among (x ∷ recs) k is = first (x == k) refl (λ found. place_among recs k found) is where
  first : (b : Bool) → (x == k) ≡ b → (among recs k ≡ true → (j : ℕ) × (slice_get recs j ≡ Some k)) → (b || among recs k) ≡ true → (j : ℕ) × (slice_get (x ∷ recs) j ≡ Some k)
  first true same later found = (0, ap (λ (n : ℕ). Some n) (eqb-true x k same))
  first false same later found = let more = later found in (suc more.0, more.1)

pub each_within : (count : ℕ) (recs : List ℕ) (j r : ℕ) → AllByRecursion (λ (rec : ℕ). rec < count) recs → slice_get recs j ≡ Some r → r < count
each_within count [] j r all is = absurd (none-some r is)
each_within count (x ∷ recs) zero r all is = subst (λ (n : ℕ). n < count) (some_same x r is) all.0
each_within count (x ∷ recs) (suc j) r all is = each_within count recs j r all.1 is

-- ---- numbers in rising order

pub rise : (recs : List ℕ) (i j a b : ℕ) → IsStrictlyIncreasing recs → i < j → slice_get recs i ≡ Some a → slice_get recs j ≡ Some b → a < b
rise recs i j a b rises less at_i at_j =
    let below : slice_index_or recs i 0 < slice_index_or recs j 0 = AllPairs-from_increasing recs rises i j 0 less (slice_get_within recs j b at_j) in
    subst (λ (n : ℕ). n < b) (got_or recs i a 0 at_i) (subst (λ (n : ℕ). slice_index_or recs i 0 < n) (got_or recs j b 0 at_j) below)

pub every_from_each : (P : ℕ → Type 0) (recs : List ℕ) → ((j r : ℕ) → slice_get recs j ≡ Some r → P r) → Every P recs
every_from_each P [] each = tt
every_from_each P (x ∷ recs) each = (each 0 x refl, every_from_each P recs (λ j r is. each (suc j) r is))

rises_each : (recs : List ℕ) → ((i j a b : ℕ) → i < j → slice_get recs i ≡ Some a → slice_get recs j ≡ Some b → a < b) → Rises recs
rises_each [] each = tt
rises_each (x ∷ recs) each = (
  every_from_each (λ (d : ℕ). x < d) recs (λ j r is. each 0 (suc j) x r (omega arith) refl is),
  rises_each recs (λ i j a b less at_i at_j. each (suc i) (suc j) a b (omega (arith, less)) at_i at_j),
)

pub rises_of : (recs : List ℕ) → IsStrictlyIncreasing recs → Rises recs
rises_of recs rises = rises_each recs (λ i j a b less at_i at_j. rise recs i j a b rises less at_i at_j)

pub every_of_all : (P : ℕ → Type 0) (recs : List ℕ) → AllByRecursion P recs → Every P recs
every_of_all P [] all = tt
every_of_all P (x ∷ recs) all = (all.0, every_of_all P recs all.1)

-- ---- states of records

pub states_from_each : (states : List RecState) (recs : List ℕ) (found : List RecState) → length found ≡ length recs
    → ((j r : ℕ) → slice_get recs j ≡ Some r → slice_get found j ≡ slice_get states r) → AreStatesOf states recs found
states_from_each states [] [] many each = refl
states_from_each states [] (s ∷ found) many each = absurd (omega (arith, many))
states_from_each states (r ∷ recs) [] many each = absurd (omega (arith, many))
states_from_each states (r ∷ recs) (s ∷ found) many each =
    let head : Some s ≡ slice_get states r = each 0 r refl in
    let tail : AreStatesOf states recs found = states_from_each states recs found (omega (arith, many)) (λ j n is. each (suc j) n is) in
    λ i. head i ∷ tail i

abbrev head_of : {A : Type 0} → A → List A → A
head_of d [] = d
head_of d (x ∷ xs) = x

abbrev tail_of : {A : Type 0} → List A → List A
tail_of [] = []
tail_of (x ∷ xs) = xs

no_cons : {A : Type 0} (x : A) (xs : List A) → [] ≡ x ∷ xs → ⊥
no_cons x xs e = let n : 0 ≡ suc (length xs) = ap length e in absurd (omega (arith, n))

pub each_from_states : (states : List RecState) (recs : List ℕ) (found : List RecState) → AreStatesOf states recs found
    → (j r : ℕ) → slice_get recs j ≡ Some r → slice_get found j ≡ slice_get states r
each_from_states states [] found are j r is = absurd (none-some r is)
each_from_states states (x ∷ recs) [] are j r is = absurd (no_cons (slice_get states x) (map (λ (rec : ℕ). slice_get states rec) recs) are)
each_from_states states (x ∷ recs) (s ∷ found) are zero r is =
    ap (λ (l : List (Option RecState)). head_of None l) are ∙ ap (slice_get states) (some_same x r is)
each_from_states states (x ∷ recs) (s ∷ found) are (suc j) r is =
    each_from_states states recs found (ap (λ (l : List (Option RecState)). tail_of l) are) j r is

pub many_states : (states : List RecState) (recs : List ℕ) (found : List RecState) → AreStatesOf states recs found → length found ≡ length recs
many_states states [] [] are = refl
many_states states [] (s ∷ found) are = absurd (no_cons (Some s) (map (λ (z : RecState). Some z) found) (sym are))
many_states states (x ∷ recs) [] are = absurd (no_cons (slice_get states x) (map (λ (rec : ℕ). slice_get states rec) recs) are)
many_states states (x ∷ recs) (s ∷ found) are = ap suc (many_states states recs found (ap (λ (l : List (Option RecState)). tail_of l) are))

-- two that are the states of the same records
pub same_states : (states : List RecState) (recs : List ℕ) (found more : List RecState) → AreStatesOf states recs found → AreStatesOf states recs more → found ≡ more
same_states states recs found more a b = maps_same found more (a ∙ sym b) where
  maps_same : (xs ys : List RecState) → map Some xs ≡ map Some ys → xs ≡ ys
  maps_same [] [] e = refl
  maps_same [] (y ∷ ys) e = absurd (no_cons (Some y) (map Some ys) e)
  maps_same (x ∷ xs) [] e = absurd (no_cons (Some x) (map Some xs) (sym e))
  maps_same (x ∷ xs) (y ∷ ys) e =
      let head : x ≡ y = some_same x y (ap (λ (l : List (Option RecState)). head_of None l) e) in
      let tail : xs ≡ ys = maps_same xs ys (ap (λ (l : List (Option RecState)). tail_of l) e) in
      λ i. head i ∷ tail i

-- the same writes over states that agree at a place leave them agreeing there
set_agrees : (a b : List RecState) (n k : ℕ) (s : RecState) → length a ≡ length b → slice_get a k ≡ slice_get b k → slice_get (set a n s) k ≡ slice_get (set b n s) k
set_agrees [] [] n k s long same = refl
set_agrees [] (y ∷ b) n k s long same = absurd (omega (arith, long))
set_agrees (x ∷ a) [] n k s long same = absurd (omega (arith, long))
set_agrees (x ∷ a) (y ∷ b) zero zero s long same = refl
set_agrees (x ∷ a) (y ∷ b) zero (suc k) s long same = same
set_agrees (x ∷ a) (y ∷ b) (suc n) zero s long same = same
set_agrees (x ∷ a) (y ∷ b) (suc n) (suc k) s long same = set_agrees a b n k s (omega (arith, long)) same

pub written_count : (states : List RecState) (writes : List (ℕ × RecState)) → length (written states writes) ≡ length states
written_count states [] = refl
written_count states (w ∷ writes) = written_count (set states w.0 w.1) writes ∙ length-set states w.0 w.1

pub written_agrees : (a b : List RecState) (writes : List (ℕ × RecState)) (k : ℕ) → length a ≡ length b → slice_get a k ≡ slice_get b k → slice_get (written a writes) k ≡ slice_get (written b writes) k
written_agrees a b [] k long same = same
written_agrees a b (w ∷ writes) k long same =
    written_agrees (set a w.0 w.1) (set b w.0 w.1) writes k (length-set a w.0 w.1 ∙ long ∙ sym (length-set b w.0 w.1)) (set_agrees a b w.0 k w.1 long same)

-- ---- what a loop over places reads

pub got_at : (xs : List ℕ) (n : ℕ) → n < length xs → slice_get xs n ≡ Some (get_or xs n 0)
got_at [] n less = absurd (omega (arith, less))
got_at (x ∷ xs) zero less = refl
got_at (x ∷ xs) (suc n) less = got_at xs n (omega (arith, less))

pub as_many_there : {X : Type 0} (ports more : List (Option X)) → ports_there more ≡ ports_there ports → length more ≡ length ports
as_many_there ports more same =
    sym (length-map more (λ (o : Option _). is_some o)) ∙ ap length same ∙ length-map ports (λ (o : Option _). is_some o)
