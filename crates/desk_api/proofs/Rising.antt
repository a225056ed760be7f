-- Numbers that rise.
use Rattle.std.specs.Prelude.{◌≡◌, ℕ, zero, suc, ◌+◌, ◌<◌, ◌≤◌, ◌==◌, Bool, List, [], ◌∷◌, length, slice_index_or, slice_get, Some, refl, ⊤}
use Rattle.std.specs.List.{filter, range_with_len, AllByRecursion, Contains}
use Rattle.std.specs.List.Sorted.{IsStrictlyIncreasing, IsStrictlySortedBy}
use Rattle.std.specs.Ordering.{nat_cmp}
use Rattle.std.specs.declared.cmp.Ordering.TheVariants.{Less}
use Rattle.std.proofs.Common.{true, false, cond, arith, sym, ◌∙◌, ap, subst, eq-eqb, eqb, ltb}
use Rattle.std.proofs.lemmas.Bool.{eqb-true, ne_eqb, ltb-true, ltb-false}
use Rattle.std.proofs.lemmas.Bool.Decides.{same_from_decides}
use Rattle.std.proofs.lemmas.Map.Keys.{sorted_from_strictly_increasing, sorted_head, sorted_tail, any_passes_from_place, below_from_sorted}
use Rattle.std.proofs.lemmas.Map.Views.{Contains-from_any}
use Rattle.desk_api.specs.Grouping.{is_among}

less_from_cmp : (x y : ℕ) → nat_cmp x y ≡ Less → x < y
unfolding IsStrictlySortedBy
less_from_cmp x y is = below_from_sorted (x ∷ y ∷ []) 0 1 0 ((is, tt), (tt, tt)) (omega arith) (omega arith)

get-place : (xs : List ℕ) (k x : ℕ) → k < length xs → slice_index_or xs k x ≡ x → slice_get xs k ≡ Some x
get-place [] k x less is = absurd (omega (arith, less))
get-place (y ∷ xs) zero x less is = ap Some is
get-place (y ∷ xs) (suc k) x less is = get-place xs k x (omega (arith, less)) is

-- each is above the one before it, and the first is at least this
abbrev pub Rises : ℕ → List ℕ → Type 0
Rises a [] = ⊤
Rises a (k ∷ ks) = (a ≤ k) × Rises (k + 1) ks

below_is_new : (a : ℕ) (ks : List ℕ) (r : ℕ) → Rises a ks → r < a → is_among ks r ≡ false
below_is_new a [] r rises less = refl
below_is_new a (k ∷ ks) r rises less =
    let apart : eqb k r ≡ false = ne_eqb k r (λ same. absurd (omega (arith, rises.0, less, same))) in
    rw apart (below_is_new (k + 1) ks r rises.1 (omega (arith, rises.0, less)))

head_is : (k : ℕ) (ks : List ℕ) → is_among (k ∷ ks) k ≡ true
head_is k ks = rw (eq-eqb k k refl) refl

tail_is : (k : ℕ) (ks : List ℕ) (r : ℕ) → k < r → is_among (k ∷ ks) r ≡ is_among ks r
tail_is k ks r less = rw (ne_eqb k r (λ same. absurd (omega (arith, less, same)))) refl

at_head : (p : ℕ → Bool) (n a k : ℕ) (ks : List ℕ) → a ≤ k → Rises (k + 1) ks → k < a + suc n → AllByRecursion (λ j. j < a + suc n) ks
    → ((r : ℕ) → a ≤ r → p r ≡ is_among (k ∷ ks) r)
    → ((ls : List ℕ) → Rises (a + 1) ls → AllByRecursion (λ j. j < a + 1 + n) ls → ((r : ℕ) → a + 1 ≤ r → p r ≡ is_among ls r) → filter p (range_with_len (a + 1) n) ≡ ls)
    → (less : Bool) → ltb a k ≡ less → cond (p a) (a ∷ filter p (range_with_len (a + 1) n)) (filter p (range_with_len (a + 1) n)) ≡ k ∷ ks
at_head p n a k ks le rises within below same more true is =
    let less : a < k = ltb-true a k is in
    let no : p a ≡ false = same a (omega arith) ∙ below_is_new (a + 1) (k ∷ ks) a (omega (arith, less), rises) (omega arith) in
    let wide : a + suc n ≡ a + 1 + n = omega arith in
    rw no (more (k ∷ ks) (omega (arith, less), rises) (subst (λ (m : ℕ). AllByRecursion (λ j. j < m) (k ∷ ks)) wide (within, below)) (λ r above. same r (omega (arith, above))))
at_head p n a k ks le rises within below same more false is =
    let not_less : k ≤ a = ltb-false a k is in
    let here : a ≡ k = omega (arith, le, not_less) in
    let yes : p a ≡ true = same a (omega arith) ∙ ap (is_among (k ∷ ks)) here ∙ head_is k ks in
    let wide : a + suc n ≡ a + 1 + n = omega arith in
    rw yes (λ i. here i ∷ more ks (subst (λ (m : ℕ). Rises (m + 1) ks) (sym here) rises) (subst (λ (m : ℕ). AllByRecursion (λ j. j < m) ks) wide below) (λ r above. same r (omega (arith, above)) ∙ tail_is k ks r (omega (arith, above, here))) i)

filter_rises : (p : ℕ → Bool) (n a : ℕ) (ks : List ℕ) → Rises a ks → AllByRecursion (λ k. k < a + n) ks → ((r : ℕ) → a ≤ r → p r ≡ is_among ks r) → filter p (range_with_len a n) ≡ ks
filter_rises p zero a [] rises below same = refl
filter_rises p zero a (k ∷ ks) rises below same = absurd (omega (arith, rises.0, below.0))
filter_rises p (suc n) a [] rises below same =
    rw (same a (omega arith)) (filter_rises p n (a + 1) [] tt tt (λ r le. same r (omega (arith, le))))
filter_rises p (suc n) a (k ∷ ks) rises below same = at_head p n a k ks rises.0 rises.1 below.0 below.1 same (filter_rises p n (a + 1)) (ltb a k) refl

after : (k : ℕ) (ks : List ℕ) → IsStrictlySortedBy nat_cmp ks → AllByRecursion (λ y. nat_cmp k y ≡ Less) ks → Rises (k + 1) ks
after k [] sorted above = tt
after k (j ∷ ks) sorted above =
    (omega (arith, less_from_cmp k j above.0), after j ks (sorted_tail nat_cmp j ks sorted) (sorted_head nat_cmp j ks sorted))

rises_from : (ks : List ℕ) → IsStrictlySortedBy nat_cmp ks → Rises 0 ks
rises_from [] sorted = tt
rises_from (k ∷ ks) sorted = (omega arith, after k ks (sorted_tail nat_cmp k ks sorted) (sorted_head nat_cmp k ks sorted))

-- The numbers below a bound that pass a test are those of a list that rises, where the test is whether a number is among them.
pub filter_rising : (p : ℕ → Bool) (ks : List ℕ) (n : ℕ) → IsStrictlyIncreasing ks → AllByRecursion (λ k. k < n) ks → ((r : ℕ) → p r ≡ is_among ks r) → filter p (range_with_len 0 n) ≡ ks
filter_rising p ks n rises below same =
    let zero_more : 0 + n ≡ n = omega arith in
    filter_rises p n 0 ks (rises_from ks (sorted_from_strictly_increasing ks rises)) (subst (λ (m : ℕ). AllByRecursion (λ k. k < m) ks) (sym zero_more) below) (λ r le. same r)

pub among_from_contains : (xs : List ℕ) (x : ℕ) → Contains xs x → is_among xs x ≡ true
among_from_contains xs x (k, less, is) = any_passes_from_place (λ m. m == x) xs k x (get-place xs k x less is) (eq-eqb x x refl)

pub contains_from_among : (xs : List ℕ) (x : ℕ) → is_among xs x ≡ true → Contains xs x
contains_from_among xs x is = Contains-from_any {eq = λ q y. y == q} (λ q y e. sym (eqb-true y q e)) x xs is

pub same_among : (xs ys : List ℕ) (x : ℕ) → (Contains xs x → Contains ys x) → (Contains ys x → Contains xs x) → is_among xs x ≡ is_among ys x
same_among xs ys x there back =
    same_from_decides {P = Contains xs x} (is_among xs x) (is_among ys x)
    ((λ e. contains_from_among xs x e), (λ e. among_from_contains xs x e))
    ((λ e. back (contains_from_among ys x e)), (λ e. among_from_contains ys x (there e)))
