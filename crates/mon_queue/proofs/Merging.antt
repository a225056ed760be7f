-- Runs are kept as merged updates.
use Rattle.std.proofs.Common.{◌≡◌, ℕ, ◌+◌, Bool, true, false, cond, ◌&&◌, ◌||◌, List, [], ◌∷◌, ◌++◌, length, map, refl, sym, ap, ◌∙◌, arith, inl, inr}
use Rattle.std.specs.Prelude.{nat_lt}
use Rattle.std.proofs.lemmas.Bool.{lt-ltb, le-ltb, cases_lt}
use Rattle.std.proofs.lemmas.List.{length-map, map-append}
use Rattle.std.specs.Ordering.{nat_cmp}
use Rattle.std.specs.Cmp.{nat_cmp_total}
use Rattle.std.specs.FinSet.{FinSet, contains, empty, union, intersection, retain, same_set, contains-retain, contains-union, contains-intersection, contains-empty, nat_cmp-IsAntisymmetric}
use Rattle.pvd_value.specs.LeafValues.{nothing, over}
use Rattle.mon_queue.specs.Runs.{Posted, Run, fresh, posts_in, joined, with_post, times, changed_in, overrun_in, newest_in, Told, update_of}
use Rattle.mon_queue.specs.Merged.{first_told, told_more, last_more, told_with}

pub same : (s t : FinSet nat_cmp) → ((q : ℕ) → contains s q ≡ contains t q) → s ≡ t
same s t h = same_set nat_cmp_total nat_cmp-IsAntisymmetric s t h

pub in_retain : (s : FinSet nat_cmp) (p : ℕ → Bool) (k : ℕ) → contains (retain s p) k ≡ (contains s k && p k)
in_retain s p k = contains-retain s p k (λ x e. ap p (sym (nat_cmp-IsAntisymmetric k x e)))

pub in_union : (s t : FinSet nat_cmp) (k : ℕ) → contains (union s t) k ≡ (contains s k || contains t k)
in_union s t k = contains-union nat_cmp_total s t k

pub in_both : (s t : FinSet nat_cmp) (k : ℕ) → contains (intersection s t) k ≡ (contains s k && contains t k)
in_both s t k = contains-intersection nat_cmp_total s t k

pub in_none : (k : ℕ) → contains (empty {R = nat_cmp}) k ≡ false
in_none k = contains-empty nat_cmp k

or_true : (b : Bool) → (b || true) ≡ true
or_true true = refl
or_true false = refl

or_false : (b : Bool) → (b || false) ≡ b
or_false true = refl
or_false false = refl

and_false : (b : Bool) → (b && false) ≡ false
and_false true = refl
and_false false = refl

-- a leaf is changed where it stands in a post
changed_if : (posts : List Posted) (k : ℕ) → contains (changed_in posts) k ≡ nat_lt 0 (times k posts)
changed_if [] k = in_none k
changed_if (p ∷ older) k =
    in_union (changed_in older) p.mask k ∙ ap (λ (b : Bool). b || contains p.mask k) (changed_if older k) ∙ step (contains p.mask k) (times k older)
  where
    step : (b : Bool) (n : ℕ) → (nat_lt 0 n || b) ≡ nat_lt 0 (cond b (n + 1) n)
    step true n = or_true (nat_lt 0 n) ∙ sym (lt-ltb 0 (n + 1) (omega arith))
    step false n = or_false (nat_lt 0 n)

overrun_if : (posts : List Posted) (k : ℕ) → contains (overrun_in posts) k ≡ nat_lt 1 (times k posts)
overrun_if posts k = in_retain (changed_in posts) (λ j. nat_lt 1 (times j posts)) k ∙ ap (λ (b : Bool). b && nat_lt 1 (times k posts)) (changed_if posts k) ∙ both (times k posts)
  where
    both : (n : ℕ) → (nat_lt 0 n && nat_lt 1 n) ≡ nat_lt 1 n
    both n =
        elim (cases_lt 1 n) [
          | inl lt ↦ rw (lt-ltb 1 n lt, lt-ltb 0 n (omega (arith, lt))) refl
          | inr le ↦ rw (le-ltb 1 n le) (and_false (nat_lt 0 n))
        ]

pub told_first : (p : Posted) → update_of (fresh p) ≡ first_told p
told_first p = λ i. record { changed = c i; overrun = o i; leaves = over p.mask nothing p.leaves }
  where
    c : union empty p.mask ≡ p.mask
    c = same (union empty p.mask) p.mask (λ k. in_union empty p.mask k ∙ ap (λ (b : Bool). b || contains p.mask k) (in_none k))

    one : (b : Bool) → nat_lt 1 (cond b (0 + 1) 0) ≡ false
    one true = refl
    one false = refl

    o : overrun_in (p ∷ []) ≡ empty
    o = same (overrun_in (p ∷ [])) empty (λ k. overrun_if (p ∷ []) k ∙ one (contains p.mask k) ∙ sym (in_none k))

pub told_joined : (r : Run) (p : Posted) → update_of (record { last = p; older = posts_in r }) ≡ told_more (update_of r) p
told_joined r p = λ i. record { changed = changed_in (p ∷ posts_in r); overrun = o i; leaves = newest_in (p ∷ posts_in r) }
  where
    step : (b : Bool) (n : ℕ) → nat_lt 1 (cond b (n + 1) n) ≡ ((b && nat_lt 0 n) || nat_lt 1 n)
    step true n =
        elim (cases_lt 0 n) [
          | inl lt ↦ rw (lt-ltb 1 (n + 1) (omega (arith, lt)), lt-ltb 0 n lt) refl
          | inr le ↦ rw (le-ltb 1 (n + 1) (omega (arith, le)), le-ltb 0 n le, le-ltb 1 n (omega (arith, le))) refl
        ]
    step false n = refl

    o : overrun_in (p ∷ posts_in r) ≡ union (intersection p.mask (changed_in (posts_in r))) (overrun_in (posts_in r))
    o = same (overrun_in (p ∷ posts_in r)) (union (intersection p.mask (changed_in (posts_in r))) (overrun_in (posts_in r))) (λ k.
        overrun_if (p ∷ posts_in r) k ∙ step (contains p.mask k) (times k (posts_in r))
        ∙ sym (in_union (intersection p.mask (changed_in (posts_in r))) (overrun_in (posts_in r)) k
        ∙ (λ i. in_both p.mask (changed_in (posts_in r)) k i || overrun_if (posts_in r) k i)
        ∙ ap (λ (b : Bool). (contains p.mask k && b) || nat_lt 1 (times k (posts_in r))) (changed_if (posts_in r) k)))

joined_told : (r : Run) (runs : List Run) (p : Posted) → map update_of (joined (r ∷ runs) p) ≡ last_more (map update_of (r ∷ runs)) p
joined_told r [] p = ap (λ (u : Told). u ∷ []) (told_joined r p)
joined_told r (s ∷ runs) p = ap (λ (us : List Told). update_of r ∷ us) (joined_told s runs p)

-- The updates of runs are kept without the posts.
pub added_is : (size : ℕ) (runs : List Run) (p : Posted) → map update_of (with_post size runs p) ≡ told_with size (map update_of runs) p
added_is size runs p = ap (λ (n : ℕ). map update_of (cond (nat_lt n size) (runs ++ fresh p ∷ []) (joined runs p))) (sym (length-map runs update_of)) ∙ step (nat_lt (length (map update_of runs)) size) runs
  where
    step : (b : Bool) (rs : List Run) → map update_of (cond b (rs ++ fresh p ∷ []) (joined rs p)) ≡ cond b (map update_of rs ++ first_told p ∷ []) (last_more (map update_of rs) p)
    step true rs = map-append update_of rs (fresh p ∷ []) ∙ ap (λ (u : Told). map update_of rs ++ u ∷ []) (told_first p)
    step false [] = refl
    step false (r ∷ rs) = joined_told r rs p
