-- What was taken and what is unread folds to what the posts leave.
use Rattle.std.proofs.Common.{◌≡◌, ℕ, ◌≤◌, Bool, true, false, cond, ◌||◌, List, [], ◌∷◌, ◌++◌, length, map, Option, None, refl, ap, ◌∙◌, arith, append_assoc}
use Rattle.std.specs.Prelude.{nat_lt}
use Rattle.std.proofs.Math.Path.{fun_ext}
use Rattle.std.proofs.lemmas.Bool.{lt-ltb}
use Rattle.std.specs.FinSet.{contains}
use Rattle.pvd_value.specs.LeafValues.{LeafValues, over}
use Rattle.mon_queue.specs.Runs.{Posted, Run, fresh, posts_in, joined, with_post, without_oldest, changed_in, newest_in, Told, update_of, folded}
use Rattle.mon_queue.specs.Merged.{first_told, told_more}
use Rattle.mon_queue.specs.Course.{with_posts, taken_with}
use Rattle.mon_queue.proofs.Merging.{in_union, told_first, told_joined}

-- posts, merged in order
abbrev pub showing : LeafValues → List Posted → LeafValues
showing leaves [] = leaves
showing leaves (p ∷ posts) = showing (over p.mask leaves p.leaves) posts

pub folded_append : (us vs : List Told) (v : LeafValues) → folded v (us ++ vs) ≡ folded (folded v us) vs
folded_append [] vs v = refl
folded_append (u ∷ us) vs v = folded_append us vs (over u.changed v u.leaves)

-- an update with one more post, over what was there
over_more : (v : LeafValues) (u : Told) (p : Posted) → over (told_more u p).changed v (told_more u p).leaves ≡ over p.mask (over u.changed v u.leaves) p.leaves
over_more v u p = fun_ext (λ k. ap (λ (b : Bool). cond b (cond (contains p.mask k) (p.leaves k) (u.leaves k)) (v k)) (in_union u.changed p.mask k) ∙ step (contains u.changed k) (contains p.mask k) (p.leaves k) (u.leaves k) (v k))
  where
    step : {X : Type 0} (c m : Bool) (x y z : X) → cond (c || m) (cond m x y) z ≡ cond m x (cond c y z)
    step true true x y z = refl
    step true false x y z = refl
    step false true x y z = refl
    step false false x y z = refl

over_first : (v : LeafValues) (p : Posted) → over (first_told p).changed v (first_told p).leaves ≡ over p.mask v p.leaves
over_first v p = fun_ext (λ k. step (contains p.mask k) (p.leaves k) (v k))
  where
    step : {X : Type 0} (m : Bool) (x z : Option X) → cond m (cond m x None) z ≡ cond m x z
    step true x z = refl
    step false x z = refl

over_told : (v : LeafValues) (u w : Told) → u ≡ w → over u.changed v u.leaves ≡ over w.changed v w.leaves
over_told v u w e = ap (λ (x : Told). over x.changed v x.leaves) e

folded_fresh : (runs : List Run) (p : Posted) (v : LeafValues) → folded v (map update_of (runs ++ fresh p ∷ [])) ≡ over p.mask (folded v (map update_of runs)) p.leaves
folded_fresh [] p v = over_told v (update_of (fresh p)) (first_told p) (told_first p) ∙ over_first v p
folded_fresh (r ∷ runs) p v = folded_fresh runs p (over (changed_in (posts_in r)) v (newest_in (posts_in r)))

folded_joined : (r : Run) (runs : List Run) (p : Posted) (v : LeafValues) → folded v (map update_of (joined (r ∷ runs) p)) ≡ over p.mask (folded v (map update_of (r ∷ runs))) p.leaves
folded_joined r [] p v = over_told v (update_of (record { last = p; older = posts_in r })) (told_more (update_of r) p) (told_joined r p) ∙ over_more v (update_of r) p
folded_joined r (s ∷ runs) p v = folded_joined s runs p (over (changed_in (posts_in r)) v (newest_in (posts_in r)))

folded_post : (size : ℕ) (runs : List Run) (p : Posted) (v : LeafValues) → 1 ≤ size → folded v (map update_of (with_post size runs p)) ≡ over p.mask (folded v (map update_of runs)) p.leaves
folded_post size [] p v some = ap (λ (b : Bool). folded v (map update_of (cond b (fresh p ∷ []) []))) (lt-ltb 0 size (omega (arith, some))) ∙ folded_fresh [] p v
folded_post size (r ∷ runs) p v some = step (nat_lt (length (r ∷ runs)) size)
  where
    step : (b : Bool) → folded v (map update_of (cond b ((r ∷ runs) ++ fresh p ∷ []) (joined (r ∷ runs) p))) ≡ over p.mask (folded v (map update_of (r ∷ runs))) p.leaves
    step true = folded_fresh (r ∷ runs) p v
    step false = folded_joined r runs p v

-- posts keep what is unread folded
pub folded_posts : (size : ℕ) (posts : List Posted) (runs : List Run) (v : LeafValues) → 1 ≤ size → folded v (map update_of (with_posts size runs posts)) ≡ showing (folded v (map update_of runs)) posts
folded_posts size [] runs v some = refl
folded_posts size (p ∷ posts) runs v some = folded_posts size posts (with_post size runs p) v some ∙ ap (λ (x : LeafValues). showing x posts) (folded_post size runs p v some)

-- a first post, over what was there
pub folded_first : (p : Posted) (v : LeafValues) → folded v (map update_of (fresh p ∷ [])) ≡ over p.mask v p.leaves
folded_first p v = folded_fresh [] p v

-- a pop moves the oldest run
pub popped_same : (taken : List Told) (runs : List Run) → taken_with taken runs ++ map update_of (without_oldest runs) ≡ taken ++ map update_of runs
popped_same taken [] = refl
popped_same taken (r ∷ runs) = append_assoc taken (update_of r ∷ []) (map update_of runs)
