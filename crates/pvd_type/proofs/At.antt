-- Where a number stands in lists that are joined.
use Rattle.std.proofs.Common.{◌≡◌, ℕ, zero, suc, ◌-◌, ◌<◌, ◌≤◌, List, [], ◌∷◌, ◌++◌, length, Option, Some, None, option_map, true, refl, arith, ap, sym, ◌∙◌}
use Rattle.std.specs.Prelude.{IsNone, ◌↔◌, slice_get}
use Rattle.pvd_type.specs.Tree.{Tree, leaf, node, struct, union, struct_list, union_list}
use Rattle.pvd_type.specs.Numbers.{is_leaf, numbered, number_of, leaves_from, sizes_of}

pub at_first : {X : Type 0} (k : ℕ) (xs ys : List X) → k < length xs → slice_get (xs ++ ys) k ≡ slice_get xs k
at_first k [] ys h = absurd (omega arith)
at_first zero (x ∷ xs) ys h = refl
at_first (suc k) (x ∷ xs) ys h = at_first k xs ys (omega arith)

pub at_past : {X : Type 0} (k : ℕ) (xs ys : List X) → length xs ≤ k → slice_get (xs ++ ys) k ≡ slice_get ys (k - length xs)
at_past k [] ys h = let e : k ≡ k - 0 = omega arith in ap (slice_get ys) e
at_past zero (x ∷ xs) ys h = absurd (omega arith)
at_past (suc k) (x ∷ xs) ys h =
    let e : k - length xs ≡ suc k - suc (length xs) = omega arith in
    at_past k xs ys (omega arith) ∙ ap (slice_get ys) e

-- there is no node just where the number is past the last
pub none_past : {T X : Type 0} (f : T → X) (r : Option T) (n : ℕ) (xs : List X) → option_map f r ≡ slice_get xs n → IsNone r ↔ (length xs ≤ n)
none_past f r n [] e = (λ _. omega arith, λ _. is_none f r e)
  where
    is_none : {T X : Type 0} (f : T → X) (r : Option T) → option_map f r ≡ None → IsNone r
    is_none f None e = refl
    is_none f (Some x) e = absurd cc
none_past f None zero (x ∷ xs) e = absurd cc
none_past f (Some y) zero (x ∷ xs) e = (λ h. absurd cc, λ h. absurd (omega arith))
none_past f r (suc n) (x ∷ xs) e = let h = none_past f r n xs e in (λ a. omega (arith, h.0 a), λ b. h.1 (omega arith))

-- Of a leaf: it has one number, its own, and no path leads on from it.
module _ (t : Tree) where
  pub lone : is_leaf t ≡ true → numbered t ≡ t ∷ []
  lone h = by t h
    where
      by : (t : Tree) → is_leaf t ≡ true → numbered t ≡ t ∷ []
      by (leaf l) h = refl
      by (node struct id fs) h = absurd cc
      by (node union id fs) h = refl
      by (node struct_list id fs) h = refl
      by (node union_list id fs) h = refl

  pub lone_size : is_leaf t ≡ true → sizes_of (numbered t) ≡ 1 ∷ []
  lone_size h = ap sizes_of (lone h) ∙ ap (λ ts. length ts ∷ []) (lone h)

  pub lone_leaf : (n : ℕ) → is_leaf t ≡ true → leaves_from n (numbered t) ≡ n ∷ []
  lone_leaf n h = ap (leaves_from n) (lone h) ∙ rw h refl

  pub lone_past : (n : ℕ) → (n ≡ 0 → ⊥) → is_leaf t ≡ true → None ≡ slice_get (numbered t) n
  lone_past zero other h = absurd (other refl)
  lone_past (suc n) other h = ap (λ ts. slice_get ts (suc n)) (sym (lone h))

  pub pathless : (name : List ℕ) (path : List (List ℕ)) → is_leaf t ≡ true → number_of (name ∷ path) t ≡ None
  pathless name path h = by t h
    where
      by : (t : Tree) → is_leaf t ≡ true → number_of (name ∷ path) t ≡ None
      by (leaf l) h = refl
      by (node struct id fs) h = absurd cc
      by (node union id fs) h = refl
      by (node struct_list id fs) h = refl
      by (node union_list id fs) h = refl
