-- Members, one after another.
use Rattle.std.proofs.Common.{◌≡◌, ℕ, suc, ◌+◌, ◌<◌, Bool, true, false, ◌&&◌, List, [], ◌∷◌, length, get_or, drop, refl, ap, add-one}
use Rattle.std.proofs.Math.Seq.{drop-cons}
use Rattle.std.specs.Str.{bytes_eq}
use Rattle.pvd_type.specs.Tree.{field}
use Rattle.pvd_type.specs.View.{member_view, members_view}
use Rattle.pvd_type.specs.Same.{same_fields}
use Rattle.pvd_type.specs.declared.shape.Member.{Member}

-- the members from place i on, where m stands at i
pub member_from : (ms : List Member) (i : ℕ) (m : Member) → i < length ms → get_or ms i m ≡ m → members_view (drop i ms) ≡ field (member_view m).0 (member_view m).1 (members_view (drop (i + 1) ms))
member_from ms i m within here = rw (drop-cons ms i m within, add-one, here) refl

and_false : (b : Bool) → (b && false) ≡ false
and_false true = refl
and_false false = refl

pub unequal_members : (xs ys : List Member) → (length xs ≡ length ys → ⊥) → same_fields (members_view xs) (members_view ys) ≡ false
unequal_members [] [] h = absurd (h refl)
unequal_members [] (y ∷ ys) h = refl
unequal_members (x ∷ xs) [] h = refl
unequal_members (x ∷ xs) (y ∷ ys) h =
    let rest = unequal_members xs ys (λ e. h (ap suc e)) in
    rw rest (rw and_false (and_false (bytes_eq (member_view x).0 (member_view y).0)))

pub same_first : (x y z r : Bool) → r ≡ (x && y) → r ≡ true → (x && (y && z)) ≡ z
same_first true true z r e h = refl
same_first true false z r e h = absurd cc
same_first false y z r e h = absurd cc

pub other_first : (x y z r : Bool) → r ≡ (x && y) → r ≡ false → (x && (y && z)) ≡ false
other_first true true z r e h = absurd cc
other_first true false z r e h = refl
other_first false y z r e h = refl
