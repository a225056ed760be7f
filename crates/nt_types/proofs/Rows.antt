-- Members made one by one, and structures with another number of members.
use Rattle.std.proofs.Common.{◌≡◌, ℕ, ◌+◌, ◌<◌, false, List, [], ◌∷◌, ◌++◌, length, take, get_or, refl, ap, sym, ◌∙◌}
use Rattle.std.proofs.lemmas.List.{take_more}
use Rattle.pvd_type.specs.Tree.{Tree, node, struct, Fields, field}
use Rattle.pvd_type.specs.View.{member_view, members_view}
use Rattle.pvd_type.specs.declared.shape.Member.{Member}
use Rattle.pvd_type.specs.declared.shape.Scalar.{Scalar}
use Rattle.nt_types.specs.Kinds.{is_choice}
use Rattle.nt_types.specs.Types.{at_end, fields_by}

pub members_more : (ms : List Member) (m : Member) → members_view (ms ++ m ∷ []) ≡ at_end (members_view ms) (member_view m)
members_more [] m = refl
members_more (x ∷ ms) m = ap (field (member_view x).0 (member_view x).1) (members_more ms m)

fields_more : (shape : Scalar → Tree) (cs : List (List ℕ × Scalar)) (c : List ℕ × Scalar) →
    fields_by shape (cs ++ c ∷ []) ≡ at_end (fields_by shape cs) (c.0, shape c.1)
fields_more shape [] c = refl
fields_more shape (x ∷ cs) c = ap (field x.0 (shape x.1)) (fields_more shape cs c)

pub made_more : (shape : Scalar → Tree) (cs : List (List ℕ × Scalar)) (i : ℕ) (x : List ℕ × Scalar) (ms after : Fields) →
    i < length cs → get_or cs i x ≡ x → ms ≡ fields_by shape (take i cs) → after ≡ at_end ms (x.0, shape x.1) → after ≡ fields_by shape (take (i + 1) cs)
made_more shape cs i x ms after short here so_far more =
    more
    ∙ (ap (λ fs. at_end fs (x.0, shape x.1)) so_far
    ∙ (sym (fields_more shape (take i cs) x)
    ∙ (ap (λ (y : List ℕ × Scalar). fields_by shape (take i cs ++ y ∷ [])) (sym here)
    ∙ ap (fields_by shape) (sym (take_more cs i x short)))))

-- a structure with another number of members than two
pub not_two : (id : List ℕ) (ms : List Member) → (length ms ≡ 2 → ⊥) → false ≡ is_choice (node struct id (members_view ms))
not_two id [] h = refl
not_two id (x ∷ []) h = refl
not_two id (x ∷ y ∷ []) h = absurd (h refl)
not_two id (x ∷ y ∷ z ∷ ms) h = refl
