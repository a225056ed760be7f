-- How the check of a list of nodes goes from one to the next.
use Rattle.std.proofs.Common.{◌≡◌, ℕ, ◌+◌, ◌<◌, suc, List, [], ◌∷◌, ◌++◌, length, get_or, take, drop, Option, Some, None, Ok, Global, refl, sym, ap, ◌∙◌, arith, add-one, add-zero}
use Rattle.std.proofs.lemmas.List.{length-append, take_more, map_push}
use Rattle.std.proofs.Math.Seq.{drop-cons}
use Rattle.std.specs.declared.sync.Arc.{Arc}
use Rattle.pvd_type.specs.Tree.{Tree, node, struct, Fields, field}
use Rattle.pvd_type.proofs.Shapes as shapes
use Rattle.pvd_type.specs.Check.{Visit, below, visits, fault_at, or_next, first_fault, Checks}
use Rattle.pvd_type.specs.View.{shape_view, shape_step, member_step, node_step, member_view, members_view, names_of}
use Rattle.pvd_type.specs.declared.shape.Member.{Member, fold_out-Member}
use Rattle.pvd_type.specs.declared.shape.Node.{Node, out-Node}
use Rattle.pvd_type.specs.declared.shape.Shape.{Struct}
use Rattle.pvd_type.specs.declared.checking.TypeFault.{TypeFault}

or_next-assoc : (a b c : Option TypeFault) → or_next (or_next a b) c ≡ or_next a (or_next b c)
or_next-assoc None b c = refl
or_next-assoc (Some f) b c = refl

pub first_fault-append : (k : ℕ) (xs ys : List Visit) → first_fault k (xs ++ ys) ≡ or_next (first_fault k xs) (first_fault (k + length xs) ys)
first_fault-append k [] ys = ap (λ n. first_fault n ys) (sym (add-zero k))
first_fault-append k (x ∷ xs) ys =
    let n : (k + 1) + length xs ≡ k + suc (length xs) = omega arith in
    ap (or_next (fault_at k x)) (first_fault-append (k + 1) xs ys ∙ ap (λ m. or_next (first_fault (k + 1) xs) (first_fault m ys)) n)
    ∙ sym (or_next-assoc (fault_at k x) (first_fault (k + 1) xs) (first_fault (k + suc (length xs)) ys))

abbrev visit : ℕ → List (List ℕ) → List ℕ → Visit
visit level before name = record { level = level; label = Some (record { name = name; before = before }) }

module _ (k level : ℕ) (before : List (List ℕ)) (name : List ℕ) (t : Tree) (fs : Fields) where
  pub bad_label : (f : TypeFault) → fault_at k (visit level before name) ≡ Some f → first_fault k (visits level before (field name t fs)) ≡ Some f
  bad_label f h = rw h

  pub bad_below : (f : TypeFault) → fault_at k (visit level before name) ≡ None → first_fault (k + 1) (below level t) ≡ Some f → first_fault k (visits level before (field name t fs)) ≡ Some f
  bad_below f h e = rw (h, first_fault-append, e)

  pub goes_on : (n : ℕ) → fault_at k (visit level before name) ≡ None → Checks (k + 1) (below level t) (Ok n)
      → (first_fault k (visits level before (field name t fs)) ≡ first_fault n (visits level (before ++ name ∷ []) fs))
      × (k + length (visits level before (field name t fs)) ≡ n + length (visits level (before ++ name ∷ []) fs))
  goes_on n h e = (
    rw (h, first_fault-append, e.0, e.1) refl,
    omega (arith, e.1, length-append (below level t) (visits level (before ++ name ∷ []) fs)),
  )

pub member_is : (m : Member) → member_view m ≡ (m.name, shape_view m.shape)
member_is m = fold_out-Member Tree (List ℕ × Tree) (List ℕ × Fields) shape_step member_step node_step m

-- a structure by its parts
pub struct_is : (n : Arc Node Global) → shape_view (Struct n) ≡ node struct (out-Node n.value).id (members_view (out-Node n.value).members.items)
struct_is n = shapes.struct_is n

-- the members from place i on, where m stands at i
module _ (ms : List Member) (i : ℕ) (m : Member) (within : i < length ms) (here : get_or ms i m ≡ m) where
  pub members_from : members_view (drop i ms) ≡ field m.name (shape_view m.shape) (members_view (drop (i + 1) ms))
  members_from = rw (drop-cons ms i m within, add-one, here, member_is m) refl

  pub names_to : names_of (take (i + 1) ms) ≡ names_of (take i ms) ++ m.name ∷ []
  names_to = ap names_of (take_more ms i m within) ∙ map_push (λ (x : Member). x.name) (take i ms) (get_or ms i m) ∙ rw here refl
