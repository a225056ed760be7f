-- Reading the marked leaves of members one after another, and of nodes without a marked one.
use Rattle.std.proofs.Common.{◌≡◌, ℕ, ◌+◌, Bool, List, length, Ok, refl, sym, ap, ◌∙◌, arith}
use Rattle.std.proofs.lemmas.List.{length-append}
use Rattle.pva_wire.specs.declared.order.Order.{Order}
use Rattle.pva_wire.specs.Reading.{◌>>=◌}
use Rattle.pvd_type.specs.Tree.{Tree, leaf, node, struct, union, struct_list, union_list, Fields, no_fields, field}
use Rattle.pvd_type.specs.Numbers.{numbered, numbered_fields}
use Rattle.pvd_value.specs.Blank.{blank_of, blank_row}
use Rattle.pvd_value.specs.Data.{Data, Row, more}
use Rattle.pvd_value.specs.View.{row_view}
use Rattle.pvd_value.specs.declared.value.PvValue.{PvValue}
use Rattle.pvd_value.proofs.Rows.{joined, joined_end}
use Rattle.pvd_value.proofs.Unmarked.{Misses}
use Rattle.pvd_codec.specs.declared.fault.ValueStop.{ValueStop}
use Rattle.pvd_codec.specs.Reading.{Read, State, Fails, slot_at, marked_with, marked_row}
use Rattle.pvd_codec.proofs.Steps.{with_row, over, along, bind_fails}

module _ (order : Order) (marked : ℕ → Bool) where
  module _ (front : Row) (n : ℕ) (name : List ℕ) (t : Tree) (fs : Fields) (st : State) where
    marked_next : with_row (joined front) (marked_row order marked n (field name t fs) st)
        ≡ (marked_with order marked n t st >>= λ v. with_row (λ r. joined front (more v.0 r)) (marked_row order marked (n + length (numbered t)) fs v.1))
    unfolding marked_row
    marked_next = over (marked_with order marked n t st) (marked_row order marked (n + length (numbered t)) fs) (joined front)

    pub marked_ends : (e : ValueStop) (total : Read State Row) → Fails e (marked_with order marked n t st) → with_row (joined front) (marked_row order marked n (field name t fs) st) ≡ total → Fails e total
    marked_ends e total fails so_far =
        along e total _ (sym so_far ∙ marked_next) (bind_fails e (marked_with order marked n t st) (λ v. with_row (λ r. joined front (more v.0 r)) (marked_row order marked (n + length (numbered t)) fs v.1)) fails)

    pub marked_goes : (v : Data) (after : State) (total : Read State Row) → marked_with order marked n t st ≡ Ok (v, after) → with_row (joined front) (marked_row order marked n (field name t fs) st) ≡ total
        → with_row (λ r. joined front (more v r)) (marked_row order marked (n + length (numbered t)) fs after) ≡ total
    marked_goes v after total e so_far = sym (marked_next ∙ rw e refl) ∙ so_far

  pub marked_done : (n : ℕ) (vs : List PvValue) (st : State) (total : Read State Row) → with_row (joined (row_view vs)) (marked_row order marked n no_fields st) ≡ total → total ≡ Ok (row_view vs, st)
  unfolding marked_row
  marked_done n vs st total so_far = sym so_far ∙ ap (λ (r : Row). Ok (r, st)) (joined_end vs)

  slot_none : (n : ℕ) (t : Tree) (st : State) → Misses marked n 1 → slot_at (marked n) order t st ≡ Ok (blank_of t, st)
  slot_none n t st none = ap (λ (m : Bool). slot_at m order t st) (none n (omega arith) (omega arith))

  -- nothing is read where no number is marked
  mutual
    unfolding marked_with marked_row

    pub marked_none : (n : ℕ) (t : Tree) (st : State) → Misses marked n (length (numbered t)) → marked_with order marked n t st ≡ Ok (blank_of t, st)
    marked_none n (leaf l) st none = slot_none n (leaf l) st none
    marked_none n (node struct id fs) st none = rw (marked_row_none (n + 1) fs st (λ k from to. none k (omega (arith, from)) (omega (arith, to)))) refl
    marked_none n (node union id fs) st none = slot_none n (node union id fs) st none
    marked_none n (node struct_list id fs) st none = slot_none n (node struct_list id fs) st none
    marked_none n (node union_list id fs) st none = slot_none n (node union_list id fs) st none

    marked_row_none : (n : ℕ) (fs : Fields) (st : State) → Misses marked n (length (numbered_fields fs)) → marked_row order marked n fs st ≡ Ok (blank_row fs, st)
    marked_row_none n no_fields st none = refl
    marked_row_none n (field name t fs) st none =
        let len = length-append (numbered t) (numbered_fields fs) in
        rw (marked_none n t st (λ k from to. none k from (omega (arith, to, len))), marked_row_none (n + length (numbered t)) fs st (λ k from to. none k (omega (arith, from)) (omega (arith, to, len)))) refl
