-- A count that was read is one that the bytes after it can hold.
use Rattle.std.proofs.Common.{◌≡◌, ℕ, ◌*◌, ◌≤◌, cond, ltb, List, length, Ok, Err, inl, inr, subst}
use Rattle.std.proofs.lemmas.Bool.{ltb-false}
use Rattle.pva_wire.specs.declared.order.Order.{Order}
use Rattle.pva_wire.specs.declared.fault.Cause.TheVariants.{Short}
use Rattle.pva_wire.specs.Reading.{count_at, counted_at}
use Rattle.pva_wire.proofs.Takes.{chosen, ok_is, bind_ok}

pub counted_room : (order : Order) (width : ℕ) (bytes : List ℕ) (x : ℕ × List ℕ) → counted_at order width bytes ≡ Ok x → x.0 * width ≤ length x.1
unfolding counted_at
counted_room order width bytes x h =
    let b = bind_ok (count_at order bytes) (λ count. cond (ltb (length count.1) (count.0 * width)) (Err (Short, length bytes)) (Ok (count.0, count.1))) x h in
    elim (chosen (ltb (length b.0.1) (b.0.0 * width)) (Err (Short, length bytes)) (Ok (b.0.0, b.0.1)) (Ok x) b.2) [
      | inl short ↦ absurd cc
      | inr enough ↦ subst (λ (y : ℕ × List ℕ). y.0 * width ≤ length y.1) (ok_is (b.0.0, b.0.1) x enough.1) (ltb-false (length b.0.1) (b.0.0 * width) enough.0)
    ]
