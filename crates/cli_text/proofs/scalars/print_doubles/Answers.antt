use Rattle.std.proofs.Common.{ℕ, ◌+◌, List, [], ◌∷◌, ◌++◌, map, drop, get_or, refl, ap}
use Rattle.std.proofs.Math.ListN.{drop_of_length-le}
use Rattle.pvd_value.specs.Data.{double}
use Rattle.cli_text.specs.Texts.{led, single_text}
use Rattle.cli_text.proofs.Led.{led_step, led_done}
use Rattle.cli_text.proofs.Pieces.{numbers_from}
use Rattle.cli_text.proofs.scalars.print_doubles.Goals as goal

pub loop-value-preserved : goal.loop-value-preserved
loop-value-preserved c =
    let xs = c.args.values.now in
    let i = c.loop-value.value-index in
    let f : ℕ → List ℕ = λ y. single_text (double y) in
    let next = numbers_from f xs i c.loop-value-test.true in
    led_step c.loop-value.out.items c.extend_from_slice.new.self.items c.print_double.new.out.items c.loop-value.front.now (f (get_or xs i 0))
    (c.args.out.now.items ++ led [] (map f xs)) (44 ∷ 32 ∷ []) (map f (drop (i + 1) xs))
    c.in_ok-extend_from_slice.ensures.items (c.in_ok-print_double.ensures {u = tt}) refl (rw next at c.loop-value.invariant)

pub returns : goal.returns
returns c =
    let xs = c.args.values.now in
    let f : ℕ → List ℕ = λ y. single_text (double y) in
    led_done c.loop-value.out.items c.loop-value.front.now (c.args.out.now.items ++ led [] (map f xs)) (map f (drop c.loop-value.value-index xs))
    (ap (map f) (drop_of_length-le xs c.loop-value-test.false)) c.loop-value.invariant
