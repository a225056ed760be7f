use Rattle.std.proofs.Common.{◌≡◌, ℕ, ◌+◌, List, [], ◌∷◌, ◌++◌, map, drop, get_or, refl, ap, sym}
use Rattle.std.proofs.Math.ListN.{drop_of_length-le}
use Rattle.cli_text.specs.Texts.{led, single_text}
use Rattle.cli_text.proofs.Led.{led_step, led_done}
use Rattle.cli_text.proofs.Pieces.{texts_from}
use Rattle.cli_text.proofs.scalars.print_each.Goals as goal

pub loop-value-preserved : goal.loop-value-preserved
loop-value-preserved g c =
    let xs = c.args.values.now in
    let i = c.loop-value.value-index in
    let x = c.value-item.result in
    let f : g.row.T.Denot → List ℕ = λ y. single_text (g.T.PrintScalar.single y) in
    let at : get_or xs i x ≡ x = sym c.value-item.is in
    let next = texts_from f xs i x c.loop-value-test.true at in
    led_step c.loop-value.out.items c.extend_from_slice.new.self.items c.print.new.out.items c.loop-value.front.now (f x)
    (c.args.out.now.items ++ led [] (map f xs)) (44 ∷ 32 ∷ []) (map f (drop (i + 1) xs))
    c.in_ok-extend_from_slice.ensures.items (c.in_ok-print.ensures {u = tt}) refl (rw next at c.loop-value.invariant)

pub returns : goal.returns
returns g c =
    let xs = c.args.values.now in
    let f : g.row.T.Denot → List ℕ = λ y. single_text (g.T.PrintScalar.single y) in
    led_done c.loop-value.out.items c.loop-value.front.now (c.args.out.now.items ++ led [] (map f xs)) (map f (drop c.loop-value.value-index xs))
    (ap (map f) (drop_of_length-le xs c.loop-value-test.false)) c.loop-value.invariant
