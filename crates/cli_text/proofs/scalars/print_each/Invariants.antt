use Rattle.std.proofs.Common.{◌≡◌, ◌++◌, [], map, drop}
use Rattle.cli_text.specs.Texts.{led, single_text}
use Rattle.cli_text.proofs.scalars.print_each.Given as goal

abbrev pub invariant-loop-value : goal.invariant-loop-value
invariant-loop-value g l =
    l.out.items ++ led l.front (map (λ x. single_text (g.T.PrintScalar.single x)) (drop l.value-index l.values))
    ≡ l.fn.out.items ++ led [] (map (λ x. single_text (g.T.PrintScalar.single x)) l.values)
