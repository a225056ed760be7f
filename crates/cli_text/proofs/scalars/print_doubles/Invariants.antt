use Rattle.std.proofs.Common.{◌≡◌, ◌++◌, [], map, drop}
use Rattle.pvd_value.specs.Data.{double}
use Rattle.cli_text.specs.Texts.{led, single_text}
use Rattle.cli_text.proofs.scalars.print_doubles.Given as goal

abbrev pub invariant-loop-value : goal.invariant-loop-value
invariant-loop-value l =
    l.out.items ++ led l.front (map (λ x. single_text (double x)) (drop l.value-index l.values))
    ≡ l.fn.out.items ++ led [] (map (λ x. single_text (double x)) l.values)
