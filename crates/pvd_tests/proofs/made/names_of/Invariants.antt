use Rattle.std.proofs.Common.{◌≡◌, length}
use Rattle.pvd_tests.proofs.made.names_of.Given as goal

abbrev pub invariant-loop-text : goal.invariant-loop-text
invariant-loop-text l = length l.names.items ≡ l.text-index
