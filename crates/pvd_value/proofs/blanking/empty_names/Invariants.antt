use Rattle.std.proofs.Common.{◌≡◌, replicate, []}
use Rattle.pvd_value.proofs.blanking.empty_names.Given as goal

abbrev pub invariant-loop-place : goal.invariant-loop-place
invariant-loop-place l = l.names.items ≡ replicate l._place []
