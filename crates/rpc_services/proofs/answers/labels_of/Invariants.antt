use Rattle.std.proofs.Common.{◌≡◌, map, take}
use Rattle.rpc_services.proofs.answers.labels_of.Given as goal

abbrev pub invariant-loop-column : goal.invariant-loop-column
invariant-loop-column l = l.labels.items ≡ map (λ c. c.0) (take l.column-index l.columns)
