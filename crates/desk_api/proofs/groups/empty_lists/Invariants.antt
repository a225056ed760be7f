use Rattle.std.specs.Prelude.{◌≡◌, [], map, replicate}
use Rattle.desk_api.proofs.groups.empty_lists.Given as goal

abbrev pub invariant-loop-rec : goal.invariant-loop-rec
invariant-loop-rec l = map (λ v. v.items) l.lists.items ≡ replicate l._rec []
