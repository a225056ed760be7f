use Rattle.std.specs.Prelude.{◌≡◌, map, string_bytes, take}
use Rattle.desk_api.proofs.groups.names_of.Given as goal

-- the names so far are those of the groups so far
abbrev pub invariant-loop-group : goal.invariant-loop-group
invariant-loop-group l = map string_bytes l.names.keys ≡ map (λ g. g.name) (take l.group-index l.groups)
