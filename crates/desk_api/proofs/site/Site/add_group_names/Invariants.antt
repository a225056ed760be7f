use Rattle.std.specs.Prelude.{◌≡◌, ◌++◌, map, take}
use Rattle.desk_api.proofs.site.Site.add_group_names.Given as goal

-- the names that were there, and those of the groups so far
abbrev pub invariant-loop-number : goal.invariant-loop-number
invariant-loop-number l = l.names.items ≡ l.fn.names.items ++ map (λ g. g.name) (take l.number l.self.groups)
