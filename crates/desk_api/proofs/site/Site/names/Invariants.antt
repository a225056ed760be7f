use Rattle.std.specs.Prelude.{◌≡◌, take}
use Rattle.desk_api.proofs.site.Site.names.Given as goal

-- the names so far
abbrev pub invariant-loop-rec : goal.invariant-loop-rec
invariant-loop-rec l = l.names.items ≡ take l.rec l.self.names
