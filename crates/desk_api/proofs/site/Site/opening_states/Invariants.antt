use Rattle.std.specs.Prelude.{◌≡◌, take}
use Rattle.desk_api.proofs.site.Site.opening_states.Given as goal

-- the states so far
abbrev pub invariant-loop-rec : goal.invariant-loop-rec
invariant-loop-rec l = l.states.items ≡ take l.rec l.self.opening
