use Rattle.std.specs.Prelude.{◌≡◌, take}
use Rattle.desk_api.specs.Calls.{rows_shown}
use Rattle.desk_api.proofs.site.Site.rows.Given as goal

-- the rows so far
abbrev pub invariant-loop-rec : goal.invariant-loop-rec
invariant-loop-rec l = l.rows.items ≡ rows_shown (take l.rec l.self.names) (take l.rec l.states)
