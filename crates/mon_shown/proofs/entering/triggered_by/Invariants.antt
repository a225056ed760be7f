use Rattle.std.proofs.Common.{◌≡◌, drop}
use Rattle.std.specs.List.{fold}
use Rattle.std.specs.FinSet.{union}
use Rattle.mon_shown.specs.Channels.{triggered}
use Rattle.mon_shown.proofs.entering.triggered_by.Given as goal

-- with the leaves of the writes to come these are the leaves of all
abbrev pub invariant-loop-write : goal.invariant-loop-write
invariant-loop-write g l =
    fold (λ leaves w. union leaves ((g.V.Views.shows l.views l.channel).triggers w.0)) l.mask (drop l.write-index l.writes) ≡ triggered (g.V.Views.shows l.views l.channel).triggers l.writes
