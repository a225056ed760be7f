use Rattle.desk_core.specs.Subscribing.{dropped}
use Rattle.desk_core.proofs.solo.SoloDeskDesk.unsubscribe.Given as goal

abbrev pub ghosts-note_dropped : goal.ghosts-note_dropped
ghosts-note_dropped g a = record { mark = dropped a.log.now a._slot }
