use Rattle.desk_core.specs.Subscribing.{begun_in}
use Rattle.desk_core.proofs.solo.SoloDeskDesk.subscribe.Given as goal

abbrev pub ghosts-note_begun : goal.ghosts-note_begun
ghosts-note_begun g a = record { mark = begun_in a.log.now a._slot a._channel a._mask.now a._size }
