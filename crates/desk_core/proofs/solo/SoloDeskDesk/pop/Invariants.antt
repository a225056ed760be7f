use Rattle.desk_core.specs.Subscribing.{popped}
use Rattle.desk_core.proofs.solo.SoloDeskDesk.pop.Given as goal

abbrev pub ghosts-note_popped : goal.ghosts-note_popped
ghosts-note_popped g a = record { mark = popped a._slot a._update.now }
