use Rattle.desk_core.specs.Subscribing.{crowded}
use Rattle.desk_core.proofs.solo.not_begun.Given as goal

abbrev pub ghosts-note_crowded : goal.ghosts-note_crowded
ghosts-note_crowded a = record { mark = crowded a.log.now a._count }
