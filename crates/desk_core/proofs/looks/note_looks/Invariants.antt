use Rattle.desk_core.specs.Looking.{look_of}
use Rattle.desk_core.proofs.looks.note_looks.Given as goal

abbrev pub ghosts-note_read : goal.ghosts-note_read
ghosts-note_read a = record { mark = look_of a._channel a._cells.now a._recs.now }
