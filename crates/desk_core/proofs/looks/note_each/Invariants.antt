use Rattle.std.proofs.Common.{◌≡◌, ◌∷◌, [], take}
use Rattle.std.specs.List.{fold}
use Rattle.desk_core.specs.Looking.{looked, look_of}
use Rattle.desk_core.proofs.looks.note_each.Given as goal

-- the looks so far were noted
abbrev pub invariant-loop-rec : goal.invariant-loop-rec
invariant-loop-rec l = l.log ≡ fold (λ s rec. looked l.channel l.cells s (rec ∷ [])) l.fn.log (take l.rec-index l.recs)

abbrev pub ghosts-note_read : goal.ghosts-note_read
ghosts-note_read a = record { mark = look_of a._channel a._cells.now a._recs.now }
