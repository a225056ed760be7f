use Rattle.std.proofs.Common.{◌≡◌, drop}
use Rattle.pvd_value.specs.View.{view}
use Rattle.cli_text.specs.Put.{put_from}
use Rattle.cli_text.proofs.words.put_each.Given as goal

abbrev pub invariant-loop-i : goal.invariant-loop-i
invariant-loop-i l =
    put_from l.way l.choices l.ty l.i (l.put.mask, view l.put.value) (drop l.i l.words)
    ≡ put_from l.way l.choices l.ty 0 (l.initial.put.mask, view l.initial.put.value) l.words
