use Rattle.std.proofs.Common.{◌≡◌, drop}
use Rattle.cli_text.specs.Words.{place_from}
use Rattle.cli_text.proofs.reading.place_of.Given as goal

abbrev pub invariant-loop-i : goal.invariant-loop-i
invariant-loop-i l = place_from l.i l.text (drop l.i l.choices) ≡ place_from 0 l.text l.choices
