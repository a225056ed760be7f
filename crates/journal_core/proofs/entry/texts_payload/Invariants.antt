use Rattle.std.proofs.Common.{◌≡◌, take}
use Rattle.std.specs.List.{sum_by}
use Rattle.journal_core.specs.Weights.{text_payload}
use Rattle.journal_core.proofs.entry.texts_payload.Given as goal

abbrev pub invariant-loop-text : goal.invariant-loop-text
invariant-loop-text l = l.total ≡ sum_by text_payload (take l.text-index l.texts)
