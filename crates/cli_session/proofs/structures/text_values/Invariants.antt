use Rattle.std.proofs.Common.{◌≡◌, map, take}
use Rattle.pvd_value.specs.View.{view}
use Rattle.cli_session.specs.Seen.{text_seen}
use Rattle.cli_session.specs.Structures.{text_datum}
use Rattle.cli_session.proofs.structures.text_values.Given as goal

abbrev pub invariant-loop-text : goal.invariant-loop-text
invariant-loop-text l = map view l.values.items ≡ map (λ t. text_datum (text_seen t)) (take l.text-index l.texts)
