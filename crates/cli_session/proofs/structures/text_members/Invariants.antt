use Rattle.std.proofs.Common.{◌≡◌, map, take}
use Rattle.pvd_type.specs.View.{member_view}
use Rattle.cli_session.specs.Seen.{text_seen}
use Rattle.cli_session.specs.Structures.{text_field}
use Rattle.cli_session.proofs.structures.text_members.Given as goal

abbrev pub invariant-loop-text : goal.invariant-loop-text
invariant-loop-text l = map member_view l.members.items ≡ map (λ t. text_field (text_seen t)) (take l.text-index l.texts)
