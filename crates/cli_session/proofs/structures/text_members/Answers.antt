use Rattle.std.proofs.Common.{◌≡◌, map, take, ap, sym, ◌∙◌}
use Rattle.std.proofs.lemmas.List.{take_all}
use Rattle.pvd_type.specs.View.{fields_of}
use Rattle.cli_session.specs.Seen.{text_seen}
use Rattle.cli_session.specs.Structures.{text_field}
use Rattle.cli_session.proofs.Building.{map_map}
use Rattle.cli_session.proofs.structures.text_members.Goals as goal

pub returns : goal.returns
returns c =
    let texts = c.args.texts.now in
    let all : take c.loop-text.text-index texts ≡ texts = take_all c.loop-text.text-index texts c.loop-text-test.false in
    ap fields_of (c.loop-text.invariant ∙ ap (map (λ t. text_field (text_seen t))) all ∙ sym (map_map text_field text_seen texts))
