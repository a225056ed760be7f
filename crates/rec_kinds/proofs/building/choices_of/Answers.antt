use Rattle.std.proofs.Common.{◌∙◌}
use Rattle.rec_kinds.specs.Given.{text_told}
use Rattle.rec_kinds.proofs.Counts.{choices_row}
use Rattle.rec_kinds.proofs.building.choices_of.Goals as goal

pub returns : goal.returns
returns c =
    c.from_vec.ensures
    ∙ (c.loop-name.invariant
    ∙ choices_row (text_told c.args.given.now.kind c.args.given.now.fields.now) c.choice_fields.result.now _ c.choice_count-count.result _
    c.loop-name.name-index c.choice_fields.ensures.names c.choice_count-count.ensures.same c.loop-name-test.false)
