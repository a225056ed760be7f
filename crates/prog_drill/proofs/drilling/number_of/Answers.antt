use Rattle.std.proofs.Common.{◌≡◌, ◌∙◌, ap, sym, ℤ, SFits, w64, to_z-of_z, rules}
use Rattle.std.specs.Int.{is_negative}
use Rattle.std.specs.Prelude.{unsigned_abs}
use Rattle.prog_drill.proofs.Summing.{negative_is_none, positive_is_itself}
use Rattle.prog_drill.proofs.drilling.number_of.Goals as goal

pub returns-then-is_negative : goal.returns-then-is_negative
returns-then-is_negative c =
    let fits : SFits w64 c.args.value = search rules in
    negative_is_none c.args.value (sym (c.is_negative.ensures ∙ ap is_negative (to_z-of_z fits)) ∙ c.if-is_negative.true)

pub returns : goal.returns
returns c =
    let fits : SFits w64 c.args.value = search rules in
    c.unsigned_abs.ensures.value ∙ ap unsigned_abs (to_z-of_z fits)
    ∙ positive_is_itself c.args.value (sym (c.is_negative.ensures ∙ ap is_negative (to_z-of_z fits)) ∙ c.if-is_negative.false)
