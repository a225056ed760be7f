use Rattle.std.proofs.Common.{◌∙◌, ℤ, Option, MatchOption, sym, ap, subst}
use Rattle.std.proofs.lemmas.Bool.{both_ways}
use Rattle.prog_source.specs.Words.{IsNumber, is_plain}
use Rattle.prog_source.proofs.Digits.{reads, begins_plain}
use Rattle.prog_source.proofs.source.read_number.Goals as goal

pub returns-then-not-is_plain : goal.returns-then-not-is_plain
returns-then-not-is_plain c = λ z is. both_ways c.is_plain.result c.if-not-is_plain.true (c.is_plain.ensures ∙ ap is_plain c.as_bytes.ensures.value ∙ begins_plain c.args.text.now z is)

pub returns : goal.returns
returns c =
    subst (λ (o : Option ℤ). MatchOption o ((z : ℤ) → ¬ (IsNumber c.args.text.now z)) (IsNumber c.args.text.now)) (sym c.ok.ensures.value)
    (reads _ c.args.text.now c.parse.result c.parse.ensures.value.0 (ap is_plain (sym c.as_bytes.ensures.value) ∙ sym c.is_plain.ensures ∙ c.if-not-is_plain.false))
