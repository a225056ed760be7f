use Rattle.std.proofs.Common.{◌∙◌, sym}
use Rattle.pvd_request.proofs.Digits.{no_number, one_digit, all_digits}
use Rattle.pvd_request.proofs.options.up_to_64.Goals as goal

pub returns-then-not-is_ascii_digit : goal.returns-then-not-is_ascii_digit
returns-then-not-is_ascii_digit c =
    no_number c.args.digits.now c.loop-digit.digit-index c.loop-digit-test.true (sym c.is_ascii_digit.ensures.value ∙ c.if-not-is_ascii_digit.true)

pub loop-digit-preserved : goal.loop-digit-preserved
loop-digit-preserved c =
    let ds = c.args.digits.now in
    let i = c.loop-digit.digit-index in
    record {
      digits = all_digits ds i c.loop-digit-test.true c.loop-digit.invariant.digits (sym c.is_ascii_digit.ensures.value ∙ c.if-not-is_ascii_digit.false);
      number = one_digit ds i c.loop-digit.number c.from.result c.min-number.result c.loop-digit-test.true c.if-not-is_ascii_digit.ensures.cases
          c.loop-digit.invariant.number c.from.ensures c.min-number.ensures;
    }
