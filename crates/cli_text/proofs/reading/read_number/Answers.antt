use Rattle.std.proofs.Common.{◌≡◌, true, rules}
use mir.Syntax.{w128}
use Rattle.std.specs.Str.Parse.{without_leading_sign}
use Rattle.cli_text.specs.Words.{is_plain}
use Rattle.cli_text.proofs.NumberWords.{signed_err}
use Rattle.cli_text.proofs.reading.read_number.Goals as goal

pub returns-in-Err : goal.returns-in-Err
returns-in-Err c =
    let plain : is_plain (without_leading_sign c.args.text.now) ≡ true = search rules in
    signed_err w128 c.args.text.now c.in-Err.field-0 plain c.in-Err.ensures.value.0
