use Rattle.std.proofs.Common.{◌≡◌, true, false, refl, arith}
use Rattle.std.proofs.lemmas.Grind.{common_steps}
use Rattle.std.proofs.lemmas.Str.{is_utf8-from_IsUtf8}
use Rattle.std.specs.Str.{is_utf8}
use Rattle.pva_wire.specs.Reading.{letters_at}
use Rattle.pva_wire.proofs.Texts.{not_utf8}
use Rattle.pva_wire.proofs.reading.letters_at.Goals as goal

pub returns-in-Ok-clause-value : goal.returns-in-Ok-clause-value
unfolding letters_at
returns-in-Ok-clause-value c =
    let front = c.split_at.result.0.now in
    let valid : is_utf8 front ≡ true = is_utf8-from_IsUtf8 front c.in-Ok.ensures.cases.1 in
    grind (arith, common_steps, valid)

pub returns-in-Err-clause-value : goal.returns-in-Err-clause-value
unfolding letters_at
returns-in-Err-clause-value c =
    let front = c.split_at.result.0.now in
    let invalid : is_utf8 front ≡ false = not_utf8 front (is_utf8 front) refl c.in-Err.ensures.cases.0 in
    grind (arith, common_steps, invalid)
