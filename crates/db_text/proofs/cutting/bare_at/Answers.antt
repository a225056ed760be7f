use Rattle.std.proofs.Common.{ap, length, arith}
use Rattle.db_text.proofs.Defaults.{no_front}
use Rattle.db_text.proofs.Cuts.{bare_is}
use Rattle.db_text.proofs.cutting.bare_at.Goals as goal

pub returns-in_default : goal.returns-in_default
returns-in_default c =
    let e = ap length (no_front c.args.bytes.now c.in_default.ensures.value) in
    let none : ⊥ = omega (arith, e, c.requires) in
    absurd none

pub returns-clause-value : goal.returns-clause-value
returns-clause-value c = bare_is c.args.bytes.now c.split_at.result.0.now c.split_at.result.1.now c.in-Some.rest.now _ c.word_len.result c.in-Some.ensures.value c.word_len.ensures.value c.split_at.ensures.front c.split_at.ensures.back
