use Rattle.std.proofs.Common.{refl}
use Rattle.std.proofs.lemmas.Result.{err_from_is_err_and}
use Rattle.pva_search.specs.Reading.{each_at, channel_at}
use Rattle.pva_search.specs.Parts.{mapped}
use Rattle.pva_search.proofs.Loops.{goes_on, ends, is_done}
use Rattle.pva_search.proofs.reading.pass_channels.Goals as goal

pub returns-in_err-after-clause-value : goal.returns-in_err-after-clause-value
returns-in_err-after-clause-value c =
    let p = err_from_is_err_and c.from_residual.result c.from_residual.ensures.1 in
    rw (p.1, p.2) (ends (channel_at c.args.order) c.in_err-after.field-0.0 (λ _. tt {0}) c.args.count c.loop.counter c.loop.rest.now (mapped (λ _. tt {0}) (each_at (channel_at c.args.order) c.args.count c.args.bytes.now)) c.loop-test.true c.in_err-after.ensures.value c.loop.invariant)

pub loop-preserved : goal.loop-preserved
loop-preserved c =
    goes_on (channel_at c.args.order) (λ _. tt {0}) (λ _. tt {0}) c.args.count c.loop.counter c.loop.rest.now (c.in_ok-after.field-0-0, c.in_ok-after.field-0-1.now) c.in_ok-after.after.now (mapped (λ _. tt {0}) (each_at (channel_at c.args.order) c.args.count c.args.bytes.now)) c.loop-test.true c.in_ok-after.ensures.value (λ _. refl) c.loop.invariant

pub returns-clause-value : goal.returns-clause-value
returns-clause-value c =
    is_done (channel_at c.args.order) (λ _. tt {0}) c.args.count c.loop.counter c.loop.rest.now (mapped (λ _. tt {0}) (each_at (channel_at c.args.order) c.args.count c.args.bytes.now)) c.loop-test.false c.loop.invariant
