use Rattle.std.proofs.Common.{◌≡◌, pos, get_or, rules}
use Rattle.rec_kinds.specs.Sorts.{within}
use Rattle.rec_fields.proofs.Lists.{narrow_step}
use Rattle.rec_fields.proofs.numbers.narrowed.Goals as goal

pub loop-number-preserved : goal.loop-number-preserved
loop-number-preserved g c =
    let is : g.T.Number.value c.narrow.result ≡ get_or c.args.numbers.now c.loop-number.number-index (pos 0) = search rules in
    narrow_step g.T.Number.value (within g.T.Number.low g.T.Number.high) c.args.numbers.now c.loop-number.number-index c.loop-number.narrow.items c.push.new.self.items c.narrow.result
    c.loop-number-test.true c.loop-number.invariant.0 (c.in_ok-push.ensures {u = tt}).items is c.loop-number.invariant.1
