use Rattle.std.proofs.Common.{◌≡◌, ◌∙◌, get_or, SFits, to_z-of_z, rules}
use mir.Syntax.{w128}
use Rattle.rec_kinds.specs.Sorts.{within}
use Rattle.rec_fields.proofs.Lists.{widen_step}
use Rattle.rec_fields.proofs.numbers.widened.Goals as goal

pub loop-number-preserved : goal.loop-number-preserved
loop-number-preserved g c =
    let item = c.number-item.result in
    let here : get_or c.args.numbers.now c.loop-number.number-index item ≡ item = search rules in
    let fits : SFits w128 c.wide.result = search rules in
    widen_step g.T.Number.value (within g.T.Number.low g.T.Number.high) c.args.numbers.now c.loop-number.number-index c.loop-number.wide.items c.push.new.self.items item _
    c.loop-number-test.true here c.loop-number.invariant.0 (c.in_ok-push.ensures {u = tt}).items (to_z-of_z fits ∙ c.wide.ensures.same) c.wide.ensures.within
    c.loop-number.invariant.1
