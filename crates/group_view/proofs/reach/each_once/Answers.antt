use Rattle.group_view.proofs.Reaching.{keys_more}
use Rattle.group_view.proofs.reach.each_once.Goals as goal

pub loop-number-preserved : goal.loop-number-preserved
loop-number-preserved c =
    keys_more c.args.numbers.now c.loop-number.number-index c.loop-number.found.keys _ _ c.loop-number-test.true c.in_ok-insert.ensures.keys c.loop-number.invariant
