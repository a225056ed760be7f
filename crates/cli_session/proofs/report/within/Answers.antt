use Rattle.std.proofs.Common.{◌≡◌, true, arith, rules}
use Rattle.std.specs.FinSet.{contains}
use Rattle.cli_session.proofs.Marking.{has_none, has_more, marks_within}
use Rattle.cli_session.proofs.report.within.Goals as goal

pub loop-number-init : goal.loop-number-init
loop-number-init c = has_none c.new-found.result c.args.bits.now c.new-found.ensures

pub loop-number-preserved : goal.loop-number-preserved
loop-number-preserved c =
    let here : contains c.args.bits.now c.loop-number.number ≡ true = search rules in
    has_more c.loop-number.found c.args.bits.now c.insert.new.self c.loop-number.number c.loop-number.invariant here ((c.in_ok-insert.ensures {u = tt}).ok)

pub returns : goal.returns
returns c =
    marks_within c.args.ty.now c.loop-number.found c.args.bits.now c.loop-number.number (omega (arith, c.node_count-number-end.ensures.count)) c.loop-number.invariant
