use Rattle.std.proofs.Common.{◌≡◌, get_or, rules}
use Rattle.pvd_value.specs.View.{view}
use Rattle.group_view.proofs.Putting.{actions_more, may_more, writer_more}
use Rattle.group_view.proofs.puts.actions_of.Goals as goal

pub loop-writer-preserved : goal.loop-writer-preserved
loop-writer-preserved c =
    let t = c.args.ty.now in
    let value = view c.args.value.now in
    let mask = c.args.mask.now in
    let ws = c.args.writers.now in
    let i = c.loop-writer.writer-index in
    let w = c.writer-item.result in
    let within = c.loop-writer-test.true in
    let here : get_or ws i w ≡ w = search rules in
    record {
      same = actions_more t value mask ws i w within here c.loop-writer.actions.items _ c.rec.result c.in-Ok.action _ c.in_ok-add_action-in-Ok.ensures c.rec.ensures
          c.in-Ok.ensures.action c.loop-writer.invariant.same;
      leaves = writer_more t value mask ws i w within here _ c.loop-writer.invariant.leaves;
      may = λ configs linked. may_more configs ws i w c.loop-writer.actions.items _ c.rec.result c.in-Ok.action within here c.in_ok-add_action-in-Ok.ensures c.rec.ensures
          c.in-Ok.ensures.may linked (c.loop-writer.invariant.may configs linked);
    }
