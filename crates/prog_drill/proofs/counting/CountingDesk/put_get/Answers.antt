use Rattle.pvd_value.specs.View.{view}
use Rattle.desk_api.specs.Calls.{Asked}
use Rattle.prog_drill.proofs.Uncounted.{by_put_get}
use Rattle.prog_drill.proofs.counting.CountingDesk.put_get.Goals as goal

pub invariant_of-self : goal.invariant_of-self
invariant_of-self c =
    let asked : Asked = record {
      site = c.args.self.now.desk.log.seen.base.site;
      channel = c.args.channel;
      mask = c.args.mask.now;
      value = view c.args.value.now;
      moment = c.args.moment;
      atomic = c.args.atomic;
    } in
    record { counted = by_put_get _ _ c.args.self.now.updates asked c.put_get.result c.put_get.ensures.calls c.args.self.now.counted }
