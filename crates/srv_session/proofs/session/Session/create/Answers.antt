use Rattle.std.proofs.Common.{[], arith, refl, ap}
use Rattle.srv_session.specs.State.{slots_of}
use Rattle.srv_session.proofs.Opening.{cut_back}
use Rattle.desk_api.proofs.Adding.{adds_nothing}
use Rattle.srv_session.proofs.session.Session.create.Goals as goal

pub returns-in_default : goal.returns-in_default
returns-in_default g c legal moment = record {
  marks = [];
  part_is = refl;
  adds = adds_nothing (g.D.Desk.seat c.args.desk.now) legal;
  moments = tt;
  subscribed = ap slots_of c.open_all.ensures.requests;
  output = cut_back c.args.self.now c.open_all.new.self c.len-written.result c.truncate.new.self.items c.open_all.ensures.keeps (omega (arith, c.len-written.ensures, c.args.self.now.output.ok)) c.truncate.ensures.items;
}
