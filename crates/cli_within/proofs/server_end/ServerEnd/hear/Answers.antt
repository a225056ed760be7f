use Rattle.std.proofs.Common.{sym, subst}
use Rattle.srv_stream.specs.Views.{view_of}
use Rattle.cli_within.specs.Serving.{IsLiving, IsReady, over_of, served_view}
use Rattle.cli_within.proofs.Serving.{close_ready, close_serves, fed_ok}
use Rattle.cli_within.proofs.server_end.ServerEnd.hear.Goals as goal

pub returns-in-Ok-clause-serves : goal.returns-in-Ok-clause-serves
returns-in-Ok-clause-serves g c = λ first heard given h. fed_ok h (g.D.Desk.seat c.feed.new.desk) (view_of c.feed.new.serving) c.args.bytes.now (over_of c.args.self.now) c.requires.open c.in-Ok.ensures.feeds

pub returns-in-Err-clause-living : goal.returns-in-Err-clause-living
returns-in-Err-clause-living g c = subst (IsLiving (g.D.Desk.seat c.feed.new.desk)) (sym c.close.ensures.view) c.in-Err.ensures.living

pub returns-in-Err-clause-ready : goal.returns-in-Err-clause-ready
returns-in-Err-clause-ready g c = close_ready c.in-Err.ended (over_of c.close.new.self) c.close.result (IsReady (g.D.Desk.seat c.feed.new.desk) (served_view c.close.new.self)) c.close.ensures.closes

pub returns-in-Err-clause-serves : goal.returns-in-Err-clause-serves
returns-in-Err-clause-serves g c = λ first heard given h.
    close_serves h (g.D.Desk.seat c.feed.new.desk) (view_of c.feed.new.serving) (served_view c.close.new.self) c.args.bytes.now c.in-Err.ended (over_of c.close.new.self) c.close.result c.in-Err.ensures.feeds c.close.ensures.view c.close.ensures.closes
