use Rattle.std.proofs.Common.{◌≡◌, refl, sym, ◌∙◌, ap}
use Rattle.std.specs.FinMap.{get}
use Rattle.srv_session.specs.State.{State}
use Rattle.srv_session.specs.Steps.{with_sent}
use Rattle.srv_session.proofs.Pops.{sends_failed}
use Rattle.srv_session.proofs.session.Session.send.Goals as goal

pub returns-in_err-written-clause-sends : goal.returns-in_err-written-clause-sends
returns-in_err-written-clause-sends c =
    let failed = c.in_err-written.ensures {u = tt} in
    sends_failed c.args.self.now c.say_update-written.new.self c.args.req c.args.ty.now c.args.update c.from_residual.result c.from_residual.ensures.0 failed.err failed.state

pub returns-clause-sends : goal.returns-clause-sends
returns-clause-sends c =
    let said_ = c.in_ok-written.ensures {u = tt} in (
      (c.spend.ensures.output ∙ said_.ok.0, said_.ok.1),
      c.spend.ensures.state ∙ ap (λ (z : State). let y : State = record z { requests = with_sent c.args.req (get z.requests c.args.req) z.requests } in y) said_.state,
    )

pub returns-clause-monitors : goal.returns-clause-monitors
returns-clause-monitors c = c.spend.ensures.monitors ∙ (c.in_ok-written.ensures {u = tt}).monitors
