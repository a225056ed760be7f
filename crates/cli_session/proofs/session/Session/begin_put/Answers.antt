use Rattle.std.proofs.Common.{ℕ, Some, ap, ◌∙◌}
use Rattle.pva_messages.specs.Requests as requests
use Rattle.pva_messages.specs.Requests.{absent}
use Rattle.cli_session.specs.Messages.{put_request, put_id}
use Rattle.cli_session.specs.Seen.{pair_view}
use Rattle.cli_session.specs.State.{State}
use Rattle.cli_session.specs.Structures.{chosen}
use Rattle.cli_session.specs.Views.{state_of}
use Rattle.cli_session.proofs.Sending.{said_as}
use Rattle.cli_session.proofs.session.Session.begin_put.Goals as goal

pub returns : goal.returns
unfolding chosen
returns c =
    let s = state_of c.args.self.now in
    let is = (c.in_ok-request.ensures {u = tt}).is in
    let r = pair_view c.in_ok-request.request in
    let id = c.put_id-req.ensures in
    let in_state : ℕ → State = λ n. record s { req = Some n } in
    said_as c.say.result (in_state c.put_id-req.result) (in_state (put_id c.args.ask.now.operation)) c.args.out.now.items c.say.new.out.items
    (requests.put s.sid c.put_id-req.result 8 (Some r) absent) (requests.put s.sid (put_id c.args.ask.now.operation) 8 (put_request c.args.ask.now) absent)
    (ap (λ n. requests.put s.sid n 8 (Some r) absent) id ∙ ap (λ x. requests.put s.sid (put_id c.args.ask.now.operation) 8 (Some x) absent) is) (ap in_state id) c.say.ensures
