use Rattle.std.proofs.Common.{Some, refl, ap}
use Rattle.pva_messages.specs.Requests as requests
use Rattle.cli_session.specs.Messages.{call_request}
use Rattle.cli_session.specs.Seen.{pair_view}
use Rattle.cli_session.specs.State.{State}
use Rattle.cli_session.specs.Structures.{chosen}
use Rattle.cli_session.specs.Views.{state_of}
use Rattle.cli_session.proofs.Sending.{said_as}
use Rattle.cli_session.proofs.session.Session.begin_call.Goals as goal

pub returns : goal.returns
unfolding chosen
returns c =
    let s = state_of c.args.self.now in
    let new : State = record s { req = Some 1 } in
    let is = (c.in_ok-request.ensures {u = tt}).is in
    said_as c.say.result new new c.args.out.now.items c.say.new.out.items (requests.rpc s.sid 1 8 (Some (pair_view c.in_ok-request.request)))
    (requests.rpc s.sid 1 8 call_request) (ap (λ x. requests.rpc s.sid 1 8 (Some x)) is) refl c.say.ensures
