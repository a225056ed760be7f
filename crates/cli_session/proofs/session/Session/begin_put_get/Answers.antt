use Rattle.std.proofs.Common.{ℕ, List, None, Some, codes, refl, ap, ◌∙◌}
use Rattle.pva_messages.specs.Requests as requests
use Rattle.pva_messages.specs.Requests.{absent}
use Rattle.cli_session.specs.Messages.{put_get_request}
use Rattle.cli_session.specs.Seen.{pair_view}
use Rattle.cli_session.specs.State.{State}
use Rattle.cli_session.specs.Structures.{request, selected, atomic_options}
use Rattle.cli_session.specs.Views.{state_of}
use Rattle.cli_session.proofs.Sending.{said_as, two_said}
use Rattle.cli_session.proofs.session.Session.begin_put_get.Goals as goal

pub returns : goal.returns
returns c =
    let s = state_of c.args.self.now in
    let new : State = record s { req = Some 1; ty = None } in
    let mid = c.end_request.new.out.items in
    let after = c.say.new.out.items in
    let message = requests.put_get s.sid 1 8 (put_get_request c.args.ask.now) absent in
    let is = (c.in_ok-request.ensures {u = tt}).is ∙ ap (λ (fs : List (List ℕ)). request (codes "getField") (selected fs) (atomic_options c.args.ask.now.atomic)) c.deref.ensures.value in
    two_said c.say.result s (Some 1) None c.args.out.now.items mid after (requests.destroy_request s.sid 2) message (c.in_ok-end_request.ensures {u = tt})
    (said_as c.say.result new new mid after (requests.put_get s.sid 1 8 (Some (pair_view c.in_ok-request.request)) absent) message
    (ap (λ x. requests.put_get s.sid 1 8 (Some x) absent) is) refl c.say.ensures)
