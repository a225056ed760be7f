use Rattle.std.proofs.Common.{ℕ, List, Some, codes, refl, ap, ◌∙◌}
use Rattle.pva_messages.specs.Requests as requests
use Rattle.cli_session.specs.Messages.{get_request}
use Rattle.cli_session.specs.Seen.{pair_view}
use Rattle.cli_session.specs.State.{State}
use Rattle.cli_session.specs.Structures.{request, selected, atomic_options}
use Rattle.cli_session.specs.Views.{state_of}
use Rattle.cli_session.proofs.Sending.{said_as}
use Rattle.cli_session.proofs.session.Session.begin_get.Goals as goal

pub returns : goal.returns
returns c =
    let s = state_of c.args.self.now in
    let new : State = record s { req = Some 1 } in
    let is = (c.in_ok-request.ensures {u = tt}).is ∙ ap (λ (fs : List (List ℕ)). request (codes "field") (selected fs) (atomic_options c.args.ask.now.atomic)) c.deref.ensures.value in
    said_as c.say.result new new c.args.out.now.items c.say.new.out.items (requests.get s.sid 1 8 (Some (pair_view c.in_ok-request.request)))
    (requests.get s.sid 1 8 (get_request c.args.ask.now)) (ap (λ x. requests.get s.sid 1 8 (Some x)) is) refl c.say.ensures
