use Rattle.std.proofs.Common.{ℕ, List, [], Some, codes, refl, ap, subst, ◌∙◌, sym}
use Rattle.std.specs.Prelude.{OnOk}
use Rattle.pva_messages.specs.Requests as requests
use Rattle.cli_session.specs.Calls.{Went}
use Rattle.cli_session.specs.Messages.{monitor_beginning, monitor_sub}
use Rattle.cli_session.specs.Seen.{pair_view}
use Rattle.cli_session.specs.State.{State}
use Rattle.cli_session.specs.Steps.{saying}
use Rattle.cli_session.specs.Structures.{request, selected, monitor_options}
use Rattle.cli_session.specs.Views.{state_of}
use Rattle.cli_session.specs.declared.ask.Operation.{Operation}
use Rattle.cli_session.proofs.Sending.{said_as}
use Rattle.cli_session.proofs.session.Session.begin_monitor.Goals as goal

pub returns : goal.returns
returns c =
    let s = state_of c.args.self.now in
    let new : State = record s { req = Some 1 } in
    let ask = c.args.ask.now in
    let window = c.in-Monitor.window in
    let options = monitor_options c.in-Monitor.queue window in
    let r = pair_view c.in_ok-request.request in
    let before = c.args.out.now.items in
    let after = c.say.new.out.items in
    let is = (c.in_ok-request.ensures {u = tt}).is ∙ ap (λ (fs : List (List ℕ)). request (codes "field") (selected fs) options) c.deref.ensures.value in
    let went = said_as c.say.result new new before after (requests.monitor s.sid 1 c.monitor_sub.result (Some r) window)
    (requests.monitor s.sid 1 (monitor_sub window) (Some (request (codes "field") (selected ask.fields.items) options)) window)
    (ap (λ n. requests.monitor s.sid 1 n (Some r) window) c.monitor_sub.ensures ∙ ap (λ x. requests.monitor s.sid 1 (monitor_sub window) (Some x) window) is) refl c.say.ensures in
    subst (λ (op : Operation). OnOk c.say.result (Went (saying new (monitor_beginning ask.fields.items s.sid op) []) new before after)) (sym c.in-Monitor.is) went
