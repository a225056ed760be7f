use Rattle.std.proofs.Common.{◌≡◌, false, refl, rules}
use Rattle.cli_session.specs.Seen.{telling_view}
use Rattle.cli_session.specs.Steps.{is_reply, in_order}
use Rattle.cli_session.specs.Views.{state_of}
use Rattle.cli_session.proofs.Replied.{passed_over}
use Rattle.cli_session.proofs.Sending.{quiet}
use Rattle.cli_session.proofs.session.Session.hear_message.Goals as goal

pub returns-then-not-is_reply-clause-takes : goal.returns-then-not-is_reply-clause-takes
returns-then-not-is_reply-clause-takes c =
    let s = in_order (state_of c.args.self.now) c.args.whole.now in
    let out = c.args.out.now.items in
    let is : is_reply c.args.whole.now.command ≡ false = search rules in
    quiet _ s (state_of c.turn_order.new.self) out out (telling_view c.untold.result) (passed_over c.args.ask.now s c.args.turn c.args.later.now c.args.whole.now is) c.turn_order.ensures refl c.untold.ensures
