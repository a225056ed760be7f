use Rattle.std.proofs.Common.{◌==◌, ◌≡◌, true, false, arith}
use Rattle.std.proofs.lemmas.Bool.Decides.{nat_tests}
use Rattle.pva_frames.specs.declared.event.Event.TheVariants.{Control}
use Rattle.srv_session.specs.Tasks.{pass_over, echo_control}
use Rattle.srv_session.specs.Views.{state_of, show}
use Rattle.srv_session.proofs.Heeding.{responds, control_heard}
use Rattle.srv_session.proofs.session.Session.handle_control.Goals as goal

pub returns-then-command-eq-ECHO_REQUEST : goal.returns-then-command-eq-ECHO_REQUEST
returns-then-command-eq-ECHO_REQUEST c seat legal moment =
    let s = state_of c.args.self.now in
    let is : (c.args.command == 3) ≡ true = grind (arith, nat_tests) in
    responds (show seat c.args.self.now) (show seat c.echo_control.new.self) moment (Control c.args.command c.args.number) (echo_control c.args.number) c.echo_control.result
    (control_heard seat.seen.base.site s c.args.command c.args.number true is) (c.echo_control.ensures seat legal moment)

pub returns : goal.returns
returns c seat legal moment =
    let s = state_of c.args.self.now in
    let is : (c.args.command == 3) ≡ false = grind (arith, nat_tests) in
    responds (show seat c.args.self.now) (show seat c.pass_over.new.self) moment (Control c.args.command c.args.number) pass_over c.pass_over.result
    (control_heard seat.seen.base.site s c.args.command c.args.number false is) (c.pass_over.ensures seat legal moment)
