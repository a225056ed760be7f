use Rattle.std.proofs.Common.{◌≡◌, ◌==◌, true, false, Ok, refl, ap, arith}
use Rattle.std.proofs.lemmas.Bool.Decides.{nat_tests}
use Rattle.cli_session.specs.Seen.{telling_view}
use Rattle.cli_session.specs.State.{State}
use Rattle.cli_session.specs.Views.{state_of}
use Rattle.cli_session.proofs.Sending.{quiet, echoed, control_of}
use Rattle.cli_session.proofs.session.Session.hear_control.Goals as goal

pub returns-then-command-eq-SET_BYTE_ORDER-clause-takes : goal.returns-then-command-eq-SET_BYTE_ORDER-clause-takes
returns-then-command-eq-SET_BYTE_ORDER-clause-takes c =
    let s = state_of c.args.self.now in
    let new : State = record s { order_told = true } in
    let out = c.args.out.now.items in
    let is : (c.args.command == 2) ≡ true = grind (arith, nat_tests) in
    quiet _ new new out out (telling_view c.untold.result) (ap Ok (control_of s c.args.command c.args.number true (c.args.command == 3) is refl)) refl refl c.untold.ensures

pub returns-then-command-eq-ECHO_REQUEST-clause-takes : goal.returns-then-command-eq-ECHO_REQUEST-clause-takes
returns-then-command-eq-ECHO_REQUEST-clause-takes c =
    let s = state_of c.args.self.now in
    let other : (c.args.command == 2) ≡ false = grind (arith, nat_tests) in
    let is : (c.args.command == 3) ≡ true = grind (arith, nat_tests) in
    echoed _ s s c.args.out.now.items c.echo.new.out.items (telling_view c.untold-then-command-eq-ECHO_REQUEST.result) c.args.number (ap Ok (control_of s c.args.command c.args.number false true other is))
    (c.in_ok-echo.ensures {u = tt}) c.untold-then-command-eq-ECHO_REQUEST.ensures

pub returns-clause-takes : goal.returns-clause-takes
returns-clause-takes c =
    let s = state_of c.args.self.now in
    let out = c.args.out.now.items in
    let other : (c.args.command == 2) ≡ false = grind (arith, nat_tests) in
    let neither : (c.args.command == 3) ≡ false = grind (arith, nat_tests) in
    quiet _ s s out out (telling_view c.untold-2.result) (ap Ok (control_of s c.args.command c.args.number false false other neither)) refl refl c.untold-2.ensures
