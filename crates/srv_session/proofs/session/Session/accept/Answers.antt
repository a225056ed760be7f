use Rattle.srv_session.specs.Tasks.{validate}
use Rattle.srv_session.specs.Views.{state_of, output_of}
use Rattle.srv_session.proofs.Rows.{gave_up}
use Rattle.srv_session.proofs.Slots.{still}
use Rattle.srv_session.proofs.session.Session.accept.Goals as goal

pub returns-in_err-say_validated : goal.returns-in_err-say_validated
returns-in_err-say_validated c seat legal moment =
    let failed = c.in_err-say_validated.ensures {u = tt} in
    gave_up seat moment (state_of c.args.self.now) (state_of c.say_validated.new.self) (output_of c.args.self.now) (output_of c.say_validated.new.self)
    (validate c.args.buffer c.args.registry c.args.user c.args.host) c.from_residual.result legal c.from_residual.ensures.0 failed.err (still failed.state)
