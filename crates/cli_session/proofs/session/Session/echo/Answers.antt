use Rattle.std.proofs.Common.{◌<◌, ◌^◌, arith}
use Rattle.cli_session.specs.Views.{state_of}
use Rattle.cli_session.proofs.Sending.{control_written}
use Rattle.cli_session.proofs.session.Session.echo.Goals as goal

pub returns : goal.returns
returns c =
    let fits : c.args.number < 2 ^ 32 = omega arith in
    control_written c.write_control.result (state_of c.args.self.now) c.args.out.now.items c.write_control.new.out.items c.args.number fits c.write_control.ensures.ok
