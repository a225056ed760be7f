use Rattle.pva_messages.specs.Views.{request_view}
use Rattle.cli_session.specs.Views.{state_of}
use Rattle.cli_session.proofs.Sending.{said_written}
use Rattle.cli_session.proofs.session.Session.say.Goals as goal

pub returns : goal.returns
returns c =
    said_written c.write_to_server-written.result (state_of c.args.self.now) c.args.out.now.items c.write_to_server-written.new.out.items (request_view c.args.message) c.args.self.now.some
    c.write_to_server-written.ensures.ok c.write_to_server-written.ensures.spelled
