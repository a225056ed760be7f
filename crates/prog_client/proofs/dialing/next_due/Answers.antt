use Rattle.cli_within.specs.Ends.{client_view}
use Rattle.prog_client.proofs.Conversing.{due_so}
use Rattle.prog_client.proofs.dialing.next_due.Goals as goal

pub returns-in-Some : goal.returns-in-Some
returns-in-Some c = c.in-Some.ensures

pub returns-in-None : goal.returns-in-None
returns-in-None c = due_so (client_view c.args.client.now) c.args.idles c.args.calls c.args.patience c.due_within.result c.in-None.ensures c.due_within.ensures
