use Rattle.pva_messages.specs.Views.{reply_view}
use Rattle.cli_session.proofs.FittingReplies.{reply_fit}
use Rattle.cli_session.proofs.session.Session.read.Goals as goal

pub returns-clause-fits : goal.returns-clause-fits
returns-clause-fits c = reply_fit (reply_view c.in_ok-read_to_client.field-0) (c.in_ok-read_to_client.ensures {u = tt}).fits
