use Rattle.cli_session.proofs.SentHeard.{sent_is_heard}
use Rattle.cli_session.proofs.laws.sent_is_heard.Goals as goal

pub returns : goal.returns
returns c = sent_is_heard
