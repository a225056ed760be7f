use Rattle.cli_search.proofs.Passing.{failed_send, passed_sent}
use Rattle.cli_search.proofs.searching.send.Goals as goal

pub returns-in-Sent : goal.returns-in-Sent
returns-in-Sent g c = passed_sent c.in-Sent.ensures

pub returns-in-Failed : goal.returns-in-Failed
returns-in-Failed g c = failed_send c.in-Failed.ensures
