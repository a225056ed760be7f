use Rattle.srv_host.proofs.Heard.{heard_out}
use Rattle.srv_host.proofs.laws.steady_links_are_heard_out.Goals as goal

pub returns : goal.returns
returns c = heard_out
