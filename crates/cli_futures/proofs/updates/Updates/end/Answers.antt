use Rattle.std.proofs.Common.{refl}
use Rattle.cli_futures.proofs.Given.{ended_as}
use Rattle.cli_futures.proofs.updates.Updates.end.Goals as goal

pub returns : goal.returns
returns g c = ended_as g.L.Link.wire c.args.self c.in-Some.end c.args.self.conversation.link c.in-Some.is refl
