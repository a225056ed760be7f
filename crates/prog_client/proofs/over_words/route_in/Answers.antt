use Rattle.prog_client.proofs.Routed.{route_as}
use Rattle.prog_client.proofs.over_words.route_in.Goals as goal

pub returns : goal.returns
returns c = route_as c.route_of.result c.given.ensures c.given-2.ensures c.given-3.ensures c.route_of.ensures
