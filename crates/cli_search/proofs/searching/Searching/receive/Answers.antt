use Rattle.std.proofs.Common.{refl, arith}
use Rattle.cli_search.specs.Calls.{view_of}
use Rattle.cli_search.proofs.Listening.{received}
use Rattle.cli_search.proofs.searching.Searching.receive.Goals as goal

pub returns : goal.returns
returns g c = received _ _ (view_of c.args.self.now) _ c.receive.result refl (omega arith) c.receive.ensures
