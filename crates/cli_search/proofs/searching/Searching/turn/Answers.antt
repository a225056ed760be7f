use Rattle.cli_search.specs.Calls.{view_of}
use Rattle.cli_search.proofs.Rounding.{turned_so}
use Rattle.cli_search.proofs.searching.Searching.turn.Goals as goal

pub returns : goal.returns
returns c = turned_so (view_of c.args.self.now) c.turn.new.self c.turn.result c.turn.ensures.told c.turn.ensures.turned
