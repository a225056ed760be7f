use Rattle.std.proofs.Common.{refl}
use Rattle.cli_search.proofs.Listening.{brought}
use Rattle.cli_search.proofs.Passing.{failed_receive, passed_nothing}
use Rattle.cli_search.proofs.searching.receive.Goals as goal

pub returns-in-Got : goal.returns-in-Got
returns-in-Got g c = brought c.args.finder.now c.hear.new.finder c.hear.result c.in-Got.ensures c.hear.ensures

pub returns-in-Idle : goal.returns-in-Idle
returns-in-Idle g c = (passed_nothing c.in-Idle.ensures, refl)

pub returns-in-Failed : goal.returns-in-Failed
returns-in-Failed g c = failed_receive c.in-Failed.ensures
