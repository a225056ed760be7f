use Rattle.cli_search.specs.Calls.{view_of}
use Rattle.cli_search.proofs.Rounding.{round_listened, round_unasked}
use Rattle.cli_search.proofs.searching.Searching.round.Goals as goal

pub returns-in-Ok-clause-rounds : goal.returns-in-Ok-clause-rounds
returns-in-Ok-clause-rounds g c = λ s round b. round_listened (c.in-Ok.ensures.asks s round b) _ (view_of c.listen.new.self) c.listen.result c.listen.ensures

pub returns-in-Err-clause-rounds : goal.returns-in-Err-clause-rounds
returns-in-Err-clause-rounds g c = λ s round b. round_unasked s round _ _ (view_of c.args.self.now) (view_of c.ask.new.self) (view_of c.ask.new.self) c.in-Err.stop c.requires.within (c.in-Err.ensures.asks s round b)
