use Rattle.desk_api.proofs.Adding.{adds_nothing, adds_more}
use Rattle.desk_api.proofs.laws.calls_in_turn.Goals as goal

pub returns : goal.returns
returns c = record { nothing = adds_nothing; more = λ a b c xs ys first then. adds_more first then }
