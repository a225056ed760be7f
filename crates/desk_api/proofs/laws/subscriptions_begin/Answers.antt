use Rattle.desk_api.proofs.Folding.{has_begun}
use Rattle.desk_api.proofs.laws.subscriptions_begin.Goals as goal

pub returns : goal.returns
returns c = has_begun
