use Rattle.desk_api.proofs.Showing.{value_fits}
use Rattle.desk_api.proofs.laws.values_fit.Goals as goal

pub returns : goal.returns
returns c = value_fits
