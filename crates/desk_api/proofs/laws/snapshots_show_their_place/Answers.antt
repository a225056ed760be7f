use Rattle.desk_api.proofs.Telling.{all_shown}
use Rattle.desk_api.proofs.laws.snapshots_show_their_place.Goals as goal

pub returns : goal.returns
returns c = all_shown
