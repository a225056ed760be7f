use Rattle.desk_api.proofs.Naming.{found_is_channel}
use Rattle.desk_api.proofs.laws.found_channels.Goals as goal

pub returns : goal.returns
returns c = found_is_channel
