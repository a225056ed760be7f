use Rattle.group_view.proofs.Depending.{reads_footprint}
use Rattle.group_view.proofs.laws.value_reads_footprint.Goals as goal

pub returns : goal.returns
returns c = λ g rec. reads_footprint g rec
