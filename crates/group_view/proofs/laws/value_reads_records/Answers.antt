use Rattle.group_view.proofs.Depending.{reads_records}
use Rattle.group_view.proofs.laws.value_reads_records.Goals as goal

pub returns : goal.returns
returns c = λ g. reads_records g
