use Rattle.desk_api.proofs.Showing.{looks_show}
use Rattle.desk_api.proofs.laws.looks_show_states.Goals as goal

pub returns : goal.returns
returns c = looks_show c.value_reads_records.ensures
