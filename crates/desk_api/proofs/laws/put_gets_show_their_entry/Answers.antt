use Rattle.desk_api.proofs.Showing.{entry_shows}
use Rattle.desk_api.proofs.laws.put_gets_show_their_entry.Goals as goal

pub returns : goal.returns
returns c = entry_shows c.value_reads_records.ensures
