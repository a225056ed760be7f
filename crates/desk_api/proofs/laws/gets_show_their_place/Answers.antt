use Rattle.desk_api.proofs.Showing.{read_shows}
use Rattle.desk_api.proofs.laws.gets_show_their_place.Goals as goal

pub returns : goal.returns
returns c = read_shows c.value_reads_records.ensures
