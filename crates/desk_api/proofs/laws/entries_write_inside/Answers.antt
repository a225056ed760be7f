use Rattle.desk_api.proofs.Holding.{writes_inside, writes_inside_with}
use Rattle.desk_api.proofs.laws.entries_write_inside.Goals as goal

pub returns : goal.returns
returns c = record { puts = writes_inside; put_gets = writes_inside_with }
