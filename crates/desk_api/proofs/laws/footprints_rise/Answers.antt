use Rattle.desk_api.proofs.Strict.{gets_rise, entries_rise, put_gets_rise}
use Rattle.desk_api.proofs.laws.footprints_rise.Goals as goal

pub returns : goal.returns
returns c = record { gets = gets_rise; entries = entries_rise; put_gets = put_gets_rise }
