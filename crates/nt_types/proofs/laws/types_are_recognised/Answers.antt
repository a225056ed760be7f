use Rattle.nt_types.proofs.Recognised.{a_scalar, a_list, a_choice, a_table, a_uri}
use Rattle.nt_types.proofs.laws.types_are_recognised.Goals as goal

pub returns : goal.returns
returns c = record { scalar = a_scalar; scalar_array = a_list; choice = a_choice; table = a_table; uri = a_uri }
