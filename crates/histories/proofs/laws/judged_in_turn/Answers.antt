use Rattle.histories.proofs.Judged.{truth_appends, legality_appends, legal_places}
use Rattle.histories.proofs.laws.judged_in_turn.Goals as goal

pub returns : goal.returns
returns g c = record { truth = truth_appends _; legality = legality_appends _; places = legal_places _ }
