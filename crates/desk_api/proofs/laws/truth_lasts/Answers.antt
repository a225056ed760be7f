use Rattle.desk_api.proofs.Adding.{same_state, same_kept, all_still_hold}
use Rattle.desk_api.proofs.laws.truth_lasts.Goals as goal

pub returns : goal.returns
returns c = record {
  states = λ h k grows at within. same_state grows at within;
  weights = λ h k grows at within. same_kept grows at within;
  marks = λ h k grows seat before marks true_. all_still_hold seat grows before marks true_;
}
