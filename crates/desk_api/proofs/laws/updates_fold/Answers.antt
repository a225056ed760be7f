use Rattle.desk_api.proofs.Folding.{living_folds, ends_fold}
use Rattle.desk_api.proofs.laws.updates_fold.Goals as goal

pub returns : goal.returns
returns c = record { living = living_folds; ended = ends_fold }
