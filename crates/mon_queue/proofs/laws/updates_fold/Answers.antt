use Rattle.mon_queue.proofs.Courses.{folds}
use Rattle.mon_queue.proofs.laws.updates_fold.Goals as goal

pub returns : goal.returns
returns g c = folds
