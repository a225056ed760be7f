use Rattle.mon_shown.proofs.Kept.{entry_kept}
use Rattle.mon_shown.proofs.laws.entries_are_kept.Goals as goal

pub returns : goal.returns
returns g c = entry_kept
