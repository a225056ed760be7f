use Rattle.std.proofs.Common.{length}
use Rattle.group_view.proofs.slots.+put_behind.Given as goal

abbrev pub decreases-put_behind : goal.decreases-put_behind
decreases-put_behind l = length l.path.now
