use Rattle.std.proofs.Common.{length}
use Rattle.prog_drill.proofs.drilling.+feed_all.Given as goal

abbrev pub decreases-feed_all : goal.decreases-feed_all
decreases-feed_all g l = length l.rest.now
