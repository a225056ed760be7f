use Rattle.mon_shown.proofs.Listing.{IsForgetting}
use Rattle.mon_shown.proofs.slots.forget.Given as goal

abbrev pub invariant-loop-rec : goal.invariant-loop-rec
invariant-loop-rec g l = IsForgetting l.fn.index l.slot l.recs l.rec-index l.index
