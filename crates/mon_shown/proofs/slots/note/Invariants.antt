use Rattle.mon_shown.proofs.Listing.{IsNoting}
use Rattle.mon_shown.proofs.slots.note.Given as goal

abbrev pub invariant-loop-rec : goal.invariant-loop-rec
invariant-loop-rec g l = IsNoting (g.V.Views.shows l.views l.channel) l.requested l.fn.index l.slot l.recs l.rec-index l.index
