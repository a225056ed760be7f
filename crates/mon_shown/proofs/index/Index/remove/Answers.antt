use Rattle.std.proofs.Common.{arith}
use Rattle.mon_shown.proofs.Listing.{removed_past}
use Rattle.mon_shown.proofs.index.Index.remove.Goals as goal

pub returns-then-at-len : goal.returns-then-at-len
returns-then-at-len c = λ r s. removed_past c.args.self.now.lists.items c.args.rec c.args.slot r s (omega (arith, c.if-at-len.true, c.len.ensures))

pub returns : goal.returns
returns c = c.remove_at.ensures
