use Rattle.std.proofs.Common.{◌≡◌, ℕ, length}
use Rattle.mon_shown.specs.Noting.{names}
use Rattle.mon_shown.proofs.index.Index.widen.Given as goal

abbrev pub invariant-loop-list : goal.invariant-loop-list
invariant-loop-list l = (length l.self.lists.items ≡ l._list) × ((r s : ℕ) → names l.self r s ≡ names l.fn.self r s)
