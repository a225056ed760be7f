use Rattle.std.proofs.Common.{◌≡◌, ◌<◌, ℕ, true}
use Rattle.mon_shown.specs.Slots.{is_filled}
use Rattle.mon_shown.proofs.subscriptions.Subscriptions.first_free.Given as goal

abbrev pub invariant-loop-slot : goal.invariant-loop-slot
invariant-loop-slot g l = (k : ℕ) → k < l.slot → is_filled l.self k ≡ true
