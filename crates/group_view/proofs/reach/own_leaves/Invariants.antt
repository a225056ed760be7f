use Rattle.std.proofs.Common.{◌≡◌, ◌<◌, ℕ, [], ◌++◌, length, drop}
use Rattle.group_view.specs.Leaves.{leaves_at, places, is_number}
use Rattle.group_view.proofs.reach.own_leaves.Given as goal

abbrev pub invariant-loop : goal.invariant-loop
invariant-loop l = (length l.own.items ≡ l.counter) × ((n : ℕ) → leaves_at l.own.items n ≡ [])

abbrev pub invariant-loop-number : goal.invariant-loop-number
invariant-loop-number l =
    (length l.own.items ≡ l.count)
    × ((n : ℕ) → n < l.count → leaves_at l.own.items n ++ places (is_number n) l.number (drop l.number l.shown) ≡ places (is_number n) 0 l.shown)
