use Rattle.std.proofs.Common.{◌≡◌, ℕ, ◌||◌, drop}
use Rattle.db_links.specs.Chains.{roots}
use Rattle.db_links.specs.Reaching.{is_among}
use Rattle.db_links.specs.Walks.{has}
use Rattle.db_links.proofs.course.mark_roots.Given as goal

abbrev pub invariant-loop-step : goal.invariant-loop-step
invariant-loop-step l = (q : ℕ) → (is_among q (roots (drop l.step-index l.actions)) || has l.done q) ≡ (is_among q (roots l.actions) || has l.initial.done q)
