use Rattle.std.proofs.Common.{◌≡◌, ◌+◌, ◌*◌, drop}
use Rattle.pvd_value.specs.View.{row_view}
use Rattle.pvd_value.proofs.Rows.{joined}
use Rattle.group_view.specs.Groups.{HasState}
use Rattle.group_view.specs.Seen.{branch_seen, slots_seen}
use Rattle.group_view.specs.Slots.{EachOfShown}
use Rattle.group_view.proofs.Walks.{size_of, sizes_of}
use Rattle.group_view.specs.Views.{slots_shown}
use Rattle.group_view.proofs.views.+views.Given as goal

abbrev pub decreases-value_of : goal.decreases-value_of
decreases-value_of l = 2 * size_of (branch_seen l.branch.now)

abbrev pub decreases-values_of : goal.decreases-values_of
decreases-values_of l = 2 * sizes_of (slots_seen l.slots.now) + 1

abbrev pub invariant-values_of-loop-named : goal.invariant-values_of-loop-named
invariant-values_of-loop-named l =
    let rest = slots_seen (drop l.named-index l.slots) in
    record {
      values : joined (row_view l.values.items) (slots_shown l.states rest) ≡ slots_shown l.states (slots_seen l.slots);
      ready : EachOfShown (λ s. HasState l.states s.link) rest;
    }
