use Rattle.std.proofs.Common.{rules, ◌≡◌, ◌∙◌, ℕ, ap, arith, length}
use Rattle.hall_core.specs.Floor.{FloorState, take_cell, take_hub, commit}
use Rattle.hall_tests.proofs.TwoCells.{length_after, hub_after_take, hub_after_take_hub}
use Rattle.hall_tests.proofs.floors.both_cells_show_an_entry.Goals as goal

pub step-requires-4 : goal.step-requires-4
step-requires-4 g c = record {
  ready = c.in_ok-next.ensures c.step-3.new.self (
      hub_after_take_hub c.step-2.new.self 0 c.step-3.result c.step-3.new.self c.step-3.ensures.step
      ∙ (hub_after_take c.step.new.self 0 1 c.step-2.result c.step-2.new.self c.step-2.ensures.step
      ∙ (hub_after_take c.in_ok-floor.floor 0 0 c.step.result c.step.new.self c.step.ensures.step ∙ ap (λ f. f.hub) c.in_ok-floor.ensures.opened)));
}

pub cell-requires : goal.cell-requires
cell-requires g c =
    let now : length c.step-4.new.self.cells ≡ length c.in_ok-floor.floor.cells =
    length_after c.step-3.new.self (commit 0 c.in_ok-next.next.hub c.in_ok-next.next.writes.items) c.step-4.result c.step-4.new.self c.step-4.ensures.step
    ∙ (length_after c.step-2.new.self (take_hub 0) c.step-3.result c.step-3.new.self c.step-3.ensures.step
    ∙ (length_after c.step.new.self (take_cell 0 1) c.step-2.result c.step-2.new.self c.step-2.ensures.step
    ∙ length_after c.in_ok-floor.floor (take_cell 0 0) c.step.result c.step.new.self c.step.ensures.step)) in
    let then : length c.in_ok-floor.floor.cells ≡ length c.in_ok-cells.cells.items = ap (λ (f : FloorState ℕ ℕ). length f.cells) c.in_ok-floor.ensures.opened in
    let first : length c.in_ok-cells.cells.items ≡ 2 = search rules in
    omega (arith, now, then, first)

pub cell-requires-2 : goal.cell-requires-2
cell-requires-2 g c =
    let now : length c.step-4.new.self.cells ≡ length c.in_ok-floor.floor.cells =
    length_after c.step-3.new.self (commit 0 c.in_ok-next.next.hub c.in_ok-next.next.writes.items) c.step-4.result c.step-4.new.self c.step-4.ensures.step
    ∙ (length_after c.step-2.new.self (take_hub 0) c.step-3.result c.step-3.new.self c.step-3.ensures.step
    ∙ (length_after c.step.new.self (take_cell 0 1) c.step-2.result c.step-2.new.self c.step-2.ensures.step
    ∙ length_after c.in_ok-floor.floor (take_cell 0 0) c.step.result c.step.new.self c.step.ensures.step)) in
    let then : length c.in_ok-floor.floor.cells ≡ length c.in_ok-cells.cells.items = ap (λ (f : FloorState ℕ ℕ). length f.cells) c.in_ok-floor.ensures.opened in
    let first : length c.in_ok-cells.cells.items ≡ 2 = search rules in
    omega (arith, now, then, first)
