use Rattle.std.proofs.Common.{refl, sym, ap, ◌∙◌}
use Rattle.hall_locks.specs.Hall.{first_view}
use Rattle.desk_api.specs.declared.history.SiteData.{SiteData}
use Rattle.desk_shared.proofs.Opened.{a_cell_each, cells_show, few_cells}
use Rattle.desk_shared.proofs.Returned.{ports_and_states}
use Rattle.desk_shared.proofs.opening.open_hall.Goals as goal

pub invariant_of-books : goal.invariant_of-books
invariant_of-books g c = record { opening_is = c.new-history.ensures.opening ∙ (c.in_ok-opening.ensures {u = tt}).states ∙ ap (λ (z : SiteData). z.opening) (sym c.of.ensures) }

pub cells_of-requires : goal.cells_of-requires
cells_of-requires g c =
    let states = c.in_ok-states.ensures {u = tt} in
    ports_and_states c.args.site.now c.args.ports.items c.in_ok-states.states.items states.valid states.states c.requires

pub new-requires-clause-few : goal.new-requires-clause-few
new-requires-clause-few g c =
    let states = c.in_ok-states.ensures {u = tt} in
    few_cells c.in_ok-cells.cells.items c.args.site.now ((c.in_ok-cells.ensures {u = tt}).states ∙ states.states) states.valid c.names_and_configs.ensures.same c.names_and_configs.ensures.few

pub new-requires-clause-empty : goal.new-requires-clause-empty
new-requires-clause-empty g c = c.new-history.ensures.entries

pub new-requires-clause-shown : goal.new-requires-clause-shown
new-requires-clause-shown g c =
    let states = c.in_ok-states.ensures {u = tt} in
    cells_show c.in_ok-cells.cells.items (record { site = c.of.result.value; limit = c.args.limit }) ((c.in_ok-cells.ensures {u = tt}).states ∙ states.states ∙ ap (λ (z : SiteData). z.opening) (sym c.of.ensures))

pub new-requires-clause-keeps : goal.new-requires-clause-keeps
new-requires-clause-keeps g c = λ k. c.a_new_desk_keeps.ensures _ c.new-subs.result k refl (c.new-subs.ensures.stand _ _) c.new-subs.ensures.none

pub returns-in-Ok-clause-count : goal.returns-in-Ok-clause-count
returns-in-Ok-clause-count g c =
    let states = c.in_ok-states.ensures {u = tt} in
    (c.in-Ok.ensures {u = tt}).count ∙ a_cell_each c.in_ok-cells.cells.items c.args.site.now ((c.in_ok-cells.ensures {u = tt}).states ∙ states.states) states.valid c.names_and_configs.ensures.same

pub returns-in-Ok-clause-first : goal.returns-in-Ok-clause-first
returns-in-Ok-clause-first g c = (c.in-Ok.ensures {u = tt}).first ∙ ap (λ (z : SiteData). first_view (record { site = z; limit = c.args.limit })) c.of.ensures
