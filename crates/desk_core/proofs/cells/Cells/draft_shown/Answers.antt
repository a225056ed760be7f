use Rattle.std.proofs.Common.{ℕ, List, Err, map, option_map, refl, sym, subst, ap, ◌∙◌}
use Rattle.std.specs.List.{AllByRecursion}
use Rattle.std.specs.Prelude.{length, ◌<◌}
use Rattle.rec_kinds.specs.declared.state.RecState.{RecState}
use Rattle.journal_core.specs.Legality.{AreValid}
use Rattle.desk_api.specs.Views.{value_of}
use Rattle.pvd_value.specs.View.{view}
use Rattle.desk_core.specs.Effects.{IsBroken, IsDraft}
use Rattle.desk_core.specs.Ports.{Ports}
use Rattle.desk_core.proofs.Doing.{done_broken, on_err, valid_done, within_now}
use Rattle.desk_core.proofs.Reading.{below}
use Rattle.desk_core.proofs.cells.Cells.draft_shown.Goals as goal

pub draft-requires-clause-below : goal.draft-requires-clause-below
draft-requires-clause-below g c =
    let site = c.args.site.now in
    subst (AllByRecursion (λ rec. rec < length site.configs)) (sym c.footprint_of-looked.ensures)
    (below site c.args.channel (length site.configs) c.groups_over_records.ensures c.names_and_configs.ensures.same refl c.requires.channel)

pub view-requires-clause-valid : goal.view-requires-clause-valid
view-requires-clause-valid g c =
    let site = c.args.site.now in
    let done = (c.in-Ok.ensures {u = tt}).drafted.done in
    subst (AreValid site.configs) (sym (c.as_slice.ensures.value ∙ done.cells_are))
    (valid_done site.configs c.args.self.now.states.items c.args.moment c.args.actions.items c.in-Ok.entry.drove c.in-Ok.entry.writes c.requires.valid done.processed)

pub restore-requires : goal.restore-requires
restore-requires g c =
    within_now _ _ c.args.self.now.states.items _ c.draft.new.self.states.items _ _ _ _ _ (c.in-Ok.ensures {u = tt}).drafted.done

pub returns-in-Ok-view-clause-drafted : goal.returns-in-Ok-view-clause-drafted
returns-in-Ok-view-clause-drafted g c =
    subst (λ (l : List ℕ). IsDraft c.args.site.now c.args.self.now.states.items c.draft.new.self.states.items (map (option_map g.P.Port.port) c.args.self.now.ports.items) (map (option_map g.P.Port.port) c.draft.new.self.ports.items) c.args.actions.items l c.args.moment c.in-Ok.entry c.draft.new.self.before.items)
    c.footprint_of-looked.ensures (c.in-Ok.ensures {u = tt}).drafted

pub returns-in-Ok-view-clause-shown : goal.returns-in-Ok-view-clause-shown
returns-in-Ok-view-clause-shown g c =
    (c.in-Ok-view.ensures {u = tt}).shown ∙ ap (value_of c.args.site.now c.args.channel) c.as_slice.ensures.value

pub returns-in-Err-clause-broken : goal.returns-in-Err-clause-broken
returns-in-Err-clause-broken g c =
    let done = (c.in-Ok.ensures {u = tt}).drafted.done in
    subst (λ (p : Ports). IsBroken c.args.site.now.configs c.args.self.now.states.items (map (option_map g.P.Port.port) c.args.self.now.ports.items) p c.args.actions.items c.args.moment)
    (sym (ap (map (option_map g.P.Port.port)) c.restore.ensures.ports)) (done_broken _ _ _ _ _ _ _ _ _ _ done)

pub returns-in-Err-clause-states : goal.returns-in-Err-clause-states
returns-in-Err-clause-states g c = c.restore.ensures.states ∙ (c.in-Ok.ensures {u = tt}).drafted.done.kept
