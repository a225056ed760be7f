use Rattle.std.proofs.Common.{◌≤◌, ◌*◌, ℕ, List, length, refl, ap, subst, ◌∙◌}
use Rattle.std.specs.List.{sum_by}
use Rattle.std.specs.Prelude.{◌^◌}
use Rattle.rec_kinds.specs.declared.datum.Action.{Action}
use Rattle.journal_core.specs.Weights.{action_weight}
use Rattle.journal_core.specs.declared.entry.Entry.{Entry}
use Rattle.desk_api.specs.Puts.{footprint_with}
use Rattle.desk_core.proofs.Doing.{on_err, none_broken, entry_light}
use Rattle.desk_core.proofs.cells.Cells.draft.Goals as goal

pub returns-in_err-footprint-clause-broken : goal.returns-in_err-footprint-clause-broken
returns-in_err-footprint-clause-broken g c = on_err c.from_residual.result (none_broken _ _ _ _ _ _ refl)

pub returns-in-Ok-clause-light : goal.returns-in-Ok-clause-light
returns-in-Ok-clause-light g c =
    entry_light c.args.site.now c.args.actions.items c.args.looked.now c.entry_of.result
    (ap (λ (e : Entry). e.footprint) c.entry_of.ensures ∙ c.in_ok-footprint.ensures {u = tt} ∙ ap (λ (l : List (ℕ × Action)). footprint_with c.args.site.now l c.args.looked.now) c.as_slice.ensures.value)
    (ap (λ (e : Entry). e.actions) c.entry_of.ensures) c.names_and_configs.ensures.few c.requires.few
    (subst (λ (l : List (ℕ × Action)). sum_by action_weight l ≤ length l * 2 ^ 39) c.as_slice-2.ensures.value (c.in-Ok.ensures {u = tt}).light)
