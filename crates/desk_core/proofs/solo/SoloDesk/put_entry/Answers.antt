use Rattle.std.proofs.Common.{ℕ, List, [], Ok, Err, refl, map, option_map, sym, subst, ap, ◌∙◌}
use Rattle.rec_kinds.specs.declared.state.RecState.{RecState}
use Rattle.journal_core.specs.Histories.{WritesWithin, written}
use Rattle.journal_core.specs.Legality.{AreValid}
use Rattle.desk_api.specs.declared.history.Base.{Base}
use Rattle.desk_core.specs.Begun.{IsPutNow}
use Rattle.desk_core.specs.Ports.{Ports, ports_there}
use Rattle.desk_core.specs.Standing.{Stands, base_of}
use Rattle.desk_core.proofs.Doing.{stay_driven, valid_done, within_now, writes_within}
use Rattle.desk_core.proofs.Keeping.{entered_kept, kept_stand, refused_kept}
use Rattle.desk_core.proofs.Ported.{ported}
use Rattle.desk_core.proofs.Soloing.{in_opening, draft_put, put_stands, put_legal, put_valid, refused_stands, refused_legal, back_valid}
use Rattle.desk_core.proofs.solo.SoloDesk.put_entry.Goals as goal

pub invariant_of-self : goal.invariant_of-self
invariant_of-self g c =
    let d = c.args.self.now in
    let base = base_of d.terms in
    let failed = c.in_default.ensures {u = tt} in record {
      stands = subst (λ (l : List RecState). Stands base l d.history d.log) (sym failed.states) d.stands;
      legal = d.legal;
      valid = subst (AreValid d.terms.site.configs) (sym failed.states) d.valid;
      ported = ported g.P.Port.port d.terms.site.configs d.cells.ports.items d.ported c.draft.new.self.ports.items (stay_driven _ _ failed.broken.drives failed.broken.writes failed.broken.driven);
      keeps = d.keeps;
    }

pub enter-requires-clause-stand : goal.enter-requires-clause-stand
enter-requires-clause-stand g c =
    let d = c.args.self.now in
    kept_stand d.terms.site d.subs d.log (ap (λ (b : Base). b.site) d.stands.base_is) d.keeps

pub enter-requires-clause-valid : goal.enter-requires-clause-valid
enter-requires-clause-valid g c =
    let d = c.args.self.now in
    let drafted = (c.in-Ok.ensures {u = tt}).drafted in
    subst (AreValid d.terms.site.configs) (sym drafted.done.cells_are ∙ sym c.as_slice-cells.ensures.value) (valid_done _ _ _ _ _ _ d.valid drafted.done.processed)

pub enter-requires-clause-within : goal.enter-requires-clause-within
enter-requires-clause-within g c =
    let d = c.args.self.now in
    let drafted = (c.in-Ok.ensures {u = tt}).drafted in
    subst (λ (n : ℕ). WritesWithin n c.in-Ok.entry.writes) (in_opening d.log d.stands) (writes_within _ _ _ _ _ _ drafted.done.processed)

pub invariant_of-self-in-Ok-enter : goal.invariant_of-self-in-Ok-enter
invariant_of-self-in-Ok-enter g c =
    let d = c.args.self.now in
    let base = base_of d.terms in
    let drafted = (c.in-Ok.ensures {u = tt}).drafted in
    let inside = c.entries_write_inside.ensures.put_gets in
    let entered = c.in-Ok-enter.ensures {u = tt} in
    let e = entered.entered in record {
      stands = put_stands inside base _ _ d.history d.log d.stands d.legal d.valid _ _ _ [] [] _ c.in-Ok.entry _ drafted refl c.args.done c.enter.new.history c.enter.new.log _ e;
      legal = put_legal inside base _ _ d.history d.log d.stands d.legal d.valid _ _ _ [] [] _ c.in-Ok.entry _ drafted refl c.args.done c.enter.new.history c.enter.new.log _ e;
      valid = put_valid inside base _ _ d.history d.log d.stands d.legal d.valid _ _ _ [] [] _ c.in-Ok.entry _ drafted refl c.args.done c.enter.new.history c.enter.new.log _ e;
      ported = ported g.P.Port.port d.terms.site.configs d.cells.ports.items d.ported c.draft.new.self.ports.items (stay_driven _ _ c.in-Ok.entry.drove c.in-Ok.entry.writes drafted.done.driven);
      keeps = entered_kept d.terms.site _ c.in-Ok.entry d.subs c.enter.new.subs entered.posts d.log c.enter.new.log (ap (λ (b : Base). b.site) d.stands.base_is) d.keeps [] []
          (c.as_slice-cells.ensures.value ∙ drafted.done.cells_are ∙ ap (λ (l : List RecState). written l c.in-Ok.entry.writes) d.stands.cells_are) e.marked;
    }

pub restore-requires : goal.restore-requires
restore-requires g c =
    let drafted = (c.in-Ok.ensures {u = tt}).drafted in
    within_now _ _ c.args.self.now.cells.states.items _ c.draft.new.self.states.items _ _ _ _ _ drafted.done

pub invariant_of-self-in-Err : goal.invariant_of-self-in-Err
invariant_of-self-in-Err g c =
    let d = c.args.self.now in
    let base = base_of d.terms in
    let drafted = (c.in-Ok.ensures {u = tt}).drafted in
    let inside = c.entries_write_inside.ensures.put_gets in
    let failed = c.in-Err.ensures {u = tt} in
    let e = failed.entered in record {
      stands = refused_stands inside base _ _ d.history d.log d.stands d.legal d.valid _ _ _ [] [] _ c.in-Ok.entry _ drafted refl c.restore.new.self.states.items c.restore.ensures.states c.enter.new.history c.enter.new.log c.args.done c.in-Err.answer e;
      legal = refused_legal inside base _ _ d.history d.log d.stands d.legal d.valid _ _ _ [] [] _ c.in-Ok.entry _ drafted refl c.enter.new.history c.enter.new.log c.args.done c.in-Err.answer e;
      valid = back_valid inside base _ _ d.history d.log d.stands d.legal d.valid _ _ _ [] [] _ c.in-Ok.entry _ drafted refl c.restore.new.self.states.items c.restore.ensures.states;
      ported = ported g.P.Port.port d.terms.site.configs d.cells.ports.items d.ported c.restore.new.self.ports.items
          (ap ports_there (ap (map (option_map g.P.Port.port)) c.restore.ensures.ports) ∙ stay_driven _ _ c.in-Ok.entry.drove c.in-Ok.entry.writes drafted.done.driven);
      keeps = refused_kept c.marks_keep.ensures d.subs c.enter.new.subs failed.same c.in-Ok.entry [] [] d.terms.limit c.args.done d.history c.enter.new.history d.log c.enter.new.log d.keeps c.in-Err.answer e;
    }

pub returns-in-Ok-enter-clause-put : goal.returns-in-Ok-enter-clause-put
returns-in-Ok-enter-clause-put g c =
    let d = c.args.self.now in
    let drafted = (c.in-Ok.ensures {u = tt}).drafted in
    draft_put c.entries_write_inside.ensures.put_gets (base_of d.terms) _ _ d.history d.log d.stands d.legal d.valid _ _ _ [] [] _ c.in-Ok.entry _ drafted refl c.args.done c.enter.new.history c.enter.new.log (Ok c.in-Ok-enter.place) (c.in-Ok-enter.ensures {u = tt}).entered

pub returns-in-Err-clause-put : goal.returns-in-Err-clause-put
returns-in-Err-clause-put g c =
    let d = c.args.self.now in
    let drafted = (c.in-Ok.ensures {u = tt}).drafted in
    subst (λ (p : Ports). IsPutNow d.terms.site c.args.moment c.args.actions.items [] [] c.args.done d.log c.enter.new.log (map (option_map g.P.Port.port) d.cells.ports.items) p (Err c.in-Err.answer)) (sym (ap (map (option_map g.P.Port.port)) c.restore.ensures.ports))
    (draft_put c.entries_write_inside.ensures.put_gets (base_of d.terms) _ _ d.history d.log d.stands d.legal d.valid _ _ _ [] [] _ c.in-Ok.entry _ drafted refl c.args.done c.enter.new.history c.enter.new.log (Err c.in-Err.answer) (c.in-Err.ensures {u = tt}).entered)
