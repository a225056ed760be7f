use Rattle.std.proofs.Common.{◌≡◌, ℕ, List, IsTrue, Some, true, Result, Ok, Err, length, map, option_map, refl, sym, subst, ap, ◌∙◌}
use Rattle.rec_kinds.specs.declared.state.RecState.{RecState}
use Rattle.journal_core.specs.Histories.{Journal, WritesWithin, written}
use Rattle.journal_core.specs.Legality.{AreValid}
use Rattle.journal_core.specs.declared.entry.Entry.{Entry}
use Rattle.desk_api.specs.Sites.{AreOver, footprint_of, is_channel}
use Rattle.desk_api.specs.Views.{AreStatesOf, found_in, value_of}
use Rattle.desk_api.specs.declared.channel.Channel.{Channel}
use Rattle.desk_api.specs.declared.history.Base.{Base}
use Rattle.desk_api.specs.declared.history.SiteData.{SiteData}
use Rattle.desk_api.specs.declared.mark.Seat.{Seat}
use Rattle.desk_api.specs.declared.put.PutAnswer.{PutAnswer}
use Rattle.desk_core.specs.Begun.{Enters}
use Rattle.desk_core.specs.Ports.{Ports, ports_there}
use Rattle.desk_core.specs.PutGets.{IsPutGotNow}
use Rattle.desk_core.specs.Standing.{Stands, base_of}
use Rattle.desk_core.proofs.Combining.{ends_at_once}
use Rattle.desk_core.proofs.Doing.{stay_driven, valid_done, within_now, writes_within}
use Rattle.desk_core.proofs.Keeping.{entered_kept, kept_stand, refused_kept}
use Rattle.desk_core.proofs.Listing.{valid_count}
use Rattle.desk_core.proofs.Ported.{ported}
use Rattle.desk_core.proofs.Reading.{below, found_all, shows_at_once, whole_wanted}
use Rattle.desk_core.proofs.Soloing.{in_opening, opening_cells, draft_put, put_stands, put_legal, put_valid, refused_stands, refused_legal, back_valid}
use Rattle.desk_core.proofs.solo.SoloDesk.put_and_show.Goals as goal

-- what was found of a channel's records
finds : (site : SiteData) (channel : Channel) (after : List RecState) → AreOver site → length site.names ≡ length site.configs → AreValid site.configs after → IsTrue (is_channel site channel)
    → AreStatesOf after (footprint_of site channel) (found_in after (footprint_of site channel))
finds site channel after over named valid is = found_all after (footprint_of site channel) (below site channel (length after) over named (valid_count site.configs after valid) is)

-- the same entry, of the channel's records and the present states
seen_as : (entry : Entry) (limit done : ℕ) (old new : Journal) (s t : Seat) (r : Result ℕ PutAnswer) (looked recs : List ℕ) (cells after : List RecState) → looked ≡ recs → cells ≡ after
    → Enters entry looked (found_in cells looked) limit done old new s t r → Enters entry recs (found_in after recs) limit done old new s t r
seen_as entry limit done old new s t r looked recs cells after recs_are cells_are e =
    subst (λ (x : List ℕ × List RecState). Enters entry x.0 (found_in x.1 x.0) limit done old new s t r) (λ i. (recs_are i, cells_are i)) e

pub invariant_of-self : goal.invariant_of-self
invariant_of-self g c =
    let d = c.args.self.now in
    let base = base_of d.terms in
    let failed = c.in_default.ensures {u = tt} in record {
      stands = subst (λ (l : List RecState). Stands base l d.history d.log) (sym failed.states) d.stands;
      legal = d.legal;
      valid = subst (AreValid d.terms.site.configs) (sym failed.states) d.valid;
      ported = ported g.P.Port.port d.terms.site.configs d.cells.ports.items d.ported c.draft_shown.new.self.ports.items (stay_driven _ _ failed.broken.drives failed.broken.writes failed.broken.driven);
      keeps = d.keeps;
    }

pub enter-requires-clause-stand : goal.enter-requires-clause-stand
enter-requires-clause-stand g c =
    let d = c.args.self.now in
    kept_stand d.terms.site d.subs d.log (ap (λ (b : Base). b.site) d.stands.base_is) d.keeps

pub enter-requires-clause-valid : goal.enter-requires-clause-valid
enter-requires-clause-valid g c =
    let d = c.args.self.now in
    let drafted = (c.in-Ok.ensures {u = tt}).drafted in
    subst (AreValid d.terms.site.configs) (sym drafted.done.cells_are ∙ sym c.as_slice-cells.ensures.value) (valid_done _ _ _ _ _ _ d.valid drafted.done.processed)

pub enter-requires-clause-within : goal.enter-requires-clause-within
enter-requires-clause-within g c =
    let d = c.args.self.now in
    let drafted = (c.in-Ok.ensures {u = tt}).drafted in
    subst (λ (n : ℕ). WritesWithin n c.in-Ok.drafted.0.writes) (in_opening d.log d.stands) (writes_within _ _ _ _ _ _ drafted.done.processed)

pub invariant_of-self-in-Ok-enter : goal.invariant_of-self-in-Ok-enter
invariant_of-self-in-Ok-enter g c =
    let d = c.args.self.now in
    let site = d.terms.site in
    let base = base_of d.terms in
    let after = c.draft_shown.new.self.states.items in
    let recs = footprint_of site c.args.channel in
    let drafted = (c.in-Ok.ensures {u = tt}).drafted in
    let valid : AreValid site.configs after = subst (AreValid site.configs) (sym drafted.done.cells_are) (valid_done _ _ _ _ _ _ d.valid drafted.done.processed) in
    let inside = c.entries_write_inside.ensures.put_gets in
    let found = finds site c.args.channel after c.groups_over_records.ensures c.names_and_configs.ensures.same valid c.requires.channel in
    let e = seen_as c.in-Ok.drafted.0 _ 0 d.history c.enter.new.history d.log c.enter.new.log (Ok c.in-Ok-enter.first) _ recs _ after c.footprint_of-looked.ensures c.as_slice-cells.ensures.value (c.in-Ok-enter.ensures {u = tt}).entered in record {
      stands = put_stands inside base _ _ d.history d.log d.stands d.legal d.valid _ _ _ recs (found_in after recs) _ c.in-Ok.drafted.0 _ drafted found 0 c.enter.new.history c.enter.new.log _ e;
      legal = put_legal inside base _ _ d.history d.log d.stands d.legal d.valid _ _ _ recs (found_in after recs) _ c.in-Ok.drafted.0 _ drafted found 0 c.enter.new.history c.enter.new.log _ e;
      valid = valid;
      ported = ported g.P.Port.port d.terms.site.configs d.cells.ports.items d.ported c.draft_shown.new.self.ports.items (stay_driven _ _ c.in-Ok.drafted.0.drove c.in-Ok.drafted.0.writes drafted.done.driven);
      keeps = entered_kept site _ c.in-Ok.drafted.0 d.subs c.enter.new.subs (c.in-Ok-enter.ensures {u = tt}).posts d.log c.enter.new.log (ap (λ (b : Base). b.site) d.stands.base_is) d.keeps recs (found_in after recs)
          (c.as_slice-cells.ensures.value ∙ drafted.done.cells_are ∙ ap (λ (l : List RecState). written l c.in-Ok.drafted.0.writes) d.stands.cells_are) e.marked;
    }

pub restore-requires : goal.restore-requires
restore-requires g c =
    let drafted = (c.in-Ok.ensures {u = tt}).drafted in
    within_now _ _ c.args.self.now.cells.states.items _ c.draft_shown.new.self.states.items _ _ _ _ _ drafted.done

pub invariant_of-self-in-Err : goal.invariant_of-self-in-Err
invariant_of-self-in-Err g c =
    let d = c.args.self.now in
    let site = d.terms.site in
    let base = base_of d.terms in
    let after = c.draft_shown.new.self.states.items in
    let recs = footprint_of site c.args.channel in
    let drafted = (c.in-Ok.ensures {u = tt}).drafted in
    let valid : AreValid site.configs after = subst (AreValid site.configs) (sym drafted.done.cells_are) (valid_done _ _ _ _ _ _ d.valid drafted.done.processed) in
    let inside = c.entries_write_inside.ensures.put_gets in
    let found = finds site c.args.channel after c.groups_over_records.ensures c.names_and_configs.ensures.same valid c.requires.channel in
    let e = seen_as c.in-Ok.drafted.0 _ 0 d.history c.enter.new.history d.log c.enter.new.log (Err c.in-Err.answer) _ recs _ after c.footprint_of-looked.ensures c.as_slice-cells.ensures.value (c.in-Err.ensures {u = tt}).entered in record {
      stands = refused_stands inside base _ _ d.history d.log d.stands d.legal d.valid _ _ _ recs (found_in after recs) _ c.in-Ok.drafted.0 _ drafted found c.restore.new.self.states.items c.restore.ensures.states c.enter.new.history c.enter.new.log 0 c.in-Err.answer e;
      legal = refused_legal inside base _ _ d.history d.log d.stands d.legal d.valid _ _ _ recs (found_in after recs) _ c.in-Ok.drafted.0 _ drafted found c.enter.new.history c.enter.new.log 0 c.in-Err.answer e;
      valid = back_valid inside base _ _ d.history d.log d.stands d.legal d.valid _ _ _ recs (found_in after recs) _ c.in-Ok.drafted.0 _ drafted found c.restore.new.self.states.items c.restore.ensures.states;
      ported = ported g.P.Port.port d.terms.site.configs d.cells.ports.items d.ported c.restore.new.self.ports.items
          (ap ports_there (ap (map (option_map g.P.Port.port)) c.restore.ensures.ports) ∙ stay_driven _ _ c.in-Ok.drafted.0.drove c.in-Ok.drafted.0.writes drafted.done.driven);
      keeps = refused_kept c.marks_keep.ensures d.subs c.enter.new.subs (c.in-Err.ensures {u = tt}).same c.in-Ok.drafted.0 recs (found_in after recs) d.terms.limit 0 d.history c.enter.new.history d.log c.enter.new.log d.keeps c.in-Err.answer e;
    }

pub returns-in-Ok-enter-clause-put : goal.returns-in-Ok-enter-clause-put
returns-in-Ok-enter-clause-put g c =
    let d = c.args.self.now in
    let site = d.terms.site in
    let base = base_of d.terms in
    let after = c.draft_shown.new.self.states.items in
    let recs = footprint_of site c.args.channel in
    let answered = c.in-Ok.ensures {u = tt} in
    let drafted = answered.drafted in
    let valid : AreValid site.configs after = subst (AreValid site.configs) (sym drafted.done.cells_are) (valid_done _ _ _ _ _ _ d.valid drafted.done.processed) in
    let inside = c.entries_write_inside.ensures.put_gets in
    let found = finds site c.args.channel after c.groups_over_records.ensures c.names_and_configs.ensures.same valid c.requires.channel in
    let long : length site.opening ≡ length after = opening_cells d.log d.stands ∙ sym (valid_count _ _ d.valid) ∙ valid_count _ _ valid in
    let e = seen_as c.in-Ok.drafted.0 _ 0 d.history c.enter.new.history d.log c.enter.new.log (Ok c.in-Ok-enter.first) _ recs _ after c.footprint_of-looked.ensures c.as_slice-cells.ensures.value (c.in-Ok-enter.ensures {u = tt}).entered in record {
      found = found_in after recs;
      added = draft_put inside base _ _ d.history d.log d.stands d.legal d.valid _ _ _ recs (found_in after recs) _ c.in-Ok.drafted.0 _ drafted found 0 c.enter.new.history c.enter.new.log (Ok c.in-Ok-enter.first) e;
      count_is = refl;
      value_is = answered.shown ∙ sym (shows_at_once c.looks_show_states.ensures site c.args.channel (Some true) after (found_in after recs) (whole_wanted site c.args.channel) long found);
      fits = answered.fits;
    }

pub returns-in-Err-clause-put : goal.returns-in-Err-clause-put
returns-in-Err-clause-put g c =
    let d = c.args.self.now in
    let site = d.terms.site in
    let base = base_of d.terms in
    let after = c.draft_shown.new.self.states.items in
    let recs = footprint_of site c.args.channel in
    let drafted = (c.in-Ok.ensures {u = tt}).drafted in
    let valid : AreValid site.configs after = subst (AreValid site.configs) (sym drafted.done.cells_are) (valid_done _ _ _ _ _ _ d.valid drafted.done.processed) in
    let inside = c.entries_write_inside.ensures.put_gets in
    let found = finds site c.args.channel after c.groups_over_records.ensures c.names_and_configs.ensures.same valid c.requires.channel in
    let e = seen_as c.in-Ok.drafted.0 _ 0 d.history c.enter.new.history d.log c.enter.new.log (Err c.in-Err.answer) _ recs _ after c.footprint_of-looked.ensures c.as_slice-cells.ensures.value (c.in-Err.ensures {u = tt}).entered in
    subst (λ (p : Ports). IsPutGotNow site c.args.channel c.args.moment c.args.actions.items d.log c.enter.new.log (map (option_map g.P.Port.port) d.cells.ports.items) p (Err c.in-Err.answer)) (sym (ap (map (option_map g.P.Port.port)) c.restore.ensures.ports))
    (ends_at_once site c.args.channel c.args.moment c.args.actions.items d.log c.enter.new.log _ _ (found_in after recs) c.in-Err.answer
    (draft_put inside base _ _ d.history d.log d.stands d.legal d.valid _ _ _ recs (found_in after recs) _ c.in-Ok.drafted.0 _ drafted found 0 c.enter.new.history c.enter.new.log (Err c.in-Err.answer) e))
