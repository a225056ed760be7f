use Rattle.std.proofs.Common.{◌≡◌, ◌∙◌, ◌<◌, ℕ, [], length, refl, sym, ap, subst}
use Rattle.std.specs.List.{AllByRecursion}
use Rattle.std.specs.List.Sorted.{IsStrictlyIncreasing}
use Rattle.desk_api.specs.Puts.{footprint_by, footprint_with}
use Rattle.desk_api.proofs.Holding.{looks_at_none}
use Rattle.desk_api.proofs.Strict.{put_gets_rise}
use Rattle.desk_core.proofs.Doing.{stay_driven}
use Rattle.desk_core.proofs.Listing.{valid_count}
use Rattle.desk_core.proofs.Ported.{as_many_ports, ported}
use Rattle.desk_core.specs.Ports.{ports_there, ports_wanted}
use Rattle.desk_shared.specs.Hands.{states_of}
use Rattle.desk_shared.specs.Records.{seat_of}
use Rattle.desk_shared.proofs.Ahead.{calls_ahead, site_ahead, told_ahead, visits_ahead}
use Rattle.desk_shared.proofs.Behind.{stands_on}
use Rattle.desk_shared.proofs.Entered.{drafted, entry_calls, none_entered}
use Rattle.desk_shared.proofs.Footprints.{footprint_within}
use Rattle.desk_shared.proofs.Handed.{as_taken, left_alone}
use Rattle.desk_shared.proofs.Listed.{written_count}
use Rattle.desk_shared.proofs.Returned.{hand_again, ports_and_states, states_again, valid_with}
use Rattle.desk_shared.proofs.Watched.{same_exchange, site_there}
use Rattle.desk_shared.proofs.putting.put_entry.Goals as goal

pub visit_these-requires-clause-inside : goal.visit_these-requires-clause-inside
visit_these-requires-clause-inside g c =
    let s = c.args.site.now in
    let st = c.requires.stands in
    let recs_are : c.as_slice-recs.result.now ≡ footprint_with s c.args.actions.items [] = c.as_slice-recs.ensures.value ∙ c.in-Ok.ensures ∙ ap (footprint_by c.args.site.now) c.as_slice.ensures.value ∙ sym (looks_at_none c.args.site.now c.args.actions.items) in
    subst (AllByRecursion (λ (rec : ℕ). rec < c.args.hall.now.count)) (sym recs_are)
    (subst (λ (n : ℕ). AllByRecursion (λ (rec : ℕ). rec < n) (footprint_with s c.args.actions.items [])) (sym (st.furnished.count_is ∙ c.names_and_configs.ensures.same))
    (footprint_within c.args.site.now c.args.actions.items [] c.groups_over_records.ensures c.requires.within tt))

pub exchange-requires-clause-rises : goal.exchange-requires-clause-rises
exchange-requires-clause-rises g c =
    let s = c.args.site.now in
    let recs_are : c.as_slice-recs.result.now ≡ footprint_with s c.args.actions.items [] = c.as_slice-recs.ensures.value ∙ c.in-Ok.ensures ∙ ap (footprint_by c.args.site.now) c.as_slice.ensures.value ∙ sym (looks_at_none c.args.site.now c.args.actions.items) in
    subst IsStrictlyIncreasing (sym recs_are) (put_gets_rise s c.args.actions.items [])

pub exchange-requires-clause-states : goal.exchange-requires-clause-states
exchange-requires-clause-states g c =
    let s = c.args.site.now in
    let st = c.requires.stands in
    let recs_are : c.as_slice-recs.result.now ≡ footprint_with s c.args.actions.items [] = c.as_slice-recs.ensures.value ∙ c.in-Ok.ensures ∙ ap (footprint_by c.args.site.now) c.as_slice.ensures.value ∙ sym (looks_at_none c.args.site.now c.args.actions.items) in
    subst (AllByRecursion (λ (rec : ℕ). rec < length c.args.cells.now.states.items)) (sym recs_are)
    (subst (λ (n : ℕ). AllByRecursion (λ (rec : ℕ). rec < n) (footprint_with s c.args.actions.items [])) (valid_count s.configs s.opening c.opening_is_valid.ensures ∙ ap length (sym st.furnished.states_are))
    (footprint_within c.args.site.now c.args.actions.items [] c.groups_over_records.ensures c.requires.within tt))

pub exchange-requires-clause-ports : goal.exchange-requires-clause-ports
exchange-requires-clause-ports g c =
    let s = c.args.site.now in
    let st = c.requires.stands in
    ports_and_states s c.args.cells.now.ports.items c.args.cells.now.states.items c.opening_is_valid.ensures st.furnished.states_are st.furnished.ports_are

pub draft-requires-clause-valid : goal.draft-requires-clause-valid
draft-requires-clause-valid g c =
    let s = c.args.site.now in
    let st = c.requires.stands in
    let v = c.in-Ok-visit_these.visit in
    let made = c.in-Ok-visit_these.ensures {u = tt} in
    let recs = c.as_slice-recs.result.now in
    valid_with c.args.pass.seat.me.0 v.seat.me.0 recs (states_of v.cells.items) (states_of c.exchange.new.hand.items) c.exchange.new.cells.states.items s made.visits st.site_is c.opening_is_valid.ensures
    (same_exchange recs recs (states_of v.cells.items) (states_of c.exchange.new.hand.items) c.args.cells.now.states.items s.opening c.exchange.new.cells.states.items refl st.furnished.states_are c.exchange.ensures.exchanged)

pub exchange-requires-in_default-draft-clause-states :
    goal.exchange-requires-in_default-draft-clause-states
exchange-requires-in_default-draft-clause-states g c =
    let s = c.args.site.now in
    let st = c.requires.stands in
    let recs = c.as_slice-recs.result.now in
    let recs_are : recs ≡ footprint_with s c.args.actions.items [] = c.as_slice-recs.ensures.value ∙ c.in-Ok.ensures ∙ ap (footprint_by c.args.site.now) c.as_slice.ensures.value ∙ sym (looks_at_none c.args.site.now c.args.actions.items) in
    let v = c.in-Ok-visit_these.visit in
    let made = c.in-Ok-visit_these.ensures {u = tt} in
    let d = c.draft.new.self in
    let e = c.exchange.new.cells in
    let many : length s.configs ≡ length s.opening = valid_count s.configs s.opening c.opening_is_valid.ensures in
    let x = same_exchange recs recs (states_of v.cells.items) (states_of c.exchange.new.hand.items) c.args.cells.now.states.items s.opening e.states.items refl st.furnished.states_are c.exchange.ensures.exchanged in
    let broken = c.in_default-draft.ensures.broken in
    let same = c.in_default-draft.ensures.states in
    let stay : ports_there d.ports.items ≡ ports_wanted s.configs = ported _ s.configs e.ports.items (c.exchange.ensures.ports ∙ st.furnished.ports_are) d.ports.items (stay_driven _ _ broken.drives broken.writes broken.driven) in
    let long : length d.states.items ≡ length s.opening = ap length same ∙ x.long in
    subst (AllByRecursion (λ (rec : ℕ). rec < length d.states.items)) (sym recs_are)
    (subst (λ (n : ℕ). AllByRecursion (λ (rec : ℕ). rec < n) (footprint_with s c.args.actions.items [])) (many ∙ sym long)
    (footprint_within c.args.site.now c.args.actions.items [] c.groups_over_records.ensures c.requires.within tt))

pub exchange-requires-in_default-draft-clause-ports :
    goal.exchange-requires-in_default-draft-clause-ports
exchange-requires-in_default-draft-clause-ports g c =
    let s = c.args.site.now in
    let st = c.requires.stands in
    let recs = c.as_slice-recs.result.now in
    let recs_are : recs ≡ footprint_with s c.args.actions.items [] = c.as_slice-recs.ensures.value ∙ c.in-Ok.ensures ∙ ap (footprint_by c.args.site.now) c.as_slice.ensures.value ∙ sym (looks_at_none c.args.site.now c.args.actions.items) in
    let v = c.in-Ok-visit_these.visit in
    let made = c.in-Ok-visit_these.ensures {u = tt} in
    let d = c.draft.new.self in
    let e = c.exchange.new.cells in
    let many : length s.configs ≡ length s.opening = valid_count s.configs s.opening c.opening_is_valid.ensures in
    let x = same_exchange recs recs (states_of v.cells.items) (states_of c.exchange.new.hand.items) c.args.cells.now.states.items s.opening e.states.items refl st.furnished.states_are c.exchange.ensures.exchanged in
    let broken = c.in_default-draft.ensures.broken in
    let same = c.in_default-draft.ensures.states in
    let stay : ports_there d.ports.items ≡ ports_wanted s.configs = ported _ s.configs e.ports.items (c.exchange.ensures.ports ∙ st.furnished.ports_are) d.ports.items (stay_driven _ _ broken.drives broken.writes broken.driven) in
    let long : length d.states.items ≡ length s.opening = ap length same ∙ x.long in
    as_many_ports s.configs d.ports.items stay ∙ many ∙ sym long

pub leave-requires-clause-taken : goal.leave-requires-clause-taken
leave-requires-clause-taken g c =
    let s = c.args.site.now in
    let st = c.requires.stands in
    let recs = c.as_slice-recs.result.now in
    let recs_are : recs ≡ footprint_with s c.args.actions.items [] = c.as_slice-recs.ensures.value ∙ c.in-Ok.ensures ∙ ap (footprint_by c.args.site.now) c.as_slice.ensures.value ∙ sym (looks_at_none c.args.site.now c.args.actions.items) in
    let v = c.in-Ok-visit_these.visit in
    let made = c.in-Ok-visit_these.ensures {u = tt} in
    let d = c.draft.new.self in
    let e = c.exchange.new.cells in
    let many : length s.configs ≡ length s.opening = valid_count s.configs s.opening c.opening_is_valid.ensures in
    let x = same_exchange recs recs (states_of v.cells.items) (states_of c.exchange.new.hand.items) c.args.cells.now.states.items s.opening e.states.items refl st.furnished.states_are c.exchange.ensures.exchanged in
    let broken = c.in_default-draft.ensures.broken in
    let same = c.in_default-draft.ensures.states in
    let stay : ports_there d.ports.items ≡ ports_wanted s.configs = ported _ s.configs e.ports.items (c.exchange.ensures.ports ∙ st.furnished.ports_are) d.ports.items (stay_driven _ _ broken.drives broken.writes broken.driven) in
    let long : length d.states.items ≡ length s.opening = ap length same ∙ x.long in
    let y = same_exchange recs recs (states_of c.exchange.new.hand.items) (states_of c.exchange-in_default-draft.new.hand.items) d.states.items e.states.items c.exchange-in_default-draft.new.cells.states.items refl same c.exchange-in_default-draft.ensures.exchanged in
    as_taken v.seat.me.0 c.exchange-in_default-draft.new.hand.items (states_of v.cells.items) made.visits.values
    (hand_again recs (states_of v.cells.items) (states_of c.exchange.new.hand.items) (states_of c.exchange-in_default-draft.new.hand.items) s.opening e.states.items c.exchange-in_default-draft.new.cells.states.items x y)

pub returns-in_default-draft-clause-stands : goal.returns-in_default-draft-clause-stands
returns-in_default-draft-clause-stands g c =
    let s = c.args.site.now in
    let st = c.requires.stands in
    let recs = c.as_slice-recs.result.now in
    let recs_are : recs ≡ footprint_with s c.args.actions.items [] = c.as_slice-recs.ensures.value ∙ c.in-Ok.ensures ∙ ap (footprint_by c.args.site.now) c.as_slice.ensures.value ∙ sym (looks_at_none c.args.site.now c.args.actions.items) in
    let v = c.in-Ok-visit_these.visit in
    let made = c.in-Ok-visit_these.ensures {u = tt} in
    let d = c.draft.new.self in
    let e = c.exchange.new.cells in
    let many : length s.configs ≡ length s.opening = valid_count s.configs s.opening c.opening_is_valid.ensures in
    let x = same_exchange recs recs (states_of v.cells.items) (states_of c.exchange.new.hand.items) c.args.cells.now.states.items s.opening e.states.items refl st.furnished.states_are c.exchange.ensures.exchanged in
    let broken = c.in_default-draft.ensures.broken in
    let same = c.in_default-draft.ensures.states in
    let stay : ports_there d.ports.items ≡ ports_wanted s.configs = ported _ s.configs e.ports.items (c.exchange.ensures.ports ∙ st.furnished.ports_are) d.ports.items (stay_driven _ _ broken.drives broken.writes broken.driven) in
    let long : length d.states.items ≡ length s.opening = ap length same ∙ x.long in
    let y = same_exchange recs recs (states_of c.exchange.new.hand.items) (states_of c.exchange-in_default-draft.new.hand.items) d.states.items e.states.items c.exchange-in_default-draft.new.cells.states.items refl same c.exchange-in_default-draft.ensures.exchanged in
    let w = c.leave.result.seat.me.0 in
    let left = left_alone c.args.pass.seat.me.0 v.seat.me.0 w _ _ made.visits c.leave.ensures.same in
    let call = none_entered s c.args.moment c.args.actions.items [] [] c.args.done (seat_of c.args.pass.seat.me.0) (seat_of w) st.legal left in
    stands_on _ _ s _ _ _ _ _ _ c.args.pass.seat.me.0 w st
    (states_again recs (states_of v.cells.items) (states_of c.exchange.new.hand.items) (states_of c.exchange-in_default-draft.new.hand.items) s.opening e.states.items c.exchange-in_default-draft.new.cells.states.items x y ∙ sym st.furnished.states_are)
    (c.exchange-in_default-draft.ensures.ports ∙ stay ∙ sym st.furnished.ports_are) (c.leave.ensures.own ∙ made.own) _ call

pub enter-requires-clause-ahead : goal.enter-requires-clause-ahead
enter-requires-clause-ahead g c =
    let s = c.args.site.now in
    let st = c.requires.stands in
    let recs = c.as_slice-recs.result.now in
    let recs_are : recs ≡ footprint_with s c.args.actions.items [] = c.as_slice-recs.ensures.value ∙ c.in-Ok.ensures ∙ ap (footprint_by c.args.site.now) c.as_slice.ensures.value ∙ sym (looks_at_none c.args.site.now c.args.actions.items) in
    let v = c.in-Ok-visit_these.visit in
    let made = c.in-Ok-visit_these.ensures {u = tt} in
    let d = c.draft.new.self in
    let e = c.exchange.new.cells in
    let many : length s.configs ≡ length s.opening = valid_count s.configs s.opening c.opening_is_valid.ensures in
    let x = same_exchange recs recs (states_of v.cells.items) (states_of c.exchange.new.hand.items) c.args.cells.now.states.items s.opening e.states.items refl st.furnished.states_are c.exchange.ensures.exchanged in
    let entry = c.in-Ok-draft.entry in
    let done = c.in-Ok-draft.ensures.drafted in
    let stay : ports_there d.ports.items ≡ ports_wanted s.configs = ported _ s.configs e.ports.items (c.exchange.ensures.ports ∙ st.furnished.ports_are) d.ports.items (stay_driven _ _ entry.drove entry.writes done.done.driven) in
    let long : length d.states.items ≡ length s.opening = ap length done.done.cells_are ∙ written_count e.states.items entry.writes ∙ x.long in
    let valid = valid_with c.args.pass.seat.me.0 v.seat.me.0 recs (states_of v.cells.items) (states_of c.exchange.new.hand.items) e.states.items s made.visits st.site_is c.opening_is_valid.ensures x in
    record {
      taken = states_of v.cells.items;
      visits = visits_ahead c.args.pass.seat.me.0 v.seat.me.0 recs (states_of v.cells.items) made.visits;
      drafted = λ w hub b.
          drafted c.entries_write_inside.ensures.put_gets s c.groups_over_records.ensures w hub recs (states_of v.cells.items) (states_of c.exchange.new.hand.items) e.states.items d.states.items b.has
          (site_there v.seat.me.0 w w hub recs (states_of v.cells.items) b s (site_ahead c.args.pass.seat.me.0 v.seat.me.0 recs (states_of v.cells.items) made.visits s st.site_is)) x valid c.opening_is_valid.ensures many _ _
          c.args.actions.items [] c.args.moment entry d.before.items done recs_are c.requires.within tt;
    }

pub enter-requires-clause-ports : goal.enter-requires-clause-ports
enter-requires-clause-ports g c =
    let s = c.args.site.now in
    let st = c.requires.stands in
    let recs = c.as_slice-recs.result.now in
    let recs_are : recs ≡ footprint_with s c.args.actions.items [] = c.as_slice-recs.ensures.value ∙ c.in-Ok.ensures ∙ ap (footprint_by c.args.site.now) c.as_slice.ensures.value ∙ sym (looks_at_none c.args.site.now c.args.actions.items) in
    let v = c.in-Ok-visit_these.visit in
    let made = c.in-Ok-visit_these.ensures {u = tt} in
    let d = c.draft.new.self in
    let e = c.exchange.new.cells in
    let many : length s.configs ≡ length s.opening = valid_count s.configs s.opening c.opening_is_valid.ensures in
    let x = same_exchange recs recs (states_of v.cells.items) (states_of c.exchange.new.hand.items) c.args.cells.now.states.items s.opening e.states.items refl st.furnished.states_are c.exchange.ensures.exchanged in
    let entry = c.in-Ok-draft.entry in
    let done = c.in-Ok-draft.ensures.drafted in
    let stay : ports_there d.ports.items ≡ ports_wanted s.configs = ported _ s.configs e.ports.items (c.exchange.ensures.ports ∙ st.furnished.ports_are) d.ports.items (stay_driven _ _ entry.drove entry.writes done.done.driven) in
    let long : length d.states.items ≡ length s.opening = ap length done.done.cells_are ∙ written_count e.states.items entry.writes ∙ x.long in
    as_many_ports s.configs d.ports.items stay ∙ many ∙ sym long

pub returns-clause-stands : goal.returns-clause-stands
returns-clause-stands g c =
    let s = c.args.site.now in
    let st = c.requires.stands in
    let recs = c.as_slice-recs.result.now in
    let recs_are : recs ≡ footprint_with s c.args.actions.items [] = c.as_slice-recs.ensures.value ∙ c.in-Ok.ensures ∙ ap (footprint_by c.args.site.now) c.as_slice.ensures.value ∙ sym (looks_at_none c.args.site.now c.args.actions.items) in
    let v = c.in-Ok-visit_these.visit in
    let made = c.in-Ok-visit_these.ensures {u = tt} in
    let d = c.draft.new.self in
    let e = c.exchange.new.cells in
    let many : length s.configs ≡ length s.opening = valid_count s.configs s.opening c.opening_is_valid.ensures in
    let x = same_exchange recs recs (states_of v.cells.items) (states_of c.exchange.new.hand.items) c.args.cells.now.states.items s.opening e.states.items refl st.furnished.states_are c.exchange.ensures.exchanged in
    let entry = c.in-Ok-draft.entry in
    let done = c.in-Ok-draft.ensures.drafted in
    let stay : ports_there d.ports.items ≡ ports_wanted s.configs = ported _ s.configs e.ports.items (c.exchange.ensures.ports ∙ st.furnished.ports_are) d.ports.items (stay_driven _ _ entry.drove entry.writes done.done.driven) in
    let long : length d.states.items ≡ length s.opening = ap length done.done.cells_are ∙ written_count e.states.items entry.writes ∙ x.long in
    let t = c.enter.result.0.seat.me.0 in
    let call = calls_ahead c.args.pass.seat.me.0 v.seat.me.0 recs (states_of v.cells.items) made.visits (seat_of t) _
    (entry_calls s e.states.items d.states.items _ _ c.args.actions.items [] c.args.moment entry d.before.items done [] (seat_of v.seat.me.0) (seat_of t) c.args.done c.enter.result.1 c.enter.ensures.calls) in
    stands_on _ _ s _ _ _ _ _ _ c.args.pass.seat.me.0 t st (c.enter.ensures.states ∙ sym st.furnished.states_are) (c.enter.ensures.ports ∙ stay ∙ sym st.furnished.ports_are)
    (c.enter.ensures.own ∙ made.own) _ call

pub returns-clause-calls : goal.returns-clause-calls
returns-clause-calls g c =
    let s = c.args.site.now in
    let st = c.requires.stands in
    let recs = c.as_slice-recs.result.now in
    let recs_are : recs ≡ footprint_with s c.args.actions.items [] = c.as_slice-recs.ensures.value ∙ c.in-Ok.ensures ∙ ap (footprint_by c.args.site.now) c.as_slice.ensures.value ∙ sym (looks_at_none c.args.site.now c.args.actions.items) in
    let v = c.in-Ok-visit_these.visit in
    let made = c.in-Ok-visit_these.ensures {u = tt} in
    let d = c.draft.new.self in
    let e = c.exchange.new.cells in
    let many : length s.configs ≡ length s.opening = valid_count s.configs s.opening c.opening_is_valid.ensures in
    let x = same_exchange recs recs (states_of v.cells.items) (states_of c.exchange.new.hand.items) c.args.cells.now.states.items s.opening e.states.items refl st.furnished.states_are c.exchange.ensures.exchanged in
    let entry = c.in-Ok-draft.entry in
    let done = c.in-Ok-draft.ensures.drafted in
    let stay : ports_there d.ports.items ≡ ports_wanted s.configs = ported _ s.configs e.ports.items (c.exchange.ensures.ports ∙ st.furnished.ports_are) d.ports.items (stay_driven _ _ entry.drove entry.writes done.done.driven) in
    let long : length d.states.items ≡ length s.opening = ap length done.done.cells_are ∙ written_count e.states.items entry.writes ∙ x.long in
    let t = c.enter.result.0.seat.me.0 in
    let call = calls_ahead c.args.pass.seat.me.0 v.seat.me.0 recs (states_of v.cells.items) made.visits (seat_of t) _
    (entry_calls s e.states.items d.states.items _ _ c.args.actions.items [] c.args.moment entry d.before.items done [] (seat_of v.seat.me.0) (seat_of t) c.args.done c.enter.result.1 c.enter.ensures.calls) in
    call

pub returns-clause-ends : goal.returns-clause-ends
returns-clause-ends g c =
    told_ahead c.args.pass.seat.me.0 c.in-Ok-visit_these.visit.seat.me.0 c.as_slice-recs.result.now (states_of c.in-Ok-visit_these.visit.cells.items) (c.in-Ok-visit_these.ensures {u = tt}).visits (seat_of c.enter.result.0.seat.me.0) c.enter.result.1 c.enter.ensures.ends

pub returns-in_default-draft-clause-others : goal.returns-in_default-draft-clause-others
returns-in_default-draft-clause-others g c = c.leave.ensures.others ∙ (c.in-Ok-visit_these.ensures {u = tt}).others

pub returns-clause-others : goal.returns-clause-others
returns-clause-others g c = c.enter.ensures.others ∙ (c.in-Ok-visit_these.ensures {u = tt}).others
