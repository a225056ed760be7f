use Rattle.std.proofs.Common.{◌≡◌, ◌∙◌, ◌<◌, ℕ, List, [], ◌∷◌, Some, Ok, Err, inl, inr, length, refl, sym, ap, subst}
use Rattle.std.specs.List.{AllByRecursion}
use Rattle.std.specs.List.Sorted.{IsStrictlyIncreasing}
use Rattle.pvd_value.specs.Fits.{fits_of}
use Rattle.pvd_value.specs.View.{view}
use Rattle.rec_kinds.specs.declared.state.RecState.{RecState}
use Rattle.journal_core.specs.Legality.{AreValid}
use Rattle.hall_locks.specs.Hands.{MayLook}
use Rattle.desk_api.specs.Calls.{AreGet, Calls, now, with_mark}
use Rattle.desk_api.specs.Sites.{footprint_of}
use Rattle.desk_api.specs.Types.{type_of}
use Rattle.desk_api.specs.Views.{value_of}
use Rattle.desk_api.specs.declared.history.SiteData.{SiteData}
use Rattle.desk_api.specs.declared.mark.Mark.TheVariants.{Read}
use Rattle.desk_api.specs.declared.mark.Seat.{Seat}
use Rattle.desk_api.proofs.Strict.{gets_rise}
use Rattle.desk_core.proofs.Reading.{no_get}
use Rattle.desk_shared.specs.Hands.{states_of}
use Rattle.desk_shared.specs.Records.{Sight, records, seat_of}
use Rattle.desk_shared.proofs.Behind.{behind, ends_behind, stands_on}
use Rattle.desk_shared.proofs.Gotten.{got_at_once, may_read, read_adds, read_ends}
use Rattle.desk_shared.proofs.Handed.{as_taken, left_alone}
use Rattle.desk_shared.proofs.Listed.{as_many_there}
use Rattle.desk_shared.proofs.Returned.{has_states, has_states_still, ports_and_states, valid_with}
use Rattle.desk_shared.proofs.Watched.{all_again, hub_behind, same_exchange, site_there}
use Rattle.desk_shared.proofs.looking.get_at_once.Goals as goal

pub visit_channel-requires-clause-own : goal.visit_channel-requires-clause-own
visit_channel-requires-clause-own g c =
    c.requires.stands.own_is

pub visit_channel-requires-clause-count : goal.visit_channel-requires-clause-count
visit_channel-requires-clause-count g c =
    c.requires.stands.furnished.count_is

pub visit_channel-requires-clause-channel : goal.visit_channel-requires-clause-channel
visit_channel-requires-clause-channel g c =
    c.requires.channel

pub returns-in-Err-clause-stands : goal.returns-in-Err-clause-stands
returns-in-Err-clause-stands g c =
    let st = c.requires.stands in
    let back = (c.in-Err.ensures {u = tt}).back in
    let call = subst (λ (z : Seat). Calls (seat_of c.args.pass.seat.me.0) z (AreGet c.args.pass.seat.me.0.seen.base.site c.args.channel c.args.atomic (Err c.in-Err.no_memory))) (sym (ap (λ p. seat_of p.seat.me.0) back)) (no_get c.args.pass.seat.me.0.seen.base.site c.args.channel c.args.atomic (seat_of c.args.pass.seat.me.0) st.legal c.in-Err.no_memory) in
    stands_on _ _ _ _ _ _ _ _ _ c.args.pass.seat.me.0 c.in-Err.pass.seat.me.0 st refl refl (ap (λ p. p.seat.table_id) back) _ call

pub returns-in-Err-clause-calls : goal.returns-in-Err-clause-calls
returns-in-Err-clause-calls g c =
    let st = c.requires.stands in
    let back = (c.in-Err.ensures {u = tt}).back in
    let call = subst (λ (z : Seat). Calls (seat_of c.args.pass.seat.me.0) z (AreGet c.args.pass.seat.me.0.seen.base.site c.args.channel c.args.atomic (Err c.in-Err.no_memory))) (sym (ap (λ p. seat_of p.seat.me.0) back)) (no_get c.args.pass.seat.me.0.seen.base.site c.args.channel c.args.atomic (seat_of c.args.pass.seat.me.0) st.legal c.in-Err.no_memory) in
    call

pub footprint_of-requires : goal.footprint_of-requires
footprint_of-requires g c =
    c.requires.channel

pub footprint_of-requires-2 : goal.footprint_of-requires-2
footprint_of-requires-2 g c =
    c.requires.channel

pub exchange-requires-clause-many : goal.exchange-requires-clause-many
exchange-requires-clause-many g c =
    let v = c.in-Ok.visit in
    let made = c.in-Ok.ensures {u = tt} in
    v.many ∙ ap length (made.recs ∙ sym c.footprint_of.ensures)

pub exchange-requires-clause-rises : goal.exchange-requires-clause-rises
exchange-requires-clause-rises g c =
    subst IsStrictlyIncreasing (sym c.footprint_of.ensures) (gets_rise c.args.site.now c.args.channel)

pub exchange-requires-clause-states : goal.exchange-requires-clause-states
exchange-requires-clause-states g c =
    let s = c.args.site.now in
    let st = c.requires.stands in
    subst (AllByRecursion (λ (rec : ℕ). rec < length c.args.cells.now.states.items)) (sym c.footprint_of.ensures)
    (has_states s c.args.channel c.args.cells.now.states.items c.groups_over_records.ensures c.names_and_configs.ensures.same c.opening_is_valid.ensures st.furnished.states_are c.requires.channel)

pub exchange-requires-clause-ports : goal.exchange-requires-clause-ports
exchange-requires-clause-ports g c =
    let s = c.args.site.now in
    let st = c.requires.stands in
    ports_and_states s c.args.cells.now.ports.items c.args.cells.now.states.items c.opening_is_valid.ensures st.furnished.states_are st.furnished.ports_are

pub view-shown-requires-clause-channel : goal.view-shown-requires-clause-channel
view-shown-requires-clause-channel g c =
    c.requires.channel

pub view-shown-requires-clause-valid : goal.view-shown-requires-clause-valid
view-shown-requires-clause-valid g c =
    let s = c.args.site.now in
    let st = c.requires.stands in
    let v = c.in-Ok.visit in
    let made = c.in-Ok.ensures {u = tt} in
    let z = same_exchange c.footprint_of.result.now (footprint_of s c.args.channel) (states_of v.cells.items) (states_of c.exchange.new.hand.items) c.args.cells.now.states.items s.opening c.exchange.new.cells.states.items c.footprint_of.ensures st.furnished.states_are
    c.exchange.ensures.exchanged in
    subst (AreValid s.configs) (sym c.as_slice.ensures.value)
    (valid_with c.args.pass.seat.me.0 v.seat.me.0 (footprint_of s c.args.channel) (states_of v.cells.items) (states_of c.exchange.new.hand.items) c.exchange.new.cells.states.items s made.visits st.site_is c.opening_is_valid.ensures z)

pub exchange-requires-2-clause-many : goal.exchange-requires-2-clause-many
exchange-requires-2-clause-many g c =
    let v = c.in-Ok.visit in
    let made = c.in-Ok.ensures {u = tt} in
    c.exchange.ensures.many ∙ v.many ∙ ap length (made.recs ∙ sym c.footprint_of-2.ensures)

pub exchange-requires-2-clause-rises : goal.exchange-requires-2-clause-rises
exchange-requires-2-clause-rises g c =
    subst IsStrictlyIncreasing (sym c.footprint_of-2.ensures) (gets_rise c.args.site.now c.args.channel)

pub exchange-requires-2-clause-states : goal.exchange-requires-2-clause-states
exchange-requires-2-clause-states g c =
    let s = c.args.site.now in
    let st = c.requires.stands in
    subst (AllByRecursion (λ (rec : ℕ). rec < length c.exchange.new.cells.states.items)) (sym c.footprint_of-2.ensures)
    (has_states_still s c.args.channel c.args.cells.now.states.items c.exchange.new.cells.states.items c.groups_over_records.ensures c.names_and_configs.ensures.same c.opening_is_valid.ensures st.furnished.states_are c.exchange.ensures.exchanged.long c.requires.channel)

pub exchange-requires-2-clause-ports : goal.exchange-requires-2-clause-ports
exchange-requires-2-clause-ports g c =
    let s = c.args.site.now in
    let st = c.requires.stands in
    as_many_there c.args.cells.now.ports.items c.exchange.new.cells.ports.items c.exchange.ensures.ports
    ∙ ports_and_states s c.args.cells.now.ports.items c.args.cells.now.states.items c.opening_is_valid.ensures st.furnished.states_are st.furnished.ports_are ∙ sym c.exchange.ensures.exchanged.long

pub invariant_of-visit : goal.invariant_of-visit
invariant_of-visit g c =
    let v = c.in-Ok.visit in
    let made = c.in-Ok.ensures {u = tt} in
    record { carries = v.carries; slots = v.slots; many = c.exchange-2.ensures.many ∙ c.exchange.ensures.many ∙ v.many }

pub invariant_of-visit-in-Err-shown : goal.invariant_of-visit-in-Err-shown
invariant_of-visit-in-Err-shown g c =
    let v = c.in-Ok.visit in
    let made = c.in-Ok.ensures {u = tt} in
    record { carries = v.carries; slots = v.slots; many = c.exchange-2.ensures.many ∙ c.exchange.ensures.many ∙ v.many }

pub glance-held-requires : goal.glance-held-requires
glance-held-requires g c =
    let st = c.requires.stands in
    let v = c.in-Ok.visit in
    let made = c.in-Ok.ensures {u = tt} in
    record { own = made.own ∙ st.own_is }

pub leave-requires-clause-own : goal.leave-requires-clause-own
leave-requires-clause-own g c =
    let st = c.requires.stands in
    let v = c.in-Ok.visit in
    let made = c.in-Ok.ensures {u = tt} in
    made.own ∙ st.own_is

pub leave-requires-clause-taken : goal.leave-requires-clause-taken
leave-requires-clause-taken g c =
    let s = c.args.site.now in
    let st = c.requires.stands in
    let v = c.in-Ok.visit in
    let made = c.in-Ok.ensures {u = tt} in
    let z = same_exchange c.footprint_of.result.now (footprint_of s c.args.channel) (states_of v.cells.items) (states_of c.exchange.new.hand.items) c.args.cells.now.states.items s.opening c.exchange.new.cells.states.items c.footprint_of.ensures st.furnished.states_are
    c.exchange.ensures.exchanged in
    let again = all_again s c.args.channel (states_of v.cells.items) (states_of c.exchange.new.hand.items) c.exchange.new.cells.states.items z c.footprint_of-2.result.now (states_of c.exchange.new.hand.items) (states_of c.exchange-2.new.hand.items)
    c.exchange.new.cells.states.items c.exchange-2.new.cells.states.items c.footprint_of-2.ensures refl refl c.exchange-2.ensures.exchanged in
    as_taken v.seat.me.0 c.exchange-2.new.hand.items (states_of v.cells.items) made.visits.values again.0

pub look_read-requires-clause-own : goal.look_read-requires-clause-own
look_read-requires-clause-own g c =
    let st = c.requires.stands in
    let v = c.in-Ok.visit in
    let made = c.in-Ok.ensures {u = tt} in
    c.glance-held.ensures.own ∙ made.own ∙ st.own_is

pub look_read-requires-clause-may : goal.look_read-requires-clause-may
look_read-requires-clause-may g c =
    let s = c.args.site.now in
    let st = c.requires.stands in
    let v = c.in-Ok.visit in
    let made = c.in-Ok.ensures {u = tt} in
    let z = same_exchange c.footprint_of.result.now (footprint_of s c.args.channel) (states_of v.cells.items) (states_of c.exchange.new.hand.items) c.args.cells.now.states.items s.opening c.exchange.new.cells.states.items c.footprint_of.ensures st.furnished.states_are
    c.exchange.ensures.exchanged in
    let again = all_again s c.args.channel (states_of v.cells.items) (states_of c.exchange.new.hand.items) c.exchange.new.cells.states.items z c.footprint_of-2.result.now (states_of c.exchange.new.hand.items) (states_of c.exchange-2.new.hand.items)
    c.exchange.new.cells.states.items c.exchange-2.new.cells.states.items c.footprint_of-2.ensures refl refl c.exchange-2.ensures.exchanged in
    let h = c.glance-held.result in
    let had = c.glance-held.ensures.hub in
    let b = hub_behind c.args.pass.seat.me.0 v.seat.me.0 h.seat.me.0 had.0 (footprint_of s c.args.channel) (states_of v.cells.items) made.visits had.1 had.2 in
    let foot : h.footprint.items ≡ footprint_of s c.args.channel = c.glance-held.ensures.footprint ∙ made.recs in
    let cells : states_of h.cells.items ≡ states_of v.cells.items = ap states_of c.glance-held.ensures.cells ∙ again.0 in
    let there = site_there c.args.pass.seat.me.0 h.seat.me.0 h.seat.me.0 had.0 _ _ b s st.site_is in (
      had.0,
      ap (λ (x : Sight). x.hub) had.1,
      subst (λ (l : List ℕ). MayLook records h.seat.me.0 had.0 h.cells.items (Some (Read (now (seat_of h.seat.me.0)) c.args.channel l (states_of h.cells.items)))) (sym foot)
          (may_read h.seat.me.0 had.0 (footprint_of s c.args.channel) (states_of v.cells.items) h.cells.items c.args.channel b.has cells (inl (ap (λ (z : SiteData). footprint_of z c.args.channel) (sym there)))),
    )

pub look_read-requires-clause-mark : goal.look_read-requires-clause-mark
look_read-requires-clause-mark g c =
    refl

pub returns-in-Ok-shown-clause-stands : goal.returns-in-Ok-shown-clause-stands
returns-in-Ok-shown-clause-stands g c =
    let s = c.args.site.now in
    let st = c.requires.stands in
    let v = c.in-Ok.visit in
    let made = c.in-Ok.ensures {u = tt} in
    let z = same_exchange c.footprint_of.result.now (footprint_of s c.args.channel) (states_of v.cells.items) (states_of c.exchange.new.hand.items) c.args.cells.now.states.items s.opening c.exchange.new.cells.states.items c.footprint_of.ensures st.furnished.states_are
    c.exchange.ensures.exchanged in
    let again = all_again s c.args.channel (states_of v.cells.items) (states_of c.exchange.new.hand.items) c.exchange.new.cells.states.items z c.footprint_of-2.result.now (states_of c.exchange.new.hand.items) (states_of c.exchange-2.new.hand.items)
    c.exchange.new.cells.states.items c.exchange-2.new.cells.states.items c.footprint_of-2.ensures refl refl c.exchange-2.ensures.exchanged in
    let h = c.glance-held.result in
    let had = c.glance-held.ensures.hub in
    let b = hub_behind c.args.pass.seat.me.0 v.seat.me.0 h.seat.me.0 had.0 (footprint_of s c.args.channel) (states_of v.cells.items) made.visits had.1 had.2 in
    let foot : h.footprint.items ≡ footprint_of s c.args.channel = c.glance-held.ensures.footprint ∙ made.recs in
    let cells : states_of h.cells.items ≡ states_of v.cells.items = ap states_of c.glance-held.ensures.cells ∙ again.0 in
    let there = site_there c.args.pass.seat.me.0 h.seat.me.0 h.seat.me.0 had.0 _ _ b s st.site_is in
    let u = c.look_read.result.seat.me.0 in
    let noted = subst (λ (l : List ℕ × List RecState). seat_of u ≡ with_mark (seat_of h.seat.me.0) (λ at. Read at c.args.channel l.0 l.1)) (λ i. (foot i, cells i)) c.look_read.ensures.marked in
    let long : length s.opening ≡ length c.exchange.new.cells.states.items = sym z.long in
    let call = behind (seat_of c.args.pass.seat.me.0) (seat_of h.seat.me.0) (seat_of u) b.others (AreGet c.args.pass.seat.me.0.seen.base.site c.args.channel c.args.atomic (Ok c.in-Ok-shown.value))
    (subst (λ (k : SiteData). Calls (seat_of h.seat.me.0) (seat_of u) (AreGet k c.args.channel c.args.atomic (Ok c.in-Ok-shown.value))) (sym st.site_is) (record {
      marks = Read (now (seat_of h.seat.me.0)) c.args.channel (footprint_of s c.args.channel) (states_of v.cells.items) ∷ [];
      adds = read_adds (seat_of h.seat.me.0) (seat_of u) c.args.channel (footprint_of s c.args.channel) (states_of v.cells.items) noted b.has.legal (inl (ap (λ (k : SiteData). footprint_of k c.args.channel) (sym there))) b.has.finds;
      named = got_at_once c.looks_show_states.ensures s c.args.channel c.args.atomic c.requires.whole c.exchange.new.cells.states.items (states_of v.cells.items) long z.given c.in-Ok-shown.value
          ((c.in-Ok-shown.ensures {u = tt}).shown ∙ ap (value_of s c.args.channel) c.as_slice.ensures.value) (now (seat_of h.seat.me.0));
    })) in
    stands_on _ _ s _ _ _ _ _ _ c.args.pass.seat.me.0 c.look_read.result.seat.me.0 st (again.1 ∙ sym st.furnished.states_are) (c.exchange-2.ensures.ports ∙ c.exchange.ensures.ports) (c.look_read.ensures.own ∙ c.glance-held.ensures.own ∙ made.own) _ call

pub returns-in-Ok-shown-clause-calls : goal.returns-in-Ok-shown-clause-calls
returns-in-Ok-shown-clause-calls g c =
    let s = c.args.site.now in
    let st = c.requires.stands in
    let v = c.in-Ok.visit in
    let made = c.in-Ok.ensures {u = tt} in
    let z = same_exchange c.footprint_of.result.now (footprint_of s c.args.channel) (states_of v.cells.items) (states_of c.exchange.new.hand.items) c.args.cells.now.states.items s.opening c.exchange.new.cells.states.items c.footprint_of.ensures st.furnished.states_are
    c.exchange.ensures.exchanged in
    let again = all_again s c.args.channel (states_of v.cells.items) (states_of c.exchange.new.hand.items) c.exchange.new.cells.states.items z c.footprint_of-2.result.now (states_of c.exchange.new.hand.items) (states_of c.exchange-2.new.hand.items)
    c.exchange.new.cells.states.items c.exchange-2.new.cells.states.items c.footprint_of-2.ensures refl refl c.exchange-2.ensures.exchanged in
    let h = c.glance-held.result in
    let had = c.glance-held.ensures.hub in
    let b = hub_behind c.args.pass.seat.me.0 v.seat.me.0 h.seat.me.0 had.0 (footprint_of s c.args.channel) (states_of v.cells.items) made.visits had.1 had.2 in
    let foot : h.footprint.items ≡ footprint_of s c.args.channel = c.glance-held.ensures.footprint ∙ made.recs in
    let cells : states_of h.cells.items ≡ states_of v.cells.items = ap states_of c.glance-held.ensures.cells ∙ again.0 in
    let there = site_there c.args.pass.seat.me.0 h.seat.me.0 h.seat.me.0 had.0 _ _ b s st.site_is in
    let u = c.look_read.result.seat.me.0 in
    let noted = subst (λ (l : List ℕ × List RecState). seat_of u ≡ with_mark (seat_of h.seat.me.0) (λ at. Read at c.args.channel l.0 l.1)) (λ i. (foot i, cells i)) c.look_read.ensures.marked in
    let long : length s.opening ≡ length c.exchange.new.cells.states.items = sym z.long in
    let call = behind (seat_of c.args.pass.seat.me.0) (seat_of h.seat.me.0) (seat_of u) b.others (AreGet c.args.pass.seat.me.0.seen.base.site c.args.channel c.args.atomic (Ok c.in-Ok-shown.value))
    (subst (λ (k : SiteData). Calls (seat_of h.seat.me.0) (seat_of u) (AreGet k c.args.channel c.args.atomic (Ok c.in-Ok-shown.value))) (sym st.site_is) (record {
      marks = Read (now (seat_of h.seat.me.0)) c.args.channel (footprint_of s c.args.channel) (states_of v.cells.items) ∷ [];
      adds = read_adds (seat_of h.seat.me.0) (seat_of u) c.args.channel (footprint_of s c.args.channel) (states_of v.cells.items) noted b.has.legal (inl (ap (λ (k : SiteData). footprint_of k c.args.channel) (sym there))) b.has.finds;
      named = got_at_once c.looks_show_states.ensures s c.args.channel c.args.atomic c.requires.whole c.exchange.new.cells.states.items (states_of v.cells.items) long z.given c.in-Ok-shown.value
          ((c.in-Ok-shown.ensures {u = tt}).shown ∙ ap (value_of s c.args.channel) c.as_slice.ensures.value) (now (seat_of h.seat.me.0));
    })) in
    call

pub returns-in-Ok-shown-clause-ends : goal.returns-in-Ok-shown-clause-ends
returns-in-Ok-shown-clause-ends g c =
    let s = c.args.site.now in
    let st = c.requires.stands in
    let v = c.in-Ok.visit in
    let made = c.in-Ok.ensures {u = tt} in
    let z = same_exchange c.footprint_of.result.now (footprint_of s c.args.channel) (states_of v.cells.items) (states_of c.exchange.new.hand.items) c.args.cells.now.states.items s.opening c.exchange.new.cells.states.items c.footprint_of.ensures st.furnished.states_are
    c.exchange.ensures.exchanged in
    let again = all_again s c.args.channel (states_of v.cells.items) (states_of c.exchange.new.hand.items) c.exchange.new.cells.states.items z c.footprint_of-2.result.now (states_of c.exchange.new.hand.items) (states_of c.exchange-2.new.hand.items)
    c.exchange.new.cells.states.items c.exchange-2.new.cells.states.items c.footprint_of-2.ensures refl refl c.exchange-2.ensures.exchanged in
    let h = c.glance-held.result in
    let had = c.glance-held.ensures.hub in
    let b = hub_behind c.args.pass.seat.me.0 v.seat.me.0 h.seat.me.0 had.0 (footprint_of s c.args.channel) (states_of v.cells.items) made.visits had.1 had.2 in
    let foot : h.footprint.items ≡ footprint_of s c.args.channel = c.glance-held.ensures.footprint ∙ made.recs in
    let cells : states_of h.cells.items ≡ states_of v.cells.items = ap states_of c.glance-held.ensures.cells ∙ again.0 in
    let there = site_there c.args.pass.seat.me.0 h.seat.me.0 h.seat.me.0 had.0 _ _ b s st.site_is in
    let u = c.look_read.result.seat.me.0 in
    let noted = subst (λ (l : List ℕ × List RecState). seat_of u ≡ with_mark (seat_of h.seat.me.0) (λ at. Read at c.args.channel l.0 l.1)) (λ i. (foot i, cells i)) c.look_read.ensures.marked in
    ends_behind (seat_of c.args.pass.seat.me.0) (seat_of h.seat.me.0) (seat_of u) b.others (inr (read_ends (seat_of h.seat.me.0) (seat_of u) c.args.channel (footprint_of s c.args.channel) (states_of v.cells.items) noted))

pub returns-in-Err-shown-clause-stands : goal.returns-in-Err-shown-clause-stands
returns-in-Err-shown-clause-stands g c =
    let s = c.args.site.now in
    let st = c.requires.stands in
    let v = c.in-Ok.visit in
    let made = c.in-Ok.ensures {u = tt} in
    let z = same_exchange c.footprint_of.result.now (footprint_of s c.args.channel) (states_of v.cells.items) (states_of c.exchange.new.hand.items) c.args.cells.now.states.items s.opening c.exchange.new.cells.states.items c.footprint_of.ensures st.furnished.states_are
    c.exchange.ensures.exchanged in
    let again = all_again s c.args.channel (states_of v.cells.items) (states_of c.exchange.new.hand.items) c.exchange.new.cells.states.items z c.footprint_of-2.result.now (states_of c.exchange.new.hand.items) (states_of c.exchange-2.new.hand.items)
    c.exchange.new.cells.states.items c.exchange-2.new.cells.states.items c.footprint_of-2.ensures refl refl c.exchange-2.ensures.exchanged in
    let left = left_alone c.args.pass.seat.me.0 v.seat.me.0 c.leave.result.seat.me.0 _ _ made.visits c.leave.ensures.same in
    let call = subst (λ (z : Seat). Calls (seat_of c.args.pass.seat.me.0) z (AreGet c.args.pass.seat.me.0.seen.base.site c.args.channel c.args.atomic (Err c.in-Err-shown.no_memory))) (sym left) (no_get c.args.pass.seat.me.0.seen.base.site c.args.channel c.args.atomic (seat_of c.args.pass.seat.me.0) st.legal c.in-Err-shown.no_memory) in
    stands_on _ _ s _ _ _ _ _ _ c.args.pass.seat.me.0 c.leave.result.seat.me.0 st (again.1 ∙ sym st.furnished.states_are) (c.exchange-2.ensures.ports ∙ c.exchange.ensures.ports) (c.leave.ensures.own ∙ made.own) _ call

pub returns-in-Err-shown-clause-calls : goal.returns-in-Err-shown-clause-calls
returns-in-Err-shown-clause-calls g c =
    let s = c.args.site.now in
    let st = c.requires.stands in
    let v = c.in-Ok.visit in
    let made = c.in-Ok.ensures {u = tt} in
    let z = same_exchange c.footprint_of.result.now (footprint_of s c.args.channel) (states_of v.cells.items) (states_of c.exchange.new.hand.items) c.args.cells.now.states.items s.opening c.exchange.new.cells.states.items c.footprint_of.ensures st.furnished.states_are
    c.exchange.ensures.exchanged in
    let again = all_again s c.args.channel (states_of v.cells.items) (states_of c.exchange.new.hand.items) c.exchange.new.cells.states.items z c.footprint_of-2.result.now (states_of c.exchange.new.hand.items) (states_of c.exchange-2.new.hand.items)
    c.exchange.new.cells.states.items c.exchange-2.new.cells.states.items c.footprint_of-2.ensures refl refl c.exchange-2.ensures.exchanged in
    let left = left_alone c.args.pass.seat.me.0 v.seat.me.0 c.leave.result.seat.me.0 _ _ made.visits c.leave.ensures.same in
    let call = subst (λ (z : Seat). Calls (seat_of c.args.pass.seat.me.0) z (AreGet c.args.pass.seat.me.0.seen.base.site c.args.channel c.args.atomic (Err c.in-Err-shown.no_memory))) (sym left) (no_get c.args.pass.seat.me.0.seen.base.site c.args.channel c.args.atomic (seat_of c.args.pass.seat.me.0) st.legal c.in-Err-shown.no_memory) in
    call

pub returns-in-Ok-shown-clause-fits : goal.returns-in-Ok-shown-clause-fits
returns-in-Ok-shown-clause-fits g c =
    ap (λ (k : SiteData). fits_of 16 (view c.in-Ok-shown.value) (type_of k c.args.channel)) c.requires.stands.site_is ∙ (c.in-Ok-shown.ensures {u = tt}).fits

pub returns-in-Err-clause-others : goal.returns-in-Err-clause-others
returns-in-Err-clause-others g c = ap (λ p. p.seat.me.0.others) (c.in-Err.ensures {u = tt}).back

pub returns-in-Ok-shown-clause-others : goal.returns-in-Ok-shown-clause-others
returns-in-Ok-shown-clause-others g c = c.look_read.ensures.others ∙ c.glance-held.ensures.others ∙ (c.in-Ok.ensures {u = tt}).others

pub returns-in-Err-shown-clause-others : goal.returns-in-Err-shown-clause-others
returns-in-Err-shown-clause-others g c = c.leave.ensures.others ∙ (c.in-Ok.ensures {u = tt}).others
