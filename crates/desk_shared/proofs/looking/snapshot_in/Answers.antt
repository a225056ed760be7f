use Rattle.std.proofs.Common.{◌≡◌, ◌∙◌, ◌<◌, ℕ, List, Some, Ok, Err, Global, inl, inr, length, refl, sym, ap, subst}
use Rattle.std.specs.List.{AllByRecursion}
use Rattle.std.specs.List.Sorted.{IsStrictlyIncreasing}
use Rattle.rec_kinds.specs.declared.state.RecState.{RecState}
use Rattle.hall_locks.specs.Hands.{MayLook}
use Rattle.desk_api.specs.Calls.{AreSnapshot, Calls, now, rows_shown, with_mark}
use Rattle.desk_api.specs.Sites.{footprint_of}
use Rattle.desk_api.specs.declared.history.SiteData.{SiteData}
use Rattle.desk_api.specs.declared.mark.Mark.TheVariants.{Read}
use Rattle.desk_api.specs.declared.mark.Seat.{Seat}
use Rattle.desk_core.proofs.Listing.{valid_count}
use Rattle.desk_core.proofs.Reading.{no_snapshot}
use Rattle.desk_shared.specs.Hands.{states_of}
use Rattle.desk_shared.specs.Records.{Sight, records, seat_of}
use Rattle.desk_shared.proofs.Behind.{behind, ends_behind, stands_on}
use Rattle.desk_shared.proofs.Gotten.{may_read, read_ends}
use Rattle.desk_shared.proofs.Handed.{as_taken, left_alone}
use Rattle.desk_shared.proofs.Listed.{as_many_there}
use Rattle.desk_shared.proofs.Looked.{service, snapshot_calls}
use Rattle.desk_shared.proofs.Returned.{has_states, has_states_still, ports_and_states}
use Rattle.desk_shared.proofs.Watched.{all_again, hub_behind, same_exchange, site_there}
use Rattle.desk_shared.proofs.looking.snapshot_in.Goals as goal

pub visit_channel-requires-clause-own : goal.visit_channel-requires-clause-own
visit_channel-requires-clause-own g c =
    c.requires.stands.own_is

pub visit_channel-requires-clause-count : goal.visit_channel-requires-clause-count
visit_channel-requires-clause-count g c =
    c.requires.stands.furnished.count_is

pub visit_channel-requires-clause-channel : goal.visit_channel-requires-clause-channel
visit_channel-requires-clause-channel g c =
    refl

pub returns-in-Err-clause-stands : goal.returns-in-Err-clause-stands
returns-in-Err-clause-stands g c =
    let st = c.requires.stands in
    let back = (c.in-Err.ensures {u = tt}).back in
    let call = subst (λ (z : Seat). Calls (seat_of c.args.pass.seat.me.0) z (AreSnapshot {Z = Global} c.args.pass.seat.me.0.seen.base.site (Err c.in-Err.no_memory))) (sym (ap (λ p. seat_of p.seat.me.0) back)) (no_snapshot Global c.args.pass.seat.me.0.seen.base.site (seat_of c.args.pass.seat.me.0) st.legal c.in-Err.no_memory) in
    stands_on _ _ _ _ _ _ _ _ _ c.args.pass.seat.me.0 c.in-Err.pass.seat.me.0 st refl refl (ap (λ p. p.seat.table_id) back) _ call

pub returns-in-Err-clause-calls : goal.returns-in-Err-clause-calls
returns-in-Err-clause-calls g c =
    let st = c.requires.stands in
    let back = (c.in-Err.ensures {u = tt}).back in
    let call = subst (λ (z : Seat). Calls (seat_of c.args.pass.seat.me.0) z (AreSnapshot {Z = Global} c.args.pass.seat.me.0.seen.base.site (Err c.in-Err.no_memory))) (sym (ap (λ p. seat_of p.seat.me.0) back)) (no_snapshot Global c.args.pass.seat.me.0.seen.base.site (seat_of c.args.pass.seat.me.0) st.legal c.in-Err.no_memory) in
    call

pub footprint_of-requires : goal.footprint_of-requires
footprint_of-requires g c =
    refl

pub footprint_of-requires-2 : goal.footprint_of-requires-2
footprint_of-requires-2 g c =
    refl

pub exchange-requires-clause-many : goal.exchange-requires-clause-many
exchange-requires-clause-many g c =
    let v = c.in-Ok.visit in
    let made = c.in-Ok.ensures {u = tt} in
    v.many ∙ ap length (made.recs ∙ sym c.footprint_of.ensures)

pub exchange-requires-clause-rises : goal.exchange-requires-clause-rises
exchange-requires-clause-rises g c =
    subst IsStrictlyIncreasing (sym c.footprint_of.ensures) (c.footprints_rise.ensures.gets c.args.site.now service)

pub exchange-requires-clause-states : goal.exchange-requires-clause-states
exchange-requires-clause-states g c =
    let s = c.args.site.now in
    let st = c.requires.stands in
    subst (AllByRecursion (λ (rec : ℕ). rec < length c.args.cells.now.states.items)) (sym c.footprint_of.ensures)
    (has_states s service c.args.cells.now.states.items c.groups_over_records.ensures c.names_and_configs.ensures.same c.opening_is_valid.ensures st.furnished.states_are refl)

pub exchange-requires-clause-ports : goal.exchange-requires-clause-ports
exchange-requires-clause-ports g c =
    let s = c.args.site.now in
    let st = c.requires.stands in
    ports_and_states s c.args.cells.now.ports.items c.args.cells.now.states.items c.opening_is_valid.ensures st.furnished.states_are st.furnished.ports_are

pub rows-told-requires : goal.rows-told-requires
rows-told-requires g c =
    let s = c.args.site.now in
    let st = c.requires.stands in
    let many : length c.exchange.new.cells.states.items ≡ length s.names = c.exchange.ensures.exchanged.long ∙ ap length st.furnished.states_are ∙ sym (valid_count s.configs s.opening c.opening_is_valid.ensures) ∙ sym c.names_and_configs.ensures.same in
    ap length c.as_slice.ensures.value ∙ many

pub exchange-requires-2-clause-many : goal.exchange-requires-2-clause-many
exchange-requires-2-clause-many g c =
    let v = c.in-Ok.visit in
    let made = c.in-Ok.ensures {u = tt} in
    c.exchange.ensures.many ∙ v.many ∙ ap length (made.recs ∙ sym c.footprint_of-2.ensures)

pub exchange-requires-2-clause-rises : goal.exchange-requires-2-clause-rises
exchange-requires-2-clause-rises g c =
    subst IsStrictlyIncreasing (sym c.footprint_of-2.ensures) (c.footprints_rise.ensures.gets c.args.site.now service)

pub exchange-requires-2-clause-states : goal.exchange-requires-2-clause-states
exchange-requires-2-clause-states g c =
    let s = c.args.site.now in
    let st = c.requires.stands in
    subst (AllByRecursion (λ (rec : ℕ). rec < length c.exchange.new.cells.states.items)) (sym c.footprint_of-2.ensures)
    (has_states_still s service c.args.cells.now.states.items c.exchange.new.cells.states.items c.groups_over_records.ensures c.names_and_configs.ensures.same c.opening_is_valid.ensures st.furnished.states_are c.exchange.ensures.exchanged.long refl)

pub exchange-requires-2-clause-ports : goal.exchange-requires-2-clause-ports
exchange-requires-2-clause-ports g c =
    let s = c.args.site.now in
    let st = c.requires.stands in
    as_many_there c.args.cells.now.ports.items c.exchange.new.cells.ports.items c.exchange.ensures.ports
    ∙ ports_and_states s c.args.cells.now.ports.items c.args.cells.now.states.items c.opening_is_valid.ensures st.furnished.states_are st.furnished.ports_are ∙ sym c.exchange.ensures.exchanged.long

pub invariant_of-visit : goal.invariant_of-visit
invariant_of-visit g c =
    let v = c.in-Ok.visit in
    let made = c.in-Ok.ensures {u = tt} in
    record { carries = v.carries; slots = v.slots; many = c.exchange-2.ensures.many ∙ c.exchange.ensures.many ∙ v.many }

pub invariant_of-visit-in-Err-told : goal.invariant_of-visit-in-Err-told
invariant_of-visit-in-Err-told g c =
    let v = c.in-Ok.visit in
    let made = c.in-Ok.ensures {u = tt} in
    record { carries = v.carries; slots = v.slots; many = c.exchange-2.ensures.many ∙ c.exchange.ensures.many ∙ v.many }

pub glance-held-requires : goal.glance-held-requires
glance-held-requires g c =
    let st = c.requires.stands in
    let v = c.in-Ok.visit in
    let made = c.in-Ok.ensures {u = tt} in
    record { own = made.own ∙ st.own_is }

pub leave-requires-clause-own : goal.leave-requires-clause-own
leave-requires-clause-own g c =
    let st = c.requires.stands in
    let v = c.in-Ok.visit in
    let made = c.in-Ok.ensures {u = tt} in
    made.own ∙ st.own_is

pub leave-requires-clause-taken : goal.leave-requires-clause-taken
leave-requires-clause-taken g c =
    let s = c.args.site.now in
    let st = c.requires.stands in
    let v = c.in-Ok.visit in
    let made = c.in-Ok.ensures {u = tt} in
    let z = same_exchange c.footprint_of.result.now (footprint_of s service) (states_of v.cells.items) (states_of c.exchange.new.hand.items) c.args.cells.now.states.items s.opening c.exchange.new.cells.states.items c.footprint_of.ensures st.furnished.states_are
    c.exchange.ensures.exchanged in
    let again = all_again s service (states_of v.cells.items) (states_of c.exchange.new.hand.items) c.exchange.new.cells.states.items z c.footprint_of-2.result.now (states_of c.exchange.new.hand.items) (states_of c.exchange-2.new.hand.items)
    c.exchange.new.cells.states.items c.exchange-2.new.cells.states.items c.footprint_of-2.ensures refl refl c.exchange-2.ensures.exchanged in
    as_taken v.seat.me.0 c.exchange-2.new.hand.items (states_of v.cells.items) made.visits.values again.0

pub look_read-requires-clause-own : goal.look_read-requires-clause-own
look_read-requires-clause-own g c =
    let st = c.requires.stands in
    let v = c.in-Ok.visit in
    let made = c.in-Ok.ensures {u = tt} in
    c.glance-held.ensures.own ∙ made.own ∙ st.own_is

pub look_read-requires-clause-may : goal.look_read-requires-clause-may
look_read-requires-clause-may g c =
    let s = c.args.site.now in
    let st = c.requires.stands in
    let v = c.in-Ok.visit in
    let made = c.in-Ok.ensures {u = tt} in
    let z = same_exchange c.footprint_of.result.now (footprint_of s service) (states_of v.cells.items) (states_of c.exchange.new.hand.items) c.args.cells.now.states.items s.opening c.exchange.new.cells.states.items c.footprint_of.ensures st.furnished.states_are
    c.exchange.ensures.exchanged in
    let again = all_again s service (states_of v.cells.items) (states_of c.exchange.new.hand.items) c.exchange.new.cells.states.items z c.footprint_of-2.result.now (states_of c.exchange.new.hand.items) (states_of c.exchange-2.new.hand.items)
    c.exchange.new.cells.states.items c.exchange-2.new.cells.states.items c.footprint_of-2.ensures refl refl c.exchange-2.ensures.exchanged in
    let h = c.glance-held.result in
    let had = c.glance-held.ensures.hub in
    let b = hub_behind c.args.pass.seat.me.0 v.seat.me.0 h.seat.me.0 had.0 (footprint_of s service) (states_of v.cells.items) made.visits had.1 had.2 in
    let foot : h.footprint.items ≡ footprint_of s service = c.glance-held.ensures.footprint ∙ made.recs in
    let cells : states_of h.cells.items ≡ states_of v.cells.items = ap states_of c.glance-held.ensures.cells ∙ again.0 in
    let there = site_there c.args.pass.seat.me.0 h.seat.me.0 h.seat.me.0 had.0 _ _ b s st.site_is in (
      had.0,
      ap (λ (x : Sight). x.hub) had.1,
      subst (λ (l : List ℕ). MayLook records h.seat.me.0 had.0 h.cells.items (Some (Read (now (seat_of h.seat.me.0)) service l (states_of h.cells.items)))) (sym foot)
          (may_read h.seat.me.0 had.0 (footprint_of s service) (states_of v.cells.items) h.cells.items service b.has cells (inl (ap (λ (z : SiteData). footprint_of z service) (sym there)))),
    )

pub look_read-requires-clause-mark : goal.look_read-requires-clause-mark
look_read-requires-clause-mark g c =
    refl

pub returns-in-Ok-told-clause-stands : goal.returns-in-Ok-told-clause-stands
returns-in-Ok-told-clause-stands g c =
    let s = c.args.site.now in
    let st = c.requires.stands in
    let v = c.in-Ok.visit in
    let made = c.in-Ok.ensures {u = tt} in
    let z = same_exchange c.footprint_of.result.now (footprint_of s service) (states_of v.cells.items) (states_of c.exchange.new.hand.items) c.args.cells.now.states.items s.opening c.exchange.new.cells.states.items c.footprint_of.ensures st.furnished.states_are
    c.exchange.ensures.exchanged in
    let again = all_again s service (states_of v.cells.items) (states_of c.exchange.new.hand.items) c.exchange.new.cells.states.items z c.footprint_of-2.result.now (states_of c.exchange.new.hand.items) (states_of c.exchange-2.new.hand.items)
    c.exchange.new.cells.states.items c.exchange-2.new.cells.states.items c.footprint_of-2.ensures refl refl c.exchange-2.ensures.exchanged in
    let h = c.glance-held.result in
    let had = c.glance-held.ensures.hub in
    let b = hub_behind c.args.pass.seat.me.0 v.seat.me.0 h.seat.me.0 had.0 (footprint_of s service) (states_of v.cells.items) made.visits had.1 had.2 in
    let foot : h.footprint.items ≡ footprint_of s service = c.glance-held.ensures.footprint ∙ made.recs in
    let cells : states_of h.cells.items ≡ states_of v.cells.items = ap states_of c.glance-held.ensures.cells ∙ again.0 in
    let there = site_there c.args.pass.seat.me.0 h.seat.me.0 h.seat.me.0 had.0 _ _ b s st.site_is in
    let u = c.look_read.result.seat.me.0 in
    let noted = subst (λ (l : List ℕ × List RecState). seat_of u ≡ with_mark (seat_of h.seat.me.0) (λ at. Read at service l.0 l.1)) (λ i. (foot i, cells i)) c.look_read.ensures.marked in
    let many : length c.exchange.new.cells.states.items ≡ length s.names = c.exchange.ensures.exchanged.long ∙ ap length st.furnished.states_are ∙ sym (valid_count s.configs s.opening c.opening_is_valid.ensures) ∙ sym c.names_and_configs.ensures.same in
    let call = behind (seat_of c.args.pass.seat.me.0) (seat_of h.seat.me.0) (seat_of u) b.others (AreSnapshot c.args.pass.seat.me.0.seen.base.site (Ok c.in-Ok-told.rows))
    (subst (λ (k : SiteData). Calls (seat_of h.seat.me.0) (seat_of u) (AreSnapshot k (Ok c.in-Ok-told.rows))) (sym st.site_is)
    (snapshot_calls (seat_of h.seat.me.0) (seat_of u) s c.in-Ok-told.rows c.exchange.new.cells.states.items (states_of v.cells.items) there b.has.legal noted b.has.finds many z.given (c.in-Ok-told.ensures {u = tt} ∙ ap (rows_shown s.names) c.as_slice.ensures.value))) in
    stands_on _ _ s _ _ _ _ _ _ c.args.pass.seat.me.0 c.look_read.result.seat.me.0 st (again.1 ∙ sym st.furnished.states_are) (c.exchange-2.ensures.ports ∙ c.exchange.ensures.ports) (c.look_read.ensures.own ∙ c.glance-held.ensures.own ∙ made.own) _ call

pub returns-in-Ok-told-clause-calls : goal.returns-in-Ok-told-clause-calls
returns-in-Ok-told-clause-calls g c =
    let s = c.args.site.now in
    let st = c.requires.stands in
    let v = c.in-Ok.visit in
    let made = c.in-Ok.ensures {u = tt} in
    let z = same_exchange c.footprint_of.result.now (footprint_of s service) (states_of v.cells.items) (states_of c.exchange.new.hand.items) c.args.cells.now.states.items s.opening c.exchange.new.cells.states.items c.footprint_of.ensures st.furnished.states_are
    c.exchange.ensures.exchanged in
    let again = all_again s service (states_of v.cells.items) (states_of c.exchange.new.hand.items) c.exchange.new.cells.states.items z c.footprint_of-2.result.now (states_of c.exchange.new.hand.items) (states_of c.exchange-2.new.hand.items)
    c.exchange.new.cells.states.items c.exchange-2.new.cells.states.items c.footprint_of-2.ensures refl refl c.exchange-2.ensures.exchanged in
    let h = c.glance-held.result in
    let had = c.glance-held.ensures.hub in
    let b = hub_behind c.args.pass.seat.me.0 v.seat.me.0 h.seat.me.0 had.0 (footprint_of s service) (states_of v.cells.items) made.visits had.1 had.2 in
    let foot : h.footprint.items ≡ footprint_of s service = c.glance-held.ensures.footprint ∙ made.recs in
    let cells : states_of h.cells.items ≡ states_of v.cells.items = ap states_of c.glance-held.ensures.cells ∙ again.0 in
    let there = site_there c.args.pass.seat.me.0 h.seat.me.0 h.seat.me.0 had.0 _ _ b s st.site_is in
    let u = c.look_read.result.seat.me.0 in
    let noted = subst (λ (l : List ℕ × List RecState). seat_of u ≡ with_mark (seat_of h.seat.me.0) (λ at. Read at service l.0 l.1)) (λ i. (foot i, cells i)) c.look_read.ensures.marked in
    let many : length c.exchange.new.cells.states.items ≡ length s.names = c.exchange.ensures.exchanged.long ∙ ap length st.furnished.states_are ∙ sym (valid_count s.configs s.opening c.opening_is_valid.ensures) ∙ sym c.names_and_configs.ensures.same in
    let call = behind (seat_of c.args.pass.seat.me.0) (seat_of h.seat.me.0) (seat_of u) b.others (AreSnapshot c.args.pass.seat.me.0.seen.base.site (Ok c.in-Ok-told.rows))
    (subst (λ (k : SiteData). Calls (seat_of h.seat.me.0) (seat_of u) (AreSnapshot k (Ok c.in-Ok-told.rows))) (sym st.site_is)
    (snapshot_calls (seat_of h.seat.me.0) (seat_of u) s c.in-Ok-told.rows c.exchange.new.cells.states.items (states_of v.cells.items) there b.has.legal noted b.has.finds many z.given (c.in-Ok-told.ensures {u = tt} ∙ ap (rows_shown s.names) c.as_slice.ensures.value))) in
    call

pub returns-in-Ok-told-clause-ends : goal.returns-in-Ok-told-clause-ends
returns-in-Ok-told-clause-ends g c =
    let s = c.args.site.now in
    let st = c.requires.stands in
    let v = c.in-Ok.visit in
    let made = c.in-Ok.ensures {u = tt} in
    let z = same_exchange c.footprint_of.result.now (footprint_of s service) (states_of v.cells.items) (states_of c.exchange.new.hand.items) c.args.cells.now.states.items s.opening c.exchange.new.cells.states.items c.footprint_of.ensures st.furnished.states_are
    c.exchange.ensures.exchanged in
    let again = all_again s service (states_of v.cells.items) (states_of c.exchange.new.hand.items) c.exchange.new.cells.states.items z c.footprint_of-2.result.now (states_of c.exchange.new.hand.items) (states_of c.exchange-2.new.hand.items)
    c.exchange.new.cells.states.items c.exchange-2.new.cells.states.items c.footprint_of-2.ensures refl refl c.exchange-2.ensures.exchanged in
    let h = c.glance-held.result in
    let had = c.glance-held.ensures.hub in
    let b = hub_behind c.args.pass.seat.me.0 v.seat.me.0 h.seat.me.0 had.0 (footprint_of s service) (states_of v.cells.items) made.visits had.1 had.2 in
    let foot : h.footprint.items ≡ footprint_of s service = c.glance-held.ensures.footprint ∙ made.recs in
    let cells : states_of h.cells.items ≡ states_of v.cells.items = ap states_of c.glance-held.ensures.cells ∙ again.0 in
    let there = site_there c.args.pass.seat.me.0 h.seat.me.0 h.seat.me.0 had.0 _ _ b s st.site_is in
    let u = c.look_read.result.seat.me.0 in
    let noted = subst (λ (l : List ℕ × List RecState). seat_of u ≡ with_mark (seat_of h.seat.me.0) (λ at. Read at service l.0 l.1)) (λ i. (foot i, cells i)) c.look_read.ensures.marked in
    ends_behind (seat_of c.args.pass.seat.me.0) (seat_of h.seat.me.0) (seat_of u) b.others (inr (read_ends (seat_of h.seat.me.0) (seat_of u) service (footprint_of s service) (states_of v.cells.items) noted))

pub returns-in-Err-told-clause-stands : goal.returns-in-Err-told-clause-stands
returns-in-Err-told-clause-stands g c =
    let s = c.args.site.now in
    let st = c.requires.stands in
    let v = c.in-Ok.visit in
    let made = c.in-Ok.ensures {u = tt} in
    let z = same_exchange c.footprint_of.result.now (footprint_of s service) (states_of v.cells.items) (states_of c.exchange.new.hand.items) c.args.cells.now.states.items s.opening c.exchange.new.cells.states.items c.footprint_of.ensures st.furnished.states_are
    c.exchange.ensures.exchanged in
    let again = all_again s service (states_of v.cells.items) (states_of c.exchange.new.hand.items) c.exchange.new.cells.states.items z c.footprint_of-2.result.now (states_of c.exchange.new.hand.items) (states_of c.exchange-2.new.hand.items)
    c.exchange.new.cells.states.items c.exchange-2.new.cells.states.items c.footprint_of-2.ensures refl refl c.exchange-2.ensures.exchanged in
    let left = left_alone c.args.pass.seat.me.0 v.seat.me.0 c.leave.result.seat.me.0 _ _ made.visits c.leave.ensures.same in
    let call = subst (λ (z : Seat). Calls (seat_of c.args.pass.seat.me.0) z (AreSnapshot {Z = Global} c.args.pass.seat.me.0.seen.base.site (Err c.in-Err-told.no_memory))) (sym left) (no_snapshot Global c.args.pass.seat.me.0.seen.base.site (seat_of c.args.pass.seat.me.0) st.legal c.in-Err-told.no_memory) in
    stands_on _ _ s _ _ _ _ _ _ c.args.pass.seat.me.0 c.leave.result.seat.me.0 st (again.1 ∙ sym st.furnished.states_are) (c.exchange-2.ensures.ports ∙ c.exchange.ensures.ports) (c.leave.ensures.own ∙ made.own) _ call

pub returns-in-Err-told-clause-calls : goal.returns-in-Err-told-clause-calls
returns-in-Err-told-clause-calls g c =
    let s = c.args.site.now in
    let st = c.requires.stands in
    let v = c.in-Ok.visit in
    let made = c.in-Ok.ensures {u = tt} in
    let z = same_exchange c.footprint_of.result.now (footprint_of s service) (states_of v.cells.items) (states_of c.exchange.new.hand.items) c.args.cells.now.states.items s.opening c.exchange.new.cells.states.items c.footprint_of.ensures st.furnished.states_are
    c.exchange.ensures.exchanged in
    let again = all_again s service (states_of v.cells.items) (states_of c.exchange.new.hand.items) c.exchange.new.cells.states.items z c.footprint_of-2.result.now (states_of c.exchange.new.hand.items) (states_of c.exchange-2.new.hand.items)
    c.exchange.new.cells.states.items c.exchange-2.new.cells.states.items c.footprint_of-2.ensures refl refl c.exchange-2.ensures.exchanged in
    let left = left_alone c.args.pass.seat.me.0 v.seat.me.0 c.leave.result.seat.me.0 _ _ made.visits c.leave.ensures.same in
    let call = subst (λ (z : Seat). Calls (seat_of c.args.pass.seat.me.0) z (AreSnapshot {Z = Global} c.args.pass.seat.me.0.seen.base.site (Err c.in-Err-told.no_memory))) (sym left) (no_snapshot Global c.args.pass.seat.me.0.seen.base.site (seat_of c.args.pass.seat.me.0) st.legal c.in-Err-told.no_memory) in
    call

pub returns-in-Err-clause-others : goal.returns-in-Err-clause-others
returns-in-Err-clause-others g c = ap (λ p. p.seat.me.0.others) (c.in-Err.ensures {u = tt}).back

pub returns-in-Ok-told-clause-others : goal.returns-in-Ok-told-clause-others
returns-in-Ok-told-clause-others g c = c.look_read.ensures.others ∙ c.glance-held.ensures.others ∙ (c.in-Ok.ensures {u = tt}).others

pub returns-in-Err-told-clause-others : goal.returns-in-Err-told-clause-others
returns-in-Err-told-clause-others g c = c.leave.ensures.others ∙ (c.in-Ok.ensures {u = tt}).others
