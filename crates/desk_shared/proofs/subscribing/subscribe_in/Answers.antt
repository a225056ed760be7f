use Rattle.std.proofs.Common.{◌≡◌, ◌∙◌, ◌<◌, ℕ, Result, Ok, Err, length, refl, sym, ap, subst}
use Rattle.std.specs.FinSet.{FinSet}
use Rattle.std.specs.List.{AllByRecursion}
use Rattle.std.specs.List.Sorted.{IsStrictlyIncreasing}
use Rattle.std.specs.Ordering.{nat_cmp}
use Rattle.std.specs.Prelude.{IfErr}
use Rattle.journal_core.specs.Legality.{AreValid}
use Rattle.mon_shown.specs.Slots.{Stand}
use Rattle.mon_shown.specs.declared.slots.NotBegun.{NotBegun}
use Rattle.mon_shown.specs.declared.slots.NotBegun.TheVariants.{TooMany, NoMemory}
use Rattle.desk_hub.specs.Steps.{StartsNot}
use Rattle.desk_api.specs.Calls.{AreSubscribe}
use Rattle.desk_api.specs.Sites.{footprint_of}
use Rattle.desk_api.specs.Triggers.{channel_view, may_be_watched}
use Rattle.desk_api.specs.Types.{HoldsLeaves, type_of}
use Rattle.desk_api.specs.Views.{value_of}
use Rattle.desk_api.specs.declared.history.SiteData.{SiteData}
use Rattle.desk_api.specs.declared.sub.SubAnswer.TheVariants as answers
use Rattle.desk_api.proofs.Adding.{adds_nothing}
use Rattle.desk_core.specs.Subscribing.{IsNotBegunNow}
use Rattle.desk_core.proofs.Keeping.{unbegun_calls}
use Rattle.desk_shared.specs.Hands.{states_of}
use Rattle.desk_shared.specs.Records.{seat_of}
use Rattle.desk_shared.proofs.Behind.{behind, ends_behind, stands_on, uncalled}
use Rattle.desk_shared.proofs.Handed.{as_taken, left_alone}
use Rattle.desk_shared.proofs.Listed.{as_many_there}
use Rattle.desk_shared.proofs.Marked.{unmarked}
use Rattle.desk_shared.proofs.Returned.{has_states, has_states_still, ports_and_states, valid_with, watched_channel}
use Rattle.desk_shared.proofs.Subscribed.{begun_calls, begun_ends, begun_rolled, may_begin, may_crowd, may_leave}
use Rattle.desk_shared.proofs.Watched.{all_again, is_watched, same_exchange, stand_there, unbegun_ends, unbegun_rolled}
use Rattle.desk_shared.proofs.Watched.{unbegun_calls as unbegun}
use Rattle.desk_shared.proofs.subscribing.subscribe_in.Goals as goal

pub returns-in_default-clause-stands : goal.returns-in_default-clause-stands
returns-in_default-clause-stands g c =
    c.requires.stands

pub returns-in_default-clause-calls : goal.returns-in_default-clause-calls
returns-in_default-clause-calls g c =
    unbegun_calls (seat_of c.args.pass.seat.me.0) c.requires.stands.legal c.args.channel c.args.mask.now c.args.size

pub visit_channel-requires-clause-own : goal.visit_channel-requires-clause-own
visit_channel-requires-clause-own g c =
    c.requires.stands.own_is

pub visit_channel-requires-clause-count : goal.visit_channel-requires-clause-count
visit_channel-requires-clause-count g c =
    c.requires.stands.furnished.count_is

pub visit_channel-requires-clause-channel : goal.visit_channel-requires-clause-channel
visit_channel-requires-clause-channel g c =
    watched_channel c.args.site.now c.args.channel c.requires.channel

pub returns-in-Err-clause-stands : goal.returns-in-Err-clause-stands
returns-in-Err-clause-stands g c =
    let st = c.requires.stands in
    let back = (c.in-Err.ensures {u = tt}).back in
    let call = uncalled (seat_of c.args.pass.seat.me.0) (seat_of c.in-Err.pass.seat.me.0) (AreSubscribe c.args.channel c.args.mask.now c.args.size (Err answers.NoMemory)) (ap (λ p. seat_of p.seat.me.0) back) (adds_nothing (seat_of c.args.pass.seat.me.0) st.legal) refl in
    stands_on _ _ _ _ _ _ _ _ _ c.args.pass.seat.me.0 c.in-Err.pass.seat.me.0 st refl refl (ap (λ p. p.seat.table_id) back) _ call

pub returns-in-Err-clause-calls : goal.returns-in-Err-clause-calls
returns-in-Err-clause-calls g c =
    let st = c.requires.stands in
    let back = (c.in-Err.ensures {u = tt}).back in
    let call = uncalled (seat_of c.args.pass.seat.me.0) (seat_of c.in-Err.pass.seat.me.0) (AreSubscribe c.args.channel c.args.mask.now c.args.size (Err answers.NoMemory)) (ap (λ p. seat_of p.seat.me.0) back) (adds_nothing (seat_of c.args.pass.seat.me.0) st.legal) refl in
    call

pub footprint_of-requires : goal.footprint_of-requires
footprint_of-requires g c =
    watched_channel c.args.site.now c.args.channel c.requires.channel

pub footprint_of-requires-2 : goal.footprint_of-requires-2
footprint_of-requires-2 g c =
    watched_channel c.args.site.now c.args.channel c.requires.channel

pub exchange-requires-clause-many : goal.exchange-requires-clause-many
exchange-requires-clause-many g c =
    let made = c.in-Ok-visit_channel.ensures {u = tt} in
    let v = c.in-Ok-visit_channel.visit in
    v.many ∙ ap length (made.recs ∙ sym c.footprint_of.ensures)

pub exchange-requires-clause-rises : goal.exchange-requires-clause-rises
exchange-requires-clause-rises g c =
    subst IsStrictlyIncreasing (sym c.footprint_of.ensures) (c.footprints_rise.ensures.gets c.args.site.now c.args.channel)

pub exchange-requires-clause-states : goal.exchange-requires-clause-states
exchange-requires-clause-states g c =
    let s = c.args.site.now in
    let st = c.requires.stands in
    subst (AllByRecursion (λ (rec : ℕ). rec < length c.args.cells.now.states.items)) (sym c.footprint_of.ensures)
    (has_states s c.args.channel c.args.cells.now.states.items c.groups_over_records.ensures c.names_and_configs.ensures.same c.opening_is_valid.ensures st.furnished.states_are (watched_channel s c.args.channel c.requires.channel))

pub exchange-requires-clause-ports : goal.exchange-requires-clause-ports
exchange-requires-clause-ports g c =
    let s = c.args.site.now in
    let st = c.requires.stands in
    ports_and_states s c.args.cells.now.ports.items c.args.cells.now.states.items c.opening_is_valid.ensures st.furnished.states_are st.furnished.ports_are

pub invariant_of-visit : goal.invariant_of-visit
invariant_of-visit g c =
    let v = c.in-Ok-visit_channel.visit in
    record { carries = v.carries; slots = v.slots; many = c.exchange-2.ensures.many ∙ c.exchange.ensures.many ∙ v.many }

pub invariant_of-visit-2 : goal.invariant_of-visit-2
invariant_of-visit-2 g c =
    let v = c.in-Ok-visit_channel.visit in
    record { carries = v.carries; slots = v.slots; many = c.exchange-2.ensures.many ∙ c.exchange.ensures.many ∙ v.many }

pub leave-requires-clause-own : goal.leave-requires-clause-own
leave-requires-clause-own g c =
    (c.in-Ok-visit_channel.ensures {u = tt}).own ∙ c.requires.stands.own_is

pub leave-requires-clause-taken : goal.leave-requires-clause-taken
leave-requires-clause-taken g c =
    let s = c.args.site.now in
    let st = c.requires.stands in
    let made = c.in-Ok-visit_channel.ensures {u = tt} in
    let v = c.in-Ok-visit_channel.visit in
    let z = same_exchange c.footprint_of.result.now (footprint_of s c.args.channel) (states_of v.cells.items) (states_of c.exchange.new.hand.items) c.args.cells.now.states.items s.opening c.exchange.new.cells.states.items c.footprint_of.ensures st.furnished.states_are
    c.exchange.ensures.exchanged in
    let again = all_again s c.args.channel (states_of v.cells.items) (states_of c.exchange.new.hand.items) c.exchange.new.cells.states.items z c.footprint_of-2.result.now (states_of c.exchange.new.hand.items) (states_of c.exchange-2.new.hand.items)
    c.exchange.new.cells.states.items c.exchange-2.new.cells.states.items c.footprint_of-2.ensures refl refl c.exchange-2.ensures.exchanged in
    as_taken v.seat.me.0 c.exchange-2.new.hand.items (states_of v.cells.items) made.visits.values again.0

pub returns-in_default-first-clause-stands : goal.returns-in_default-first-clause-stands
returns-in_default-first-clause-stands g c =
    let s = c.args.site.now in
    let st = c.requires.stands in
    let made = c.in-Ok-visit_channel.ensures {u = tt} in
    let v = c.in-Ok-visit_channel.visit in
    let z = same_exchange c.footprint_of.result.now (footprint_of s c.args.channel) (states_of v.cells.items) (states_of c.exchange.new.hand.items) c.args.cells.now.states.items s.opening c.exchange.new.cells.states.items c.footprint_of.ensures st.furnished.states_are
    c.exchange.ensures.exchanged in
    let again = all_again s c.args.channel (states_of v.cells.items) (states_of c.exchange.new.hand.items) c.exchange.new.cells.states.items z c.footprint_of-2.result.now (states_of c.exchange.new.hand.items) (states_of c.exchange-2.new.hand.items)
    c.exchange.new.cells.states.items c.exchange-2.new.cells.states.items c.footprint_of-2.ensures refl refl c.exchange-2.ensures.exchanged in
    let left = left_alone c.args.pass.seat.me.0 v.seat.me.0 c.leave.result.seat.me.0 _ _ made.visits c.leave.ensures.same in
    let call = uncalled (seat_of c.args.pass.seat.me.0) (seat_of c.leave.result.seat.me.0) (AreSubscribe c.args.channel c.args.mask.now c.args.size (Err answers.NoMemory)) left (adds_nothing (seat_of c.args.pass.seat.me.0) st.legal) refl in
    stands_on _ _ s _ _ _ _ _ _ c.args.pass.seat.me.0 c.leave.result.seat.me.0 st (again.1 ∙ sym st.furnished.states_are) (c.exchange-2.ensures.ports ∙ c.exchange.ensures.ports) (c.leave.ensures.own ∙ made.own) _ call

pub returns-in_default-first-clause-calls : goal.returns-in_default-first-clause-calls
returns-in_default-first-clause-calls g c =
    let st = c.requires.stands in
    let made = c.in-Ok-visit_channel.ensures {u = tt} in
    let v = c.in-Ok-visit_channel.visit in
    let left = left_alone c.args.pass.seat.me.0 v.seat.me.0 c.leave.result.seat.me.0 _ _ made.visits c.leave.ensures.same in
    let call = uncalled (seat_of c.args.pass.seat.me.0) (seat_of c.leave.result.seat.me.0) (AreSubscribe c.args.channel c.args.mask.now c.args.size (Err answers.NoMemory)) left (adds_nothing (seat_of c.args.pass.seat.me.0) st.legal) refl in
    call

pub returns-in_default-first-clause-others : goal.returns-in_default-first-clause-others
returns-in_default-first-clause-others g c =
    c.leave.ensures.others ∙ (c.in-Ok-visit_channel.ensures {u = tt}).others

pub begin-requires-clause-is_of : goal.begin-requires-clause-is_of
begin-requires-clause-is_of g c = (c.in-Ok-first.ensures {u = tt}).is_of

pub hub-held-requires : goal.hub-held-requires
hub-held-requires g c =
    let st = c.requires.stands in
    let made = c.in-Ok-visit_channel.ensures {u = tt} in
    let v = c.in-Ok-visit_channel.visit in
    record { own = made.own ∙ st.own_is }

pub begin-requires-clause-stand : goal.begin-requires-clause-stand
begin-requires-clause-stand g c =
    let s = c.args.site.now in
    let st = c.requires.stands in
    let made = c.in-Ok-visit_channel.ensures {u = tt} in
    let v = c.in-Ok-visit_channel.visit in
    let h = c.hub-held.result in
    let w = is_watched c.looks_show_states.ensures c.args.pass.seat.me.0 v.seat.me.0 h.seat.me.0 h.hub s c.args.channel c.footprint_of.result.now (states_of v.cells.items) (states_of c.exchange.new.hand.items) c.exchange.new.cells.states.items
    c.args.cells.now.states.items made.visits c.hub-held.ensures.taken c.hub-held.ensures.found st.site_is st.furnished.states_are c.footprint_of.ensures c.exchange.ensures.exchanged in
    stand_there c.args.pass.seat.me.0 h.seat.me.0 h.seat.me.0 h.hub _ _ w.behind s st.site_is

pub ready-first-requires-clause-channel : goal.ready-first-requires-clause-channel
ready-first-requires-clause-channel g c =
    c.requires.channel

pub ready-first-requires-clause-leaves : goal.ready-first-requires-clause-leaves
ready-first-requires-clause-leaves g c =
    subst (λ (m : FinSet nat_cmp). HoldsLeaves (type_of c.args.site.now c.args.channel) m) (sym (c.in-Ok.ensures {u = tt})) c.requires.leaves

pub ready-first-requires-clause-valid : goal.ready-first-requires-clause-valid
ready-first-requires-clause-valid g c =
    let s = c.args.site.now in
    let st = c.requires.stands in
    let made = c.in-Ok-visit_channel.ensures {u = tt} in
    let v = c.in-Ok-visit_channel.visit in
    let z = same_exchange c.footprint_of.result.now (footprint_of s c.args.channel) (states_of v.cells.items) (states_of c.exchange.new.hand.items) c.args.cells.now.states.items s.opening c.exchange.new.cells.states.items c.footprint_of.ensures st.furnished.states_are
    c.exchange.ensures.exchanged in
    subst (AreValid s.configs) (sym c.as_slice-states.ensures.value)
    (valid_with c.args.pass.seat.me.0 v.seat.me.0 (footprint_of s c.args.channel) (states_of v.cells.items) (states_of c.exchange.new.hand.items) c.exchange.new.cells.states.items s made.visits st.site_is c.opening_is_valid.ensures z)

pub ready-first-requires-clause-size : goal.ready-first-requires-clause-size
ready-first-requires-clause-size g c =
    c.requires.size

pub invariant_of-hub : goal.invariant_of-hub
invariant_of-hub g c =
    record { opening_is = c.hub-held.result.hub.opening_is }

pub exchange-requires-2-clause-many : goal.exchange-requires-2-clause-many
exchange-requires-2-clause-many g c =
    let made = c.in-Ok-visit_channel.ensures {u = tt} in
    let v = c.in-Ok-visit_channel.visit in
    c.exchange.ensures.many ∙ v.many ∙ ap length (made.recs ∙ sym c.footprint_of-2.ensures)

pub exchange-requires-2-clause-rises : goal.exchange-requires-2-clause-rises
exchange-requires-2-clause-rises g c =
    subst IsStrictlyIncreasing (sym c.footprint_of-2.ensures) (c.footprints_rise.ensures.gets c.args.site.now c.args.channel)

pub exchange-requires-2-clause-states : goal.exchange-requires-2-clause-states
exchange-requires-2-clause-states g c =
    let s = c.args.site.now in
    let st = c.requires.stands in
    subst (AllByRecursion (λ (rec : ℕ). rec < length c.exchange.new.cells.states.items)) (sym c.footprint_of-2.ensures)
    (has_states_still s c.args.channel c.args.cells.now.states.items c.exchange.new.cells.states.items c.groups_over_records.ensures c.names_and_configs.ensures.same c.opening_is_valid.ensures st.furnished.states_are c.exchange.ensures.exchanged.long
    (watched_channel s c.args.channel c.requires.channel))

pub exchange-requires-2-clause-ports : goal.exchange-requires-2-clause-ports
exchange-requires-2-clause-ports g c =
    let s = c.args.site.now in
    let st = c.requires.stands in
    as_many_there c.args.cells.now.ports.items c.exchange.new.cells.ports.items c.exchange.ensures.ports
    ∙ ports_and_states s c.args.cells.now.ports.items c.args.cells.now.states.items c.opening_is_valid.ensures st.furnished.states_are st.furnished.ports_are ∙ sym c.exchange.ensures.exchanged.long

pub look_begun-pass-requires-clause-own : goal.look_begun-pass-requires-clause-own
look_begun-pass-requires-clause-own g c =
    let st = c.requires.stands in
    let made = c.in-Ok-visit_channel.ensures {u = tt} in
    let v = c.in-Ok-visit_channel.visit in
    c.hub-held.ensures.own ∙ made.own ∙ st.own_is

pub look_crowded-pass-requires-clause-own : goal.look_crowded-pass-requires-clause-own
look_crowded-pass-requires-clause-own g c =
    let st = c.requires.stands in
    let made = c.in-Ok-visit_channel.ensures {u = tt} in
    let v = c.in-Ok-visit_channel.visit in
    c.hub-held.ensures.own ∙ made.own ∙ st.own_is

pub look-requires-clause-own : goal.look-requires-clause-own
look-requires-clause-own g c =
    let st = c.requires.stands in
    let made = c.in-Ok-visit_channel.ensures {u = tt} in
    let v = c.in-Ok-visit_channel.visit in
    c.hub-held.ensures.own ∙ made.own ∙ st.own_is

pub look_begun-pass-requires-clause-may : goal.look_begun-pass-requires-clause-may
look_begun-pass-requires-clause-may g c =
    let s = c.args.site.now in
    let st = c.requires.stands in
    let made = c.in-Ok-visit_channel.ensures {u = tt} in
    let v = c.in-Ok-visit_channel.visit in
    let h = c.hub-held.result in
    let w = is_watched c.looks_show_states.ensures c.args.pass.seat.me.0 v.seat.me.0 h.seat.me.0 h.hub s c.args.channel c.footprint_of.result.now (states_of v.cells.items) (states_of c.exchange.new.hand.items) c.exchange.new.cells.states.items
    c.args.cells.now.states.items made.visits c.hub-held.ensures.taken c.hub-held.ensures.found st.site_is st.furnished.states_are c.footprint_of.ensures c.exchange.ensures.exchanged in
    let again = all_again s c.args.channel (states_of v.cells.items) (states_of c.exchange.new.hand.items) c.exchange.new.cells.states.items w.exchanged c.footprint_of-2.result.now (states_of c.exchange.new.hand.items) (states_of c.exchange-2.new.hand.items)
    c.exchange.new.cells.states.items c.exchange-2.new.cells.states.items c.footprint_of-2.ensures refl refl c.exchange-2.ensures.exchanged in
    let begun = c.in-Ok-begin.ensures {u = tt} in
    let starts = begun.starts c.args.channel _ c.args.size _ c.requires.size (c.in-Ok-first.ensures {u = tt}) in
    let shown = ap (value_of s c.args.channel) c.as_slice-states.ensures.value ∙ w.shown in
    may_begin h.seat.me.0 h.hub _ _ (states_of v.cells.items) w.behind.has s c.in-Ok-begin.slot c.args.channel _ c.args.mask.now c.args.size c.as_slice-states.result.now w.site_is (c.in-Ok.ensures {u = tt}) starts shown
    h.cells.items (ap states_of c.hub-held.ensures.cells ∙ again.0) refl refl

pub look_begun-pass-requires-clause-mark : goal.look_begun-pass-requires-clause-mark
look_begun-pass-requires-clause-mark g c =
    refl

pub look_crowded-pass-requires-clause-may : goal.look_crowded-pass-requires-clause-may
look_crowded-pass-requires-clause-may g c =
    let s = c.args.site.now in
    let st = c.requires.stands in
    let made = c.in-Ok-visit_channel.ensures {u = tt} in
    let v = c.in-Ok-visit_channel.visit in
    let h = c.hub-held.result in
    let w = is_watched c.looks_show_states.ensures c.args.pass.seat.me.0 v.seat.me.0 h.seat.me.0 h.hub s c.args.channel c.footprint_of.result.now (states_of v.cells.items) (states_of c.exchange.new.hand.items) c.exchange.new.cells.states.items
    c.args.cells.now.states.items made.visits c.hub-held.ensures.taken c.hub-held.ensures.found st.site_is st.furnished.states_are c.footprint_of.ensures c.exchange.ensures.exchanged in
    let again = all_again s c.args.channel (states_of v.cells.items) (states_of c.exchange.new.hand.items) c.exchange.new.cells.states.items w.exchanged c.footprint_of-2.result.now (states_of c.exchange.new.hand.items) (states_of c.exchange-2.new.hand.items)
    c.exchange.new.cells.states.items c.exchange-2.new.cells.states.items c.footprint_of-2.ensures refl refl c.exchange-2.ensures.exchanged in
    let stand = subst (λ (z : SiteData). Stand (may_be_watched z) (channel_view z) c.begin.new.subs) (sym w.site_is) c.begin.ensures.stand in
    let failed = subst (λ (z : Result ℕ NotBegun). IfErr z (StartsNot h.hub.subs c.begin.new.subs)) c.in-Err-TooMany.is c.begin.ensures.starts_not in
    let known : c.in-Err-TooMany.field-0 ≡ TooMany = c.in-Err-TooMany.field-0-is in
    let starts_not = subst (StartsNot h.hub.subs c.begin.new.subs) known failed in
    may_crowd h.seat.me.0 h.hub _ _ (states_of v.cells.items) h.cells.items w.behind.has (ap states_of c.hub-held.ensures.cells ∙ again.0) refl refl stand starts_not

pub look_crowded-pass-requires-clause-mark : goal.look_crowded-pass-requires-clause-mark
look_crowded-pass-requires-clause-mark g c =
    refl

pub look-requires-clause-may : goal.look-requires-clause-may
look-requires-clause-may g c =
    let s = c.args.site.now in
    let st = c.requires.stands in
    let made = c.in-Ok-visit_channel.ensures {u = tt} in
    let v = c.in-Ok-visit_channel.visit in
    let h = c.hub-held.result in
    let w = is_watched c.looks_show_states.ensures c.args.pass.seat.me.0 v.seat.me.0 h.seat.me.0 h.hub s c.args.channel c.footprint_of.result.now (states_of v.cells.items) (states_of c.exchange.new.hand.items) c.exchange.new.cells.states.items
    c.args.cells.now.states.items made.visits c.hub-held.ensures.taken c.hub-held.ensures.found st.site_is st.furnished.states_are c.footprint_of.ensures c.exchange.ensures.exchanged in
    let again = all_again s c.args.channel (states_of v.cells.items) (states_of c.exchange.new.hand.items) c.exchange.new.cells.states.items w.exchanged c.footprint_of-2.result.now (states_of c.exchange.new.hand.items) (states_of c.exchange-2.new.hand.items)
    c.exchange.new.cells.states.items c.exchange-2.new.cells.states.items c.footprint_of-2.ensures refl refl c.exchange-2.ensures.exchanged in
    let stand = subst (λ (z : SiteData). Stand (may_be_watched z) (channel_view z) c.begin.new.subs) (sym w.site_is) c.begin.ensures.stand in
    let failed = subst (λ (z : Result ℕ NotBegun). IfErr z (StartsNot h.hub.subs c.begin.new.subs)) c.in-Err-NoMemory.is c.begin.ensures.starts_not in
    let known : c.in-Err-NoMemory.field-0 ≡ NoMemory = c.in-Err-NoMemory.field-0-is in
    let starts_not = subst (StartsNot h.hub.subs c.begin.new.subs) known failed in
    may_leave h.seat.me.0 h.hub _ _ (states_of v.cells.items) h.cells.items w.behind.has (ap states_of c.hub-held.ensures.cells ∙ again.0) refl refl stand starts_not

pub returns-in-Ok-begin-clause-stands : goal.returns-in-Ok-begin-clause-stands
returns-in-Ok-begin-clause-stands g c =
    let s = c.args.site.now in
    let st = c.requires.stands in
    let made = c.in-Ok-visit_channel.ensures {u = tt} in
    let v = c.in-Ok-visit_channel.visit in
    let h = c.hub-held.result in
    let w = is_watched c.looks_show_states.ensures c.args.pass.seat.me.0 v.seat.me.0 h.seat.me.0 h.hub s c.args.channel c.footprint_of.result.now (states_of v.cells.items) (states_of c.exchange.new.hand.items) c.exchange.new.cells.states.items
    c.args.cells.now.states.items made.visits c.hub-held.ensures.taken c.hub-held.ensures.found st.site_is st.furnished.states_are c.footprint_of.ensures c.exchange.ensures.exchanged in
    let again = all_again s c.args.channel (states_of v.cells.items) (states_of c.exchange.new.hand.items) c.exchange.new.cells.states.items w.exchanged c.footprint_of-2.result.now (states_of c.exchange.new.hand.items) (states_of c.exchange-2.new.hand.items)
    c.exchange.new.cells.states.items c.exchange-2.new.cells.states.items c.footprint_of-2.ensures refl refl c.exchange-2.ensures.exchanged in
    let begun = c.in-Ok-begin.ensures {u = tt} in
    let starts = begun.starts c.args.channel _ c.args.size _ c.requires.size (c.in-Ok-first.ensures {u = tt}) in
    let shown = ap (value_of s c.args.channel) c.as_slice-states.ensures.value ∙ w.shown in
    let u = c.look_begun-pass.result.seat.me.0 in
    let call = behind (seat_of c.args.pass.seat.me.0) (seat_of h.seat.me.0) (seat_of u) w.behind.others (AreSubscribe c.args.channel c.args.mask.now c.args.size (Ok (record { slot = c.in-Ok-begin.slot })))
    (begun_calls h.seat.me.0 h.hub (record { about = h.hub.about; limit = h.hub.limit; history = h.hub.history; subs = c.begin.new.subs; opening_is = h.hub.opening_is }) _ (states_of v.cells.items) w.behind.has s c.in-Ok-begin.slot c.args.channel _ c.args.mask.now c.args.size
    c.as_slice-states.result.now w.site_is (c.in-Ok.ensures {u = tt}) starts shown (seat_of u) c.look_begun-pass.ensures.marked) in
    stands_on _ _ s _ _ _ _ _ _ c.args.pass.seat.me.0 u st (again.1 ∙ sym st.furnished.states_are) (c.exchange-2.ensures.ports ∙ c.exchange.ensures.ports) (c.look_begun-pass.ensures.own ∙ c.hub-held.ensures.own ∙ made.own) _ call

pub returns-in-Ok-begin-clause-calls : goal.returns-in-Ok-begin-clause-calls
returns-in-Ok-begin-clause-calls g c =
    let s = c.args.site.now in
    let st = c.requires.stands in
    let made = c.in-Ok-visit_channel.ensures {u = tt} in
    let v = c.in-Ok-visit_channel.visit in
    let h = c.hub-held.result in
    let w = is_watched c.looks_show_states.ensures c.args.pass.seat.me.0 v.seat.me.0 h.seat.me.0 h.hub s c.args.channel c.footprint_of.result.now (states_of v.cells.items) (states_of c.exchange.new.hand.items) c.exchange.new.cells.states.items
    c.args.cells.now.states.items made.visits c.hub-held.ensures.taken c.hub-held.ensures.found st.site_is st.furnished.states_are c.footprint_of.ensures c.exchange.ensures.exchanged in
    let again = all_again s c.args.channel (states_of v.cells.items) (states_of c.exchange.new.hand.items) c.exchange.new.cells.states.items w.exchanged c.footprint_of-2.result.now (states_of c.exchange.new.hand.items) (states_of c.exchange-2.new.hand.items)
    c.exchange.new.cells.states.items c.exchange-2.new.cells.states.items c.footprint_of-2.ensures refl refl c.exchange-2.ensures.exchanged in
    let begun = c.in-Ok-begin.ensures {u = tt} in
    let starts = begun.starts c.args.channel _ c.args.size _ c.requires.size (c.in-Ok-first.ensures {u = tt}) in
    let shown = ap (value_of s c.args.channel) c.as_slice-states.ensures.value ∙ w.shown in
    let u = c.look_begun-pass.result.seat.me.0 in
    let call = behind (seat_of c.args.pass.seat.me.0) (seat_of h.seat.me.0) (seat_of u) w.behind.others (AreSubscribe c.args.channel c.args.mask.now c.args.size (Ok (record { slot = c.in-Ok-begin.slot })))
    (begun_calls h.seat.me.0 h.hub (record { about = h.hub.about; limit = h.hub.limit; history = h.hub.history; subs = c.begin.new.subs; opening_is = h.hub.opening_is }) _ (states_of v.cells.items) w.behind.has s c.in-Ok-begin.slot c.args.channel _ c.args.mask.now c.args.size
    c.as_slice-states.result.now w.site_is (c.in-Ok.ensures {u = tt}) starts shown (seat_of u) c.look_begun-pass.ensures.marked) in
    call

pub returns-in-Ok-begin-clause-rolled : goal.returns-in-Ok-begin-clause-rolled
returns-in-Ok-begin-clause-rolled g c =
    let s = c.args.site.now in
    let st = c.requires.stands in
    let made = c.in-Ok-visit_channel.ensures {u = tt} in
    let v = c.in-Ok-visit_channel.visit in
    let h = c.hub-held.result in
    let w = is_watched c.looks_show_states.ensures c.args.pass.seat.me.0 v.seat.me.0 h.seat.me.0 h.hub s c.args.channel c.footprint_of.result.now (states_of v.cells.items) (states_of c.exchange.new.hand.items) c.exchange.new.cells.states.items
    c.args.cells.now.states.items made.visits c.hub-held.ensures.taken c.hub-held.ensures.found st.site_is st.furnished.states_are c.footprint_of.ensures c.exchange.ensures.exchanged in
    let again = all_again s c.args.channel (states_of v.cells.items) (states_of c.exchange.new.hand.items) c.exchange.new.cells.states.items w.exchanged c.footprint_of-2.result.now (states_of c.exchange.new.hand.items) (states_of c.exchange-2.new.hand.items)
    c.exchange.new.cells.states.items c.exchange-2.new.cells.states.items c.footprint_of-2.ensures refl refl c.exchange-2.ensures.exchanged in
    let begun = c.in-Ok-begin.ensures {u = tt} in
    let starts = begun.starts c.args.channel _ c.args.size _ c.requires.size (c.in-Ok-first.ensures {u = tt}) in
    let shown = ap (value_of s c.args.channel) c.as_slice-states.ensures.value ∙ w.shown in
    let u = c.look_begun-pass.result.seat.me.0 in
    begun_rolled h.seat.me.0 h.hub (record { about = h.hub.about; limit = h.hub.limit; history = h.hub.history; subs = c.begin.new.subs; opening_is = h.hub.opening_is }) _ (states_of v.cells.items) w.behind.has s c.in-Ok-begin.slot c.args.channel _ c.args.mask.now c.args.size c.as_slice-states.result.now w.site_is (c.in-Ok.ensures {u = tt}) starts shown (seat_of u) c.look_begun-pass.ensures.marked

pub returns-in-Ok-begin-clause-ends : goal.returns-in-Ok-begin-clause-ends
returns-in-Ok-begin-clause-ends g c =
    let s = c.args.site.now in
    let st = c.requires.stands in
    let made = c.in-Ok-visit_channel.ensures {u = tt} in
    let v = c.in-Ok-visit_channel.visit in
    let h = c.hub-held.result in
    let w = is_watched c.looks_show_states.ensures c.args.pass.seat.me.0 v.seat.me.0 h.seat.me.0 h.hub s c.args.channel c.footprint_of.result.now (states_of v.cells.items) (states_of c.exchange.new.hand.items) c.exchange.new.cells.states.items
    c.args.cells.now.states.items made.visits c.hub-held.ensures.taken c.hub-held.ensures.found st.site_is st.furnished.states_are c.footprint_of.ensures c.exchange.ensures.exchanged in
    let again = all_again s c.args.channel (states_of v.cells.items) (states_of c.exchange.new.hand.items) c.exchange.new.cells.states.items w.exchanged c.footprint_of-2.result.now (states_of c.exchange.new.hand.items) (states_of c.exchange-2.new.hand.items)
    c.exchange.new.cells.states.items c.exchange-2.new.cells.states.items c.footprint_of-2.ensures refl refl c.exchange-2.ensures.exchanged in
    let begun = c.in-Ok-begin.ensures {u = tt} in
    let starts = begun.starts c.args.channel _ c.args.size _ c.requires.size (c.in-Ok-first.ensures {u = tt}) in
    let shown = ap (value_of s c.args.channel) c.as_slice-states.ensures.value ∙ w.shown in
    let u = c.look_begun-pass.result.seat.me.0 in
    ends_behind (seat_of c.args.pass.seat.me.0) (seat_of h.seat.me.0) (seat_of u) w.behind.others (begun_ends h.seat.me.0 h.hub (record { about = h.hub.about; limit = h.hub.limit; history = h.hub.history; subs = c.begin.new.subs; opening_is = h.hub.opening_is }) _ (states_of v.cells.items) w.behind.has s c.in-Ok-begin.slot c.args.channel _ c.args.mask.now c.args.size c.as_slice-states.result.now w.site_is (c.in-Ok.ensures {u = tt}) starts shown (seat_of u) c.look_begun-pass.ensures.marked)

pub returns-in-Err-TooMany-clause-stands : goal.returns-in-Err-TooMany-clause-stands
returns-in-Err-TooMany-clause-stands g c =
    let s = c.args.site.now in
    let st = c.requires.stands in
    let made = c.in-Ok-visit_channel.ensures {u = tt} in
    let v = c.in-Ok-visit_channel.visit in
    let h = c.hub-held.result in
    let w = is_watched c.looks_show_states.ensures c.args.pass.seat.me.0 v.seat.me.0 h.seat.me.0 h.hub s c.args.channel c.footprint_of.result.now (states_of v.cells.items) (states_of c.exchange.new.hand.items) c.exchange.new.cells.states.items
    c.args.cells.now.states.items made.visits c.hub-held.ensures.taken c.hub-held.ensures.found st.site_is st.furnished.states_are c.footprint_of.ensures c.exchange.ensures.exchanged in
    let again = all_again s c.args.channel (states_of v.cells.items) (states_of c.exchange.new.hand.items) c.exchange.new.cells.states.items w.exchanged c.footprint_of-2.result.now (states_of c.exchange.new.hand.items) (states_of c.exchange-2.new.hand.items)
    c.exchange.new.cells.states.items c.exchange-2.new.cells.states.items c.footprint_of-2.ensures refl refl c.exchange-2.ensures.exchanged in
    let stand = subst (λ (z : SiteData). Stand (may_be_watched z) (channel_view z) c.begin.new.subs) (sym w.site_is) c.begin.ensures.stand in
    let failed = subst (λ (z : Result ℕ NotBegun). IfErr z (StartsNot h.hub.subs c.begin.new.subs)) c.in-Err-TooMany.is c.begin.ensures.starts_not in
    let known : c.in-Err-TooMany.field-0 ≡ TooMany = c.in-Err-TooMany.field-0-is in
    let starts_not = subst (StartsNot h.hub.subs c.begin.new.subs) known failed in
    let u = c.look_crowded-pass.result.seat.me.0 in
    let told : IsNotBegunNow (seat_of h.seat.me.0) (seat_of u) TooMany (answers.TooManyMonitors 1024) = (refl, c.look_crowded-pass.ensures.marked) in
    let call = unbegun c.args.pass.seat.me.0 h.seat.me.0 u h.hub _ _ w.behind c.begin.new.subs stand TooMany (answers.TooManyMonitors 1024) told c.args.channel c.args.mask.now c.args.size starts_not in
    stands_on _ _ s _ _ _ _ _ _ c.args.pass.seat.me.0 u st (again.1 ∙ sym st.furnished.states_are) (c.exchange-2.ensures.ports ∙ c.exchange.ensures.ports) (c.look_crowded-pass.ensures.own ∙ c.hub-held.ensures.own ∙ made.own) _ call

pub returns-in-Err-TooMany-clause-calls : goal.returns-in-Err-TooMany-clause-calls
returns-in-Err-TooMany-clause-calls g c =
    let s = c.args.site.now in
    let st = c.requires.stands in
    let made = c.in-Ok-visit_channel.ensures {u = tt} in
    let v = c.in-Ok-visit_channel.visit in
    let h = c.hub-held.result in
    let w = is_watched c.looks_show_states.ensures c.args.pass.seat.me.0 v.seat.me.0 h.seat.me.0 h.hub s c.args.channel c.footprint_of.result.now (states_of v.cells.items) (states_of c.exchange.new.hand.items) c.exchange.new.cells.states.items
    c.args.cells.now.states.items made.visits c.hub-held.ensures.taken c.hub-held.ensures.found st.site_is st.furnished.states_are c.footprint_of.ensures c.exchange.ensures.exchanged in
    let again = all_again s c.args.channel (states_of v.cells.items) (states_of c.exchange.new.hand.items) c.exchange.new.cells.states.items w.exchanged c.footprint_of-2.result.now (states_of c.exchange.new.hand.items) (states_of c.exchange-2.new.hand.items)
    c.exchange.new.cells.states.items c.exchange-2.new.cells.states.items c.footprint_of-2.ensures refl refl c.exchange-2.ensures.exchanged in
    let stand = subst (λ (z : SiteData). Stand (may_be_watched z) (channel_view z) c.begin.new.subs) (sym w.site_is) c.begin.ensures.stand in
    let failed = subst (λ (z : Result ℕ NotBegun). IfErr z (StartsNot h.hub.subs c.begin.new.subs)) c.in-Err-TooMany.is c.begin.ensures.starts_not in
    let known : c.in-Err-TooMany.field-0 ≡ TooMany = c.in-Err-TooMany.field-0-is in
    let starts_not = subst (StartsNot h.hub.subs c.begin.new.subs) known failed in
    let u = c.look_crowded-pass.result.seat.me.0 in
    let told : IsNotBegunNow (seat_of h.seat.me.0) (seat_of u) TooMany (answers.TooManyMonitors 1024) = (refl, c.look_crowded-pass.ensures.marked) in
    let call = unbegun c.args.pass.seat.me.0 h.seat.me.0 u h.hub _ _ w.behind c.begin.new.subs stand TooMany (answers.TooManyMonitors 1024) told c.args.channel c.args.mask.now c.args.size starts_not in
    call

pub returns-in-Err-TooMany-clause-rolled : goal.returns-in-Err-TooMany-clause-rolled
returns-in-Err-TooMany-clause-rolled g c =
    let s = c.args.site.now in
    let st = c.requires.stands in
    let made = c.in-Ok-visit_channel.ensures {u = tt} in
    let v = c.in-Ok-visit_channel.visit in
    let h = c.hub-held.result in
    let w = is_watched c.looks_show_states.ensures c.args.pass.seat.me.0 v.seat.me.0 h.seat.me.0 h.hub s c.args.channel c.footprint_of.result.now (states_of v.cells.items) (states_of c.exchange.new.hand.items) c.exchange.new.cells.states.items
    c.args.cells.now.states.items made.visits c.hub-held.ensures.taken c.hub-held.ensures.found st.site_is st.furnished.states_are c.footprint_of.ensures c.exchange.ensures.exchanged in
    let again = all_again s c.args.channel (states_of v.cells.items) (states_of c.exchange.new.hand.items) c.exchange.new.cells.states.items w.exchanged c.footprint_of-2.result.now (states_of c.exchange.new.hand.items) (states_of c.exchange-2.new.hand.items)
    c.exchange.new.cells.states.items c.exchange-2.new.cells.states.items c.footprint_of-2.ensures refl refl c.exchange-2.ensures.exchanged in
    let stand = subst (λ (z : SiteData). Stand (may_be_watched z) (channel_view z) c.begin.new.subs) (sym w.site_is) c.begin.ensures.stand in
    let failed = subst (λ (z : Result ℕ NotBegun). IfErr z (StartsNot h.hub.subs c.begin.new.subs)) c.in-Err-TooMany.is c.begin.ensures.starts_not in
    let known : c.in-Err-TooMany.field-0 ≡ TooMany = c.in-Err-TooMany.field-0-is in
    let starts_not = subst (StartsNot h.hub.subs c.begin.new.subs) known failed in
    let u = c.look_crowded-pass.result.seat.me.0 in
    let told : IsNotBegunNow (seat_of h.seat.me.0) (seat_of u) TooMany (answers.TooManyMonitors 1024) = (refl, c.look_crowded-pass.ensures.marked) in
    let call = unbegun c.args.pass.seat.me.0 h.seat.me.0 u h.hub _ _ w.behind c.begin.new.subs stand TooMany (answers.TooManyMonitors 1024) told c.args.channel c.args.mask.now c.args.size starts_not in
    unbegun_rolled c.args.pass.seat.me.0 h.seat.me.0 u h.hub _ _ w.behind c.begin.new.subs stand TooMany (answers.TooManyMonitors 1024) told

pub returns-in-Err-TooMany-clause-ends : goal.returns-in-Err-TooMany-clause-ends
returns-in-Err-TooMany-clause-ends g c =
    let s = c.args.site.now in
    let st = c.requires.stands in
    let made = c.in-Ok-visit_channel.ensures {u = tt} in
    let v = c.in-Ok-visit_channel.visit in
    let h = c.hub-held.result in
    let w = is_watched c.looks_show_states.ensures c.args.pass.seat.me.0 v.seat.me.0 h.seat.me.0 h.hub s c.args.channel c.footprint_of.result.now (states_of v.cells.items) (states_of c.exchange.new.hand.items) c.exchange.new.cells.states.items
    c.args.cells.now.states.items made.visits c.hub-held.ensures.taken c.hub-held.ensures.found st.site_is st.furnished.states_are c.footprint_of.ensures c.exchange.ensures.exchanged in
    let again = all_again s c.args.channel (states_of v.cells.items) (states_of c.exchange.new.hand.items) c.exchange.new.cells.states.items w.exchanged c.footprint_of-2.result.now (states_of c.exchange.new.hand.items) (states_of c.exchange-2.new.hand.items)
    c.exchange.new.cells.states.items c.exchange-2.new.cells.states.items c.footprint_of-2.ensures refl refl c.exchange-2.ensures.exchanged in
    let stand = subst (λ (z : SiteData). Stand (may_be_watched z) (channel_view z) c.begin.new.subs) (sym w.site_is) c.begin.ensures.stand in
    let failed = subst (λ (z : Result ℕ NotBegun). IfErr z (StartsNot h.hub.subs c.begin.new.subs)) c.in-Err-TooMany.is c.begin.ensures.starts_not in
    let known : c.in-Err-TooMany.field-0 ≡ TooMany = c.in-Err-TooMany.field-0-is in
    let starts_not = subst (StartsNot h.hub.subs c.begin.new.subs) known failed in
    let u = c.look_crowded-pass.result.seat.me.0 in
    let told : IsNotBegunNow (seat_of h.seat.me.0) (seat_of u) TooMany (answers.TooManyMonitors 1024) = (refl, c.look_crowded-pass.ensures.marked) in
    let call = unbegun c.args.pass.seat.me.0 h.seat.me.0 u h.hub _ _ w.behind c.begin.new.subs stand TooMany (answers.TooManyMonitors 1024) told c.args.channel c.args.mask.now c.args.size starts_not in
    unbegun_ends c.args.pass.seat.me.0 h.seat.me.0 u h.hub _ _ w.behind c.begin.new.subs stand TooMany (answers.TooManyMonitors 1024) told

pub returns-in-Err-NoMemory-clause-stands : goal.returns-in-Err-NoMemory-clause-stands
returns-in-Err-NoMemory-clause-stands g c =
    let s = c.args.site.now in
    let st = c.requires.stands in
    let made = c.in-Ok-visit_channel.ensures {u = tt} in
    let v = c.in-Ok-visit_channel.visit in
    let h = c.hub-held.result in
    let w = is_watched c.looks_show_states.ensures c.args.pass.seat.me.0 v.seat.me.0 h.seat.me.0 h.hub s c.args.channel c.footprint_of.result.now (states_of v.cells.items) (states_of c.exchange.new.hand.items) c.exchange.new.cells.states.items
    c.args.cells.now.states.items made.visits c.hub-held.ensures.taken c.hub-held.ensures.found st.site_is st.furnished.states_are c.footprint_of.ensures c.exchange.ensures.exchanged in
    let again = all_again s c.args.channel (states_of v.cells.items) (states_of c.exchange.new.hand.items) c.exchange.new.cells.states.items w.exchanged c.footprint_of-2.result.now (states_of c.exchange.new.hand.items) (states_of c.exchange-2.new.hand.items)
    c.exchange.new.cells.states.items c.exchange-2.new.cells.states.items c.footprint_of-2.ensures refl refl c.exchange-2.ensures.exchanged in
    let stand = subst (λ (z : SiteData). Stand (may_be_watched z) (channel_view z) c.begin.new.subs) (sym w.site_is) c.begin.ensures.stand in
    let failed = subst (λ (z : Result ℕ NotBegun). IfErr z (StartsNot h.hub.subs c.begin.new.subs)) c.in-Err-NoMemory.is c.begin.ensures.starts_not in
    let known : c.in-Err-NoMemory.field-0 ≡ NoMemory = c.in-Err-NoMemory.field-0-is in
    let starts_not = subst (StartsNot h.hub.subs c.begin.new.subs) known failed in
    let u = c.look.result.seat.me.0 in
    let told : IsNotBegunNow (seat_of h.seat.me.0) (seat_of u) NoMemory answers.NoMemory = (refl, unmarked h.seat.me.0 c.look.result.seat.me.0 c.look.ensures.number c.look.ensures.seen c.look.ensures.log) in
    let call = unbegun c.args.pass.seat.me.0 h.seat.me.0 u h.hub _ _ w.behind c.begin.new.subs stand NoMemory (answers.NoMemory) told c.args.channel c.args.mask.now c.args.size starts_not in
    stands_on _ _ s _ _ _ _ _ _ c.args.pass.seat.me.0 u st (again.1 ∙ sym st.furnished.states_are) (c.exchange-2.ensures.ports ∙ c.exchange.ensures.ports) (c.look.ensures.own ∙ c.hub-held.ensures.own ∙ made.own) _ call

pub returns-in-Err-NoMemory-clause-calls : goal.returns-in-Err-NoMemory-clause-calls
returns-in-Err-NoMemory-clause-calls g c =
    let s = c.args.site.now in
    let st = c.requires.stands in
    let made = c.in-Ok-visit_channel.ensures {u = tt} in
    let v = c.in-Ok-visit_channel.visit in
    let h = c.hub-held.result in
    let w = is_watched c.looks_show_states.ensures c.args.pass.seat.me.0 v.seat.me.0 h.seat.me.0 h.hub s c.args.channel c.footprint_of.result.now (states_of v.cells.items) (states_of c.exchange.new.hand.items) c.exchange.new.cells.states.items
    c.args.cells.now.states.items made.visits c.hub-held.ensures.taken c.hub-held.ensures.found st.site_is st.furnished.states_are c.footprint_of.ensures c.exchange.ensures.exchanged in
    let again = all_again s c.args.channel (states_of v.cells.items) (states_of c.exchange.new.hand.items) c.exchange.new.cells.states.items w.exchanged c.footprint_of-2.result.now (states_of c.exchange.new.hand.items) (states_of c.exchange-2.new.hand.items)
    c.exchange.new.cells.states.items c.exchange-2.new.cells.states.items c.footprint_of-2.ensures refl refl c.exchange-2.ensures.exchanged in
    let stand = subst (λ (z : SiteData). Stand (may_be_watched z) (channel_view z) c.begin.new.subs) (sym w.site_is) c.begin.ensures.stand in
    let failed = subst (λ (z : Result ℕ NotBegun). IfErr z (StartsNot h.hub.subs c.begin.new.subs)) c.in-Err-NoMemory.is c.begin.ensures.starts_not in
    let known : c.in-Err-NoMemory.field-0 ≡ NoMemory = c.in-Err-NoMemory.field-0-is in
    let starts_not = subst (StartsNot h.hub.subs c.begin.new.subs) known failed in
    let u = c.look.result.seat.me.0 in
    let told : IsNotBegunNow (seat_of h.seat.me.0) (seat_of u) NoMemory answers.NoMemory = (refl, unmarked h.seat.me.0 c.look.result.seat.me.0 c.look.ensures.number c.look.ensures.seen c.look.ensures.log) in
    let call = unbegun c.args.pass.seat.me.0 h.seat.me.0 u h.hub _ _ w.behind c.begin.new.subs stand NoMemory (answers.NoMemory) told c.args.channel c.args.mask.now c.args.size starts_not in
    call

pub returns-in-Err-clause-others : goal.returns-in-Err-clause-others
returns-in-Err-clause-others g c = ap (λ p. p.seat.me.0.others) (c.in-Err.ensures {u = tt}).back

pub returns-in-Ok-begin-clause-others : goal.returns-in-Ok-begin-clause-others
returns-in-Ok-begin-clause-others g c = c.look_begun-pass.ensures.others ∙ c.hub-held.ensures.others ∙ (c.in-Ok-visit_channel.ensures {u = tt}).others

pub returns-in-Err-TooMany-clause-others : goal.returns-in-Err-TooMany-clause-others
returns-in-Err-TooMany-clause-others g c = c.look_crowded-pass.ensures.others ∙ c.hub-held.ensures.others ∙ (c.in-Ok-visit_channel.ensures {u = tt}).others

pub returns-in-Err-NoMemory-clause-others : goal.returns-in-Err-NoMemory-clause-others
returns-in-Err-NoMemory-clause-others g c = c.look.ensures.others ∙ c.hub-held.ensures.others ∙ (c.in-Ok-visit_channel.ensures {u = tt}).others
