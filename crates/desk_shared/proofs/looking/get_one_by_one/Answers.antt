use Rattle.std.proofs.Common.{◌≡◌, ◌∙◌, ◌<◌, ℕ, List, [], ◌∷◌, Result, Ok, Err, length, sym, ap, subst}
use Rattle.std.specs.List.{AllByRecursion}
use Rattle.std.specs.Prelude.{IfOk, OnOk, true}
use Rattle.pvd_type.specs.declared.memory.NoMemory.{NoMemory}
use Rattle.pvd_value.specs.Fits.{fits_of}
use Rattle.pvd_value.specs.View.{view}
use Rattle.rec_kinds.specs.declared.state.RecState.{RecState}
use Rattle.journal_core.specs.Legality.{AreValid}
use Rattle.desk_api.specs.Calls.{AreGet, Calls, EndsAtItsMarks}
use Rattle.desk_api.specs.Marks.{IsLookOf}
use Rattle.desk_api.specs.Types.{type_of}
use Rattle.desk_api.specs.Views.{value_of}
use Rattle.desk_api.specs.declared.history.SiteData.{SiteData}
use Rattle.desk_core.specs.Effects.{restored}
use Rattle.desk_core.specs.Ports.{ports_there}
use Rattle.desk_core.proofs.Reading.{below}
use Rattle.desk_shared.specs.Looks.{AreLookedAt}
use Rattle.desk_shared.specs.Records.{seat_of}
use Rattle.desk_shared.proofs.Behind.{stands_on}
use Rattle.desk_shared.proofs.Looked.{looks_apart, on_any, shown_apart, stopped_apart}
use Rattle.desk_shared.proofs.looking.get_one_by_one.Goals as goal

pub footprint_of-recs-requires : goal.footprint_of-recs-requires
footprint_of-recs-requires g c =
    c.requires.channel

pub look_at_each-pass-requires-clause-own : goal.look_at_each-pass-requires-clause-own
look_at_each-pass-requires-clause-own g c =
    c.requires.stands.own_is

pub look_at_each-pass-requires-clause-site : goal.look_at_each-pass-requires-clause-site
look_at_each-pass-requires-clause-site g c =
    c.requires.stands.site_is

pub look_at_each-pass-requires-clause-legal : goal.look_at_each-pass-requires-clause-legal
look_at_each-pass-requires-clause-legal g c =
    c.requires.stands.legal

pub look_at_each-pass-requires-clause-count : goal.look_at_each-pass-requires-clause-count
look_at_each-pass-requires-clause-count g c =
    c.requires.stands.furnished.count_is

pub look_at_each-pass-requires-clause-looks : goal.look_at_each-pass-requires-clause-looks
look_at_each-pass-requires-clause-looks g c =
    let s = c.args.site.now in
    subst (AllByRecursion (λ (rec : ℕ). IsLookOf s c.args.channel (rec ∷ []))) (sym c.footprint_of-recs.ensures) (looks_apart s c.args.channel c.args.atomic c.requires.apart)

pub look_at_each-pass-requires-clause-recs : goal.look_at_each-pass-requires-clause-recs
look_at_each-pass-requires-clause-recs g c =
    let s = c.args.site.now in
    subst (AllByRecursion (λ (rec : ℕ). rec < length s.names)) (sym c.footprint_of-recs.ensures) (below s c.args.channel (length s.names) c.groups_over_records.ensures c.names_and_configs.ensures.same (sym c.names_and_configs.ensures.same) c.requires.channel)

pub look_at_each-pass-requires-clause-valid : goal.look_at_each-pass-requires-clause-valid
look_at_each-pass-requires-clause-valid g c =
    subst (AreValid c.args.site.now.configs) (sym c.requires.stands.furnished.states_are) c.opening_is_valid.ensures

pub look_at_each-pass-requires-clause-restorable : goal.look_at_each-pass-requires-clause-restorable
look_at_each-pass-requires-clause-restorable g c =
    record {
      back_is = ap (restored c.args.cells.now.states.items) c.clear.ensures.items ∙ c.requires.stands.furnished.states_are;
      within = subst (AllByRecursion (λ (held : ℕ × RecState). held.0 < length c.args.cells.now.states.items)) (sym c.clear.ensures.items) tt;
    }

pub view-shown-requires-clause-channel : goal.view-shown-requires-clause-channel
view-shown-requires-clause-channel g c =
    c.requires.channel

pub view-shown-requires-clause-valid : goal.view-shown-requires-clause-valid
view-shown-requires-clause-valid g c =
    subst (AreValid c.args.site.now.configs) (sym c.as_slice.ensures.value) c.look_at_each-pass.ensures.valid

pub restore-requires : goal.restore-requires
restore-requires g c =
    c.look_at_each-pass.ensures.restorable.within

pub restore-requires-in-Err : goal.restore-requires-in-Err
restore-requires-in-Err g c =
    c.look_at_each-pass.ensures.restorable.within

pub returns-in-Ok-clause-stands : goal.returns-in-Ok-clause-stands
returns-in-Ok-clause-stands g c =
    let s = c.args.site.now in
    let st = c.requires.stands in
    let look = subst (λ (z : Result (Unit {0}) NoMemory). Calls (seat_of c.args.pass.seat.me.0) (seat_of c.look_at_each-pass.result.0.seat.me.0) (AreLookedAt c.args.channel c.footprint_of-recs.result.now c.args.cells.now.states.items c.look_at_each-pass.new.cells.states.items z)) c.in-Ok.is c.look_at_each-pass.ensures.calls in
    let all = subst (λ (l : List ℕ). Calls (seat_of c.args.pass.seat.me.0) (seat_of c.look_at_each-pass.result.0.seat.me.0) (AreLookedAt {A = Unit {0}} c.args.channel l c.args.cells.now.states.items c.look_at_each-pass.new.cells.states.items (Ok tt))) c.footprint_of-recs.ensures look in
    let shown = subst (λ (l : List RecState). IfOk c.view-shown.result (λ v. view v ≡ value_of s c.args.channel l)) c.as_slice.ensures.value c.view-shown.ensures.shown in
    let call = subst (λ (z : SiteData). Calls (seat_of c.args.pass.seat.me.0) (seat_of c.look_at_each-pass.result.0.seat.me.0) (AreGet z c.args.channel c.args.atomic c.view-shown.result)) (sym st.site_is)
    (shown_apart s c.args.channel c.args.atomic c.requires.apart (seat_of c.args.pass.seat.me.0) (seat_of c.look_at_each-pass.result.0.seat.me.0) c.args.cells.now.states.items c.look_at_each-pass.new.cells.states.items st.furnished.states_are all c.view-shown.result shown) in
    stands_on _ _ s _ _ _ _ _ _ c.args.pass.seat.me.0 c.look_at_each-pass.result.0.seat.me.0 st (c.restore.ensures.states ∙ c.look_at_each-pass.ensures.restorable.back_is ∙ sym st.furnished.states_are) (ap ports_there (c.restore.ensures.ports ∙ c.look_at_each-pass.ensures.ports)) c.look_at_each-pass.ensures.own _ call

pub returns-in-Ok-clause-calls : goal.returns-in-Ok-clause-calls
returns-in-Ok-clause-calls g c =
    let s = c.args.site.now in
    let st = c.requires.stands in
    let look = subst (λ (z : Result (Unit {0}) NoMemory). Calls (seat_of c.args.pass.seat.me.0) (seat_of c.look_at_each-pass.result.0.seat.me.0) (AreLookedAt c.args.channel c.footprint_of-recs.result.now c.args.cells.now.states.items c.look_at_each-pass.new.cells.states.items z)) c.in-Ok.is c.look_at_each-pass.ensures.calls in
    let all = subst (λ (l : List ℕ). Calls (seat_of c.args.pass.seat.me.0) (seat_of c.look_at_each-pass.result.0.seat.me.0) (AreLookedAt {A = Unit {0}} c.args.channel l c.args.cells.now.states.items c.look_at_each-pass.new.cells.states.items (Ok tt))) c.footprint_of-recs.ensures look in
    let shown = subst (λ (l : List RecState). IfOk c.view-shown.result (λ v. view v ≡ value_of s c.args.channel l)) c.as_slice.ensures.value c.view-shown.ensures.shown in
    let call = subst (λ (z : SiteData). Calls (seat_of c.args.pass.seat.me.0) (seat_of c.look_at_each-pass.result.0.seat.me.0) (AreGet z c.args.channel c.args.atomic c.view-shown.result)) (sym st.site_is)
    (shown_apart s c.args.channel c.args.atomic c.requires.apart (seat_of c.args.pass.seat.me.0) (seat_of c.look_at_each-pass.result.0.seat.me.0) c.args.cells.now.states.items c.look_at_each-pass.new.cells.states.items st.furnished.states_are all c.view-shown.result shown) in
    call

pub returns-in-Ok-clause-ends : goal.returns-in-Ok-clause-ends
returns-in-Ok-clause-ends g c =
    on_any (EndsAtItsMarks (seat_of c.args.pass.seat.me.0) (seat_of c.look_at_each-pass.result.0.seat.me.0)) c.view-shown.result
    (subst (λ (z : Result (Unit {0}) NoMemory). OnOk z (EndsAtItsMarks (seat_of c.args.pass.seat.me.0) (seat_of c.look_at_each-pass.result.0.seat.me.0))) c.in-Ok.is c.look_at_each-pass.ensures.ends)

pub returns-in-Ok-clause-fits : goal.returns-in-Ok-clause-fits
returns-in-Ok-clause-fits g c =
    let s = c.args.site.now in
    subst (λ (z : SiteData). IfOk c.view-shown.result (λ v. fits_of 16 (view v) (type_of z c.args.channel) ≡ true)) (sym c.requires.stands.site_is) c.view-shown.ensures.fits

pub returns-in-Err-clause-stands : goal.returns-in-Err-clause-stands
returns-in-Err-clause-stands g c =
    let s = c.args.site.now in
    let st = c.requires.stands in
    let look = subst (λ (z : Result (Unit {0}) NoMemory). Calls (seat_of c.args.pass.seat.me.0) (seat_of c.look_at_each-pass.result.0.seat.me.0) (AreLookedAt c.args.channel c.footprint_of-recs.result.now c.args.cells.now.states.items c.look_at_each-pass.new.cells.states.items z)) c.in-Err.is c.look_at_each-pass.ensures.calls in
    let all = subst (λ (l : List ℕ). Calls (seat_of c.args.pass.seat.me.0) (seat_of c.look_at_each-pass.result.0.seat.me.0) (AreLookedAt {A = Unit {0}} c.args.channel l c.args.cells.now.states.items c.look_at_each-pass.new.cells.states.items (Err c.in-Err.no_memory))) c.footprint_of-recs.ensures look in
    let call = subst (λ (z : SiteData). Calls (seat_of c.args.pass.seat.me.0) (seat_of c.look_at_each-pass.result.0.seat.me.0) (AreGet z c.args.channel c.args.atomic (Err c.in-Err.no_memory))) (sym st.site_is)
    (stopped_apart s c.args.channel c.args.atomic c.requires.apart (seat_of c.args.pass.seat.me.0) (seat_of c.look_at_each-pass.result.0.seat.me.0) c.args.cells.now.states.items c.look_at_each-pass.new.cells.states.items st.furnished.states_are (Unit {0}) c.in-Err.no_memory c.in-Err.no_memory all) in
    stands_on _ _ s _ _ _ _ _ _ c.args.pass.seat.me.0 c.look_at_each-pass.result.0.seat.me.0 st (c.restore-in-Err.ensures.states ∙ c.look_at_each-pass.ensures.restorable.back_is ∙ sym st.furnished.states_are) (ap ports_there (c.restore-in-Err.ensures.ports ∙ c.look_at_each-pass.ensures.ports)) c.look_at_each-pass.ensures.own _ call

pub returns-in-Err-clause-calls : goal.returns-in-Err-clause-calls
returns-in-Err-clause-calls g c =
    let s = c.args.site.now in
    let st = c.requires.stands in
    let look = subst (λ (z : Result (Unit {0}) NoMemory). Calls (seat_of c.args.pass.seat.me.0) (seat_of c.look_at_each-pass.result.0.seat.me.0) (AreLookedAt c.args.channel c.footprint_of-recs.result.now c.args.cells.now.states.items c.look_at_each-pass.new.cells.states.items z)) c.in-Err.is c.look_at_each-pass.ensures.calls in
    let all = subst (λ (l : List ℕ). Calls (seat_of c.args.pass.seat.me.0) (seat_of c.look_at_each-pass.result.0.seat.me.0) (AreLookedAt {A = Unit {0}} c.args.channel l c.args.cells.now.states.items c.look_at_each-pass.new.cells.states.items (Err c.in-Err.no_memory))) c.footprint_of-recs.ensures look in
    let call = subst (λ (z : SiteData). Calls (seat_of c.args.pass.seat.me.0) (seat_of c.look_at_each-pass.result.0.seat.me.0) (AreGet z c.args.channel c.args.atomic (Err c.in-Err.no_memory))) (sym st.site_is)
    (stopped_apart s c.args.channel c.args.atomic c.requires.apart (seat_of c.args.pass.seat.me.0) (seat_of c.look_at_each-pass.result.0.seat.me.0) c.args.cells.now.states.items c.look_at_each-pass.new.cells.states.items st.furnished.states_are (Unit {0}) c.in-Err.no_memory c.in-Err.no_memory all) in
    call

pub returns-in-Ok-clause-others : goal.returns-in-Ok-clause-others
returns-in-Ok-clause-others g c = c.look_at_each-pass.ensures.others

pub returns-in-Err-clause-others : goal.returns-in-Err-clause-others
returns-in-Err-clause-others g c = c.look_at_each-pass.ensures.others
