use Rattle.std.proofs.Common.{◌≡◌, ◌∙◌, ◌<◌, ℕ, List, [], ◌∷◌, Some, inr, length, refl, sym, ap, subst, arith}
use Rattle.std.specs.List.{AllByRecursion}
use Rattle.rec_kinds.specs.declared.state.RecState.{RecState}
use Rattle.hall_locks.specs.Hands.{MayLook}
use Rattle.journal_core.specs.Legality.{AreValid}
use Rattle.desk_api.specs.Calls.{now, with_mark}
use Rattle.desk_api.specs.History.{state_at}
use Rattle.desk_api.specs.Marks.{IsLookOf}
use Rattle.desk_api.specs.declared.history.SiteData.{SiteData}
use Rattle.desk_api.specs.declared.mark.Mark.TheVariants.{Read}
use Rattle.desk_api.specs.Views.{AreStatesOf}
use Rattle.desk_api.proofs.Adding.{adds_nothing}
use Rattle.desk_core.proofs.Listing.{got, valid_count}
use Rattle.desk_shared.specs.Hands.{states_of, Visits}
use Rattle.desk_shared.specs.Records.{Sight, records, seat_of}
use Rattle.desk_shared.proofs.Behind.{behind, ends_behind, uncalled}
use Rattle.desk_shared.proofs.Gotten.{may_read, read_ends}
use Rattle.desk_shared.proofs.Handed.{as_taken, left_alone}
use Rattle.desk_shared.proofs.Looked.{looked_calls, more_restorable, one_state, one_valid, same_restorable}
use Rattle.desk_shared.proofs.Watched.{hub_behind, site_there}
use Rattle.desk_shared.proofs.looking.look_at.Goals as goal

pub returns-in_default-clause-calls : goal.returns-in_default-clause-calls
returns-in_default-clause-calls g c =
    uncalled (seat_of c.args.pass.seat.me.0) _ _ refl (adds_nothing (seat_of c.args.pass.seat.me.0) c.requires.legal) refl

pub visit_records-requires-clause-rises : goal.visit_records-requires-clause-rises
visit_records-requires-clause-rises g c =
    λ k less. (let n : length c.in-Ok.recs.items ≡ 1 = ap length (c.in-Ok.ensures {u = tt}) in absurd (omega (arith, n, less)))

pub visit_records-requires-clause-inside : goal.visit_records-requires-clause-inside
visit_records-requires-clause-inside g c =
    subst (AllByRecursion (λ (rec : ℕ). rec < c.args.hall.now.count)) (sym (c.in-Ok.ensures {u = tt})) (omega (arith, c.requires.rec, c.requires.count), tt)

pub returns-in-Err-clause-own : goal.returns-in-Err-clause-own
returns-in-Err-clause-own g c =
    ap (λ p. p.seat.table_id) (c.in-Err.ensures {u = tt}).back

pub returns-in-Err-clause-calls : goal.returns-in-Err-clause-calls
returns-in-Err-clause-calls g c =
    uncalled (seat_of c.args.pass.seat.me.0) _ _ (ap (λ p. seat_of p.seat.me.0) (c.in-Err.ensures {u = tt}).back) (adds_nothing (seat_of c.args.pass.seat.me.0) c.requires.legal) refl

pub index-requires : goal.index-requires
index-requires g c =
    let v = c.in-Ok-visit_records.visit in
    let made = c.in-Ok-visit_records.ensures {u = tt} in
    let recs = c.in-Ok.ensures {u = tt} in
    let many : length v.cells.items ≡ 1 = v.many ∙ ap length (made.recs ∙ recs) in
    omega (arith, many, v.cells.ok)

pub leave-requires-clause-taken : goal.leave-requires-clause-taken
leave-requires-clause-taken g c =
    let v = c.in-Ok-visit_records.visit in
    let made = c.in-Ok-visit_records.ensures {u = tt} in
    let recs = c.in-Ok.ensures {u = tt} in
    as_taken v.seat.me.0 v.cells.items (states_of v.cells.items) made.visits.values refl

pub leave-requires-in-Err-write-clause-taken : goal.leave-requires-in-Err-write-clause-taken
leave-requires-in-Err-write-clause-taken g c =
    let v = c.in-Ok-visit_records.visit in
    let made = c.in-Ok-visit_records.ensures {u = tt} in
    let recs = c.in-Ok.ensures {u = tt} in
    as_taken v.seat.me.0 v.cells.items (states_of v.cells.items) made.visits.values refl

pub returns-in_default-clone_in-clause-calls : goal.returns-in_default-clone_in-clause-calls
returns-in_default-clone_in-clause-calls g c =
    let v = c.in-Ok-visit_records.visit in
    let made = c.in-Ok-visit_records.ensures {u = tt} in
    let recs = c.in-Ok.ensures {u = tt} in
    uncalled (seat_of c.args.pass.seat.me.0) _ _ (left_alone c.args.pass.seat.me.0 v.seat.me.0 c.leave.result.seat.me.0 _ _ made.visits c.leave.ensures.same) (adds_nothing (seat_of c.args.pass.seat.me.0) c.requires.legal) refl

pub returns-in-Err-write-clause-calls : goal.returns-in-Err-write-clause-calls
returns-in-Err-write-clause-calls g c =
    let v = c.in-Ok-visit_records.visit in
    let made = c.in-Ok-visit_records.ensures {u = tt} in
    let recs = c.in-Ok.ensures {u = tt} in
    uncalled (seat_of c.args.pass.seat.me.0) _ _ (left_alone c.args.pass.seat.me.0 v.seat.me.0 c.leave-in-Err-write.result.seat.me.0 _ _ made.visits c.leave-in-Err-write.ensures.same) (adds_nothing (seat_of c.args.pass.seat.me.0) c.requires.legal) refl

pub write-requires : goal.write-requires
write-requires g c =
    omega (arith, c.requires.rec, c.names_and_configs.ensures.same, valid_count c.args.site.now.configs c.args.cells.now.states.items c.requires.valid)

pub look_read-requires-clause-may : goal.look_read-requires-clause-may
look_read-requires-clause-may g c =
    let v = c.in-Ok-visit_records.visit in
    let made = c.in-Ok-visit_records.ensures {u = tt} in
    let recs = c.in-Ok.ensures {u = tt} in
    let h = c.glance-held.result in
    let had = c.glance-held.ensures.hub in
    let b = hub_behind c.args.pass.seat.me.0 v.seat.me.0 h.seat.me.0 had.0 (c.args.rec ∷ []) (states_of v.cells.items) (subst (λ (l : List ℕ). Visits c.args.pass.seat.me.0 v.seat.me.0 l (states_of v.cells.items)) recs made.visits)
    had.1 had.2 in
    let foot : h.footprint.items ≡ c.args.rec ∷ [] = c.glance-held.ensures.footprint ∙ made.recs ∙ recs in
    let cells : states_of h.cells.items ≡ states_of v.cells.items = ap states_of c.glance-held.ensures.cells in
    let look = subst (λ (z : SiteData). IsLookOf z c.args.channel (c.args.rec ∷ [])) (sym (site_there c.args.pass.seat.me.0 h.seat.me.0 h.seat.me.0 had.0 _ _ b c.args.site.now c.requires.site)) c.requires.look in (
      had.0,
      ap (λ (x : Sight). x.hub) had.1,
      subst (λ (l : List ℕ). MayLook records h.seat.me.0 had.0 h.cells.items (Some (Read (now (seat_of h.seat.me.0)) c.args.channel l (states_of h.cells.items)))) (sym foot)
          (may_read h.seat.me.0 had.0 (c.args.rec ∷ []) (states_of v.cells.items) h.cells.items c.args.channel b.has cells look),
    )

pub look_read-requires-clause-mark : goal.look_read-requires-clause-mark
look_read-requires-clause-mark g c =
    refl

pub returns-in-Ok-write-clause-calls : goal.returns-in-Ok-write-clause-calls
returns-in-Ok-write-clause-calls g c =
    let v = c.in-Ok-visit_records.visit in
    let made = c.in-Ok-visit_records.ensures {u = tt} in
    let recs = c.in-Ok.ensures {u = tt} in
    let h = c.glance-held.result in
    let had = c.glance-held.ensures.hub in
    let b = hub_behind c.args.pass.seat.me.0 v.seat.me.0 h.seat.me.0 had.0 (c.args.rec ∷ []) (states_of v.cells.items) (subst (λ (l : List ℕ). Visits c.args.pass.seat.me.0 v.seat.me.0 l (states_of v.cells.items)) recs made.visits)
    had.1 had.2 in
    let foot : h.footprint.items ≡ c.args.rec ∷ [] = c.glance-held.ensures.footprint ∙ made.recs ∙ recs in
    let cells : states_of h.cells.items ≡ states_of v.cells.items = ap states_of c.glance-held.ensures.cells in
    let look = subst (λ (z : SiteData). IsLookOf z c.args.channel (c.args.rec ∷ [])) (sym (site_there c.args.pass.seat.me.0 h.seat.me.0 h.seat.me.0 had.0 _ _ b c.args.site.now c.requires.site)) c.requires.look in
    let many : length v.cells.items ≡ 1 = v.many ∙ ap length (made.recs ∙ recs) in
    let one = one_state v.cells.items c.index.result.now many (got v.cells.items 0 c.index.result.now (omega (arith, many)) c.index.ensures) in
    let u = c.look_read.result.seat.me.0 in
    let noted = subst (λ (l : List ℕ × List RecState). seat_of u ≡ with_mark (seat_of h.seat.me.0) (λ at. Read at c.args.channel l.0 l.1)) (λ i. (foot i, (cells ∙ one ∙ ap (λ (z : RecState). z ∷ []) (sym (c.in-Ok-clone_in.ensures {u = tt}))) i)) c.look_read.ensures.marked in
    let finds = subst (AreStatesOf (state_at h.seat.me.0.seen (now (seat_of h.seat.me.0))) (c.args.rec ∷ [])) (one ∙ ap (λ (z : RecState). z ∷ []) (sym (c.in-Ok-clone_in.ensures {u = tt}))) b.has.finds in
    behind (seat_of c.args.pass.seat.me.0) (seat_of h.seat.me.0) (seat_of u) b.others _
    (looked_calls (seat_of h.seat.me.0) (seat_of u) c.args.channel c.args.rec c.in-Ok-clone_in.copy _ _ noted b.has.legal look finds (c.in-Ok-write.ensures {u = tt}).ok.cells_are)

pub returns-in-Ok-write-clause-ends : goal.returns-in-Ok-write-clause-ends
returns-in-Ok-write-clause-ends g c =
    let v = c.in-Ok-visit_records.visit in
    let made = c.in-Ok-visit_records.ensures {u = tt} in
    let recs = c.in-Ok.ensures {u = tt} in
    let h = c.glance-held.result in
    let had = c.glance-held.ensures.hub in
    let b = hub_behind c.args.pass.seat.me.0 v.seat.me.0 h.seat.me.0 had.0 (c.args.rec ∷ []) (states_of v.cells.items) (subst (λ (l : List ℕ). Visits c.args.pass.seat.me.0 v.seat.me.0 l (states_of v.cells.items)) recs made.visits)
    had.1 had.2 in
    let foot : h.footprint.items ≡ c.args.rec ∷ [] = c.glance-held.ensures.footprint ∙ made.recs ∙ recs in
    let cells : states_of h.cells.items ≡ states_of v.cells.items = ap states_of c.glance-held.ensures.cells in
    let look = subst (λ (z : SiteData). IsLookOf z c.args.channel (c.args.rec ∷ [])) (sym (site_there c.args.pass.seat.me.0 h.seat.me.0 h.seat.me.0 had.0 _ _ b c.args.site.now c.requires.site)) c.requires.look in
    let many : length v.cells.items ≡ 1 = v.many ∙ ap length (made.recs ∙ recs) in
    let one = one_state v.cells.items c.index.result.now many (got v.cells.items 0 c.index.result.now (omega (arith, many)) c.index.ensures) in
    let u = c.look_read.result.seat.me.0 in
    let noted = subst (λ (l : List ℕ × List RecState). seat_of u ≡ with_mark (seat_of h.seat.me.0) (λ at. Read at c.args.channel l.0 l.1)) (λ i. (foot i, (cells ∙ one ∙ ap (λ (z : RecState). z ∷ []) (sym (c.in-Ok-clone_in.ensures {u = tt}))) i)) c.look_read.ensures.marked in
    ends_behind (seat_of c.args.pass.seat.me.0) (seat_of h.seat.me.0) (seat_of u) b.others
    (inr (read_ends (seat_of h.seat.me.0) (seat_of u) c.args.channel (c.args.rec ∷ []) (c.in-Ok-clone_in.copy ∷ []) noted))

pub returns-in-Ok-write-clause-own : goal.returns-in-Ok-write-clause-own
returns-in-Ok-write-clause-own g c =
    let v = c.in-Ok-visit_records.visit in
    let made = c.in-Ok-visit_records.ensures {u = tt} in
    let recs = c.in-Ok.ensures {u = tt} in
    c.look_read.ensures.own ∙ c.glance-held.ensures.own ∙ made.own

pub returns-in-Ok-write-clause-valid : goal.returns-in-Ok-write-clause-valid
returns-in-Ok-write-clause-valid g c =
    let v = c.in-Ok-visit_records.visit in
    let made = c.in-Ok-visit_records.ensures {u = tt} in
    let recs = c.in-Ok.ensures {u = tt} in
    let many : length v.cells.items ≡ 1 = v.many ∙ ap length (made.recs ∙ recs) in
    let one = one_state v.cells.items c.index.result.now many (got v.cells.items 0 c.index.result.now (omega (arith, many)) c.index.ensures) in
    let visits = subst (λ (l : List RecState). Visits c.args.pass.seat.me.0 v.seat.me.0 (c.args.rec ∷ []) l) one (subst (λ (l : List ℕ). Visits c.args.pass.seat.me.0 v.seat.me.0 l (states_of v.cells.items)) recs made.visits) in
    one_valid c.args.pass.seat.me.0 v.seat.me.0 c.args.rec c.in-Ok-clone_in.copy c.args.site.now c.args.cells.now.states.items _
    (subst (λ (z : RecState). Visits c.args.pass.seat.me.0 v.seat.me.0 (c.args.rec ∷ []) (z ∷ [])) (sym (c.in-Ok-clone_in.ensures {u = tt})) visits) c.requires.site c.opening_is_valid.ensures
    (omega (arith, c.requires.rec, c.names_and_configs.ensures.same)) c.requires.valid (c.in-Ok-write.ensures {u = tt}).ok.cells_are

pub returns-in-Ok-write-clause-restorable : goal.returns-in-Ok-write-clause-restorable
returns-in-Ok-write-clause-restorable g c =
    more_restorable c.args.site.now.opening c.args.cells.now.states.items _ c.args.rec _ c.args.cells.now.before.items _ c.requires.restorable (c.in-Ok-write.ensures {u = tt}).ok

pub returns-in-Err-write-clause-restorable : goal.returns-in-Err-write-clause-restorable
returns-in-Err-write-clause-restorable g c =
    same_restorable c.args.site.now.opening c.args.cells.now.states.items _ c.args.cells.now.before.items _ c.requires.restorable (c.in-Err-write.ensures {u = tt}).states (c.in-Err-write.ensures {u = tt}).before

pub returns-in-Err-write-clause-valid : goal.returns-in-Err-write-clause-valid
returns-in-Err-write-clause-valid g c =
    subst (AreValid c.args.site.now.configs) (sym (c.in-Err-write.ensures {u = tt}).states) c.requires.valid

pub returns-in-Err-clause-others : goal.returns-in-Err-clause-others
returns-in-Err-clause-others g c = ap (λ p. p.seat.me.0.others) (c.in-Err.ensures {u = tt}).back

pub returns-in-Ok-write-clause-others : goal.returns-in-Ok-write-clause-others
returns-in-Ok-write-clause-others g c = c.look_read.ensures.others ∙ c.glance-held.ensures.others ∙ (c.in-Ok-visit_records.ensures {u = tt}).others
