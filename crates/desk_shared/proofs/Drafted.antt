-- An entry that was drafted on the records in hand, with the hub above them.
use Rattle.std.proofs.Common.{◌≡◌, ◌==◌, ℕ, ◌+◌, ◌<◌, ◌≤◌, ◌&&◌, ◌||◌, zero, suc, Bool, true, false, List, [], ◌∷◌, length, take, set, Option, None, Some, Ok, Err, inr, refl, sym, ◌∙◌, ap, subst, arith}
use Rattle.std.specs.List.{slice_get, list_all, list_any, AllByRecursion}
use Rattle.std.proofs.Math.Seq.{take-length}
use Rattle.std.proofs.lemmas.Bool.{false≢true, leb-false, leb-true}
use Rattle.std.specs.Prelude.{nat_le}
use Rattle.std.proofs.lemmas.List.{length-set}
use Rattle.std.proofs.lemmas.Option.{none-some}
use Rattle.std.specs.FinSet.{contains}
use Rattle.pvd_value.specs.Leaves.{leaf_at}
use Rattle.rec_kinds.specs.Configs.{Config}
use Rattle.rec_kinds.specs.declared.datum.Action.{Action}
use Rattle.rec_kinds.specs.declared.state.RecState.{RecState}
use Rattle.hall_locks.specs.Hands.{MayLook}
use Rattle.journal_core.specs.Histories.{kept, written}
use Rattle.journal_core.specs.Legality.{AreProcessed, AreValid, IsDone, IsLegalEntry}
use Rattle.journal_core.specs.Moments.{Moment}
use Rattle.journal_core.specs.Weights.{weight}
use Rattle.journal_core.specs.declared.entry.Entry.{Entry}
use Rattle.journal_core.proofs.Growing.{replayed_count}
use Rattle.journal_core.proofs.Keeping.{valid_entry, valid_history}
use Rattle.mon_queue.specs.Shown.{anew}
use Rattle.mon_shown.specs.Channels.{watch}
use Rattle.mon_shown.specs.Slots.{AreReady}
use Rattle.mon_shown.specs.declared.subscriptions.Readied.{Readied}
use Rattle.desk_api.specs.Calls.{Calls, EndsAtItsMarks, now, with_mark}
use Rattle.desk_api.specs.History.{IsLegal, commits, kept_at, state_at}
use Rattle.desk_api.specs.Marks.{IsTrueOverweight}
use Rattle.desk_api.specs.Puts.{is_held, is_held_with}
use Rattle.desk_api.specs.Sites.{AreOver}
use Rattle.desk_api.specs.Triggers.{channel_view}
use Rattle.desk_api.specs.Views.{AreStatesOf, found_in}
use Rattle.desk_api.specs.declared.history.Base.{Base}
use Rattle.desk_api.specs.declared.history.SiteData.{SiteData}
use Rattle.desk_api.specs.declared.mark.Mark.{Mark}
use Rattle.desk_api.specs.declared.mark.Mark.TheVariants.{Entered, Overweight}
use Rattle.desk_api.specs.declared.mark.Seat.{Seat}
use Rattle.desk_api.specs.declared.put.PutAnswer.TheVariants as answers
use Rattle.desk_api.proofs.Adding.{adds_nothing, as_many}
use Rattle.desk_core.proofs.Marking.{looks, looks_end}
use Rattle.desk_core.proofs.Reading.{found_all}
use Rattle.desk_core.specs.Effects.{restored}
use Rattle.desk_hub.specs.Seats.{Subs}
use Rattle.desk_hub.specs.Steps.{SeenAsAfter}
use Rattle.desk_hub.proofs.Logs.{marked}
use Rattle.desk_shared.specs.Entries.{AreEntered}
use Rattle.desk_shared.specs.Exchanges.{AreExchanged}
use Rattle.desk_shared.specs.Hands.{states_of, AgreeAt, HasHub, IsDrafted, MayEnter, Undoes}
use Rattle.desk_shared.specs.Records.{Sight, records, seat_of}
use Rattle.desk_shared.specs.declared.books.Books.{Books}
use Rattle.desk_shared.specs.declared.records.RecCell.{RecCell}
use Rattle.desk_shared.proofs.Alike.{held_write, seen_alike}
use Rattle.desk_shared.proofs.Exchanged.{back_in_hand, back_in_place}
use Rattle.desk_shared.proofs.Listed.{among, among_there, each_from_states, each_within, place_among, set_elsewhere, some_same, written_agrees, written_count}
use Rattle.desk_shared.proofs.Marked.{agreeing, entered_adds, entered_ends, is_entry, may_look_aside}

-- ---- put back

-- as many states as before
pub restored_count : (cells : List RecState) (before : List (ℕ × RecState)) → length (restored cells before) ≡ length cells
restored_count cells [] = refl
restored_count cells (held ∷ before) = length-set (restored cells before) held.0 held.1 ∙ restored_count cells before

-- all is put back as it was
module _ (v : Sight) (hub : Books) (recs : List ℕ) (hand opening states : List RecState) (before : List (ℕ × RecState)) (u : Undoes v hub recs hand opening states before) where
  pub back_inside : (back : List RecState) → back ≡ restored states before → AllByRecursion (λ (rec : ℕ). rec < length back) recs
  back_inside back is = subst (λ (n : ℕ). AllByRecursion (λ (rec : ℕ). rec < n) recs) (sym (ap length (is ∙ u.back_is) ∙ u.exchanged.long)) u.inside

  pub back_count : (back : List RecState) → back ≡ restored states before → length back ≡ length opening
  back_count back is = ap length (is ∙ u.back_is) ∙ u.exchanged.long

  module _ (back more after : List RecState) (is : back ≡ restored states before) (y : AreExchanged recs hand more back after) where
    same_back : back ≡ u.mixed
    same_back = is ∙ u.back_is

    pub hand_back : more ≡ u.taken
    hand_back = back_in_hand recs hand more back after y u.taken (subst (λ (l : List RecState). AreStatesOf l recs u.taken) (sym same_back) u.exchanged.given)

    pub states_back : after ≡ opening
    states_back = back_in_place recs u.taken hand opening u.mixed u.exchanged more back after y (ap length same_back) (λ k out. ap (λ (l : List RecState). slice_get l k) same_back)

-- ---- what was drafted

processed_alike : (configs : List Config) (a b : List RecState) (moment : Moment) (actions : List (ℕ × Action)) (drives : List Bool) (writes : List (ℕ × RecState)) (recs : List ℕ) → length a ≡ length b → AgreeAt recs a b
    → list_all (λ (write : ℕ × RecState). list_any (λ (rec : ℕ). rec == write.0) recs) writes ≡ true → AreProcessed configs a moment actions drives writes → AreProcessed configs b moment actions drives writes
processed_alike configs a b moment [] [] [] recs long agree inside p = p
processed_alike configs a b moment [] [] (w ∷ writes) recs long agree inside p = absurd p
processed_alike configs a b moment [] (d ∷ drives) writes recs long agree inside p = absurd p
processed_alike configs a b moment (x ∷ actions) [] writes recs long agree inside p = absurd p
processed_alike configs a b moment (x ∷ actions) (d ∷ drives) [] recs long agree inside p = absurd p
processed_alike configs a b moment (x ∷ actions) (d ∷ drives) (w ∷ writes) recs long agree inside p =
    let held : among recs w.0 ≡ true = held_write (w ∷ writes) recs 0 w inside refl in (
      done (slice_get configs x.0) (slice_get a x.0) (slice_get b x.0) (λ same. agree x.0 (subst (λ (n : ℕ). among recs n ≡ true) same held)) refl refl p.0,
      processed_alike configs (set a w.0 w.1) (set b w.0 w.1) moment actions drives writes recs (length-set a w.0 w.1 ∙ long ∙ sym (length-set b w.0 w.1)) (λ k in_it. written_agrees a b (w ∷ []) k long (agree k in_it))
          (rest (among recs w.0) (list_all (λ (write : ℕ × RecState). list_any (λ (rec : ℕ). rec == write.0) recs) writes) inside) p.1,
    )
  where
    rest : (c e : Bool) → (c && e) ≡ true → e ≡ true
    rest true e is = is
    rest false e is = absurd (false≢true is)

    done : (config : Option Config) (s t : Option RecState) → (w.0 ≡ x.0 → slice_get a x.0 ≡ slice_get b x.0) → slice_get a x.0 ≡ s → slice_get b x.0 ≡ t → IsDone config s moment x d w → IsDone config t moment x d w
    done (Some config) (Some s) t same at_a at_b q =
        subst (λ (o : Option RecState). IsDone (Some config) o moment x d w) (sym at_a ∙ same (ap (λ (z : ℕ × RecState). z.0) q.write_is) ∙ at_b) q
    done (Some config) None t same at_a at_b q = absurd q
    done None s t same at_a at_b q = absurd q

-- what was not written is as it was
written_aside : (states : List RecState) (writes : List (ℕ × RecState)) (recs : List ℕ) (k : ℕ) → list_all (λ (write : ℕ × RecState). list_any (λ (rec : ℕ). rec == write.0) recs) writes ≡ true → among recs k ≡ false → slice_get (written states writes) k ≡ slice_get states k
written_aside states [] recs k inside out = refl
written_aside states (w ∷ writes) recs k inside out =
    written_aside (set states w.0 w.1) writes recs k (rest (among recs w.0) (list_all (λ (write : ℕ × RecState). list_any (λ (rec : ℕ). rec == write.0) recs) writes) inside) out
    ∙ set_elsewhere states w.0 k w.1 (λ e. false≢true (sym out ∙ ap (among recs) (sym e) ∙ held_write (w ∷ writes) recs 0 w inside refl))
  where
    rest : (c e : Bool) → (c && e) ≡ true → e ≡ true
    rest true e is = is
    rest false e is = absurd (false≢true is)

module _ (v : Sight) (hub : Books) (recs : List ℕ) (hand : List RecState) (site : SiteData) (states : List RecState) (before : List (ℕ × RecState)) (entry : Entry) (looked : List ℕ)
    (d : IsDrafted v hub recs hand site states before entry looked) (over : AreOver site) (valid_opening : AreValid site.configs site.opening) where
  abbrev s : Seat
  s = seat_of v

  abbrev last : List RecState
  last = state_at v.seen (now s)

  abbrev mixed : List RecState
  mixed = d.undoes.mixed

  site_there : site ≡ v.seen.base.site
  site_there = sym d.site_is

  last_count : length mixed ≡ length last
  last_count = d.undoes.exchanged.long ∙ ap (λ (z : SiteData). length z.opening) site_there ∙ sym (replayed_count v.seen.base.site.opening (take (now s) (commits v.seen)))

  agree : AgreeAt recs mixed last
  agree k in_it =
      let p = place_among recs k in_it in
      sym (each_from_states mixed recs d.undoes.taken d.undoes.exchanged.given p.0 k p.1) ∙ each_from_states last recs d.undoes.taken d.undoes.has.finds p.0 k p.1

  inside : list_all (λ (write : ℕ × RecState). list_any (λ (rec : ℕ). rec == write.0) recs) entry.writes ≡ true
  inside = subst (λ (f : List ℕ). list_all (λ (write : ℕ × RecState). list_any (λ (rec : ℕ). rec == write.0) f) entry.writes ≡ true) d.footprint_is d.legal.inside

  last_valid : AreValid site.configs last
  last_valid =
      subst (λ (z : SiteData). AreValid z.configs (state_at v.seen (now s))) d.site_is
      (subst (λ (n : ℕ). AreValid v.seen.base.site.configs (state_at v.seen n)) (sym (as_many v.seen))
      (valid_history v.seen.base.site.configs v.seen.base.site.opening (commits v.seen) (subst (λ (z : SiteData). AreValid z.configs z.opening) site_there valid_opening) d.undoes.has.legal (length (commits v.seen)) (omega arith)))

  -- it is legal at the end of the history as well
  pub legal_there : IsLegalEntry site.configs last entry
  legal_there = record {
    valid = last_valid;
    processed = processed_alike site.configs mixed last entry.moment entry.actions entry.drove entry.writes recs last_count agree inside d.legal.processed;
    inside = d.legal.inside;
  }

  pub after_there : AgreeAt recs states (written last entry.writes)
  after_there k in_it = ap (λ (l : List RecState). slice_get l k) d.states_are ∙ written_agrees mixed last entry.writes k last_count (agree k in_it)

  pub states_valid : AreValid site.configs states
  states_valid = subst (AreValid site.configs) (sym d.states_are) (valid_entry site.configs mixed entry d.legal)

  states_count : length states ≡ length site.opening
  states_count = ap length d.states_are ∙ written_count mixed entry.writes ∙ d.undoes.exchanged.long

  pub states_inside : AllByRecursion (λ (rec : ℕ). rec < length states) recs
  states_inside = subst (λ (n : ℕ). AllByRecursion (λ (rec : ℕ). rec < n) recs) (sym states_count) d.undoes.inside

  looked_inside : (ns : List ℕ) → ((k : ℕ) → among ns k ≡ true → among recs k ≡ true) → AllByRecursion (λ (rec : ℕ). rec < length states) ns
  looked_inside [] each = tt
  looked_inside (n ∷ ns) each = (
    (let p = place_among recs n (each n (here n ns)) in within_all recs p.0 n states_inside p.1),
    looked_inside ns (λ k in_it. each k (later n ns k in_it)),
  )
    where
      here : (m : ℕ) (ms : List ℕ) → among (m ∷ ms) m ≡ true
      here m ms = among_there (m ∷ ms) 0 m refl

      later : (m : ℕ) (ms : List ℕ) (k : ℕ) → among ms k ≡ true → among (m ∷ ms) k ≡ true
      later m ms k is = let p = place_among ms k is in among_there (m ∷ ms) (suc p.0) k p.1

      within_all : (rs : List ℕ) (j r : ℕ) → AllByRecursion (λ (rec : ℕ). rec < length states) rs → slice_get rs j ≡ Some r → r < length states
      within_all rs j r all is = each_within (length states) rs j r all is

  pub looks_there : AreStatesOf (written last entry.writes) looked (found_in states looked)
  looks_there =
      agreeing looked states (written last entry.writes) (found_in states looked) (λ k in_it. after_there k (d.looked_held k in_it)) (found_all states looked (looked_inside looked d.looked_held))

  -- the same is seen of it as after the entry
  pub seen_so : SeenAsAfter v.seen entry states hub.subs
  seen_so slot x there k wanted =
      subst (λ (z : SiteData). AreSeen z) site_there (seen_alike site states (written last entry.writes) over states_valid (valid_entry site.configs last entry legal_there) recs after_there entry.writes held x.channel x.requested k
      (subst (λ (z : SiteData). IsWanted z) d.site_is wanted))
      ∙ ap (λ (n : ℕ). leaf_at k (channel_view v.seen.base.site x.channel).ty ((channel_view v.seen.base.site x.channel).view (written (state_at v.seen n) entry.writes))) (as_many v.seen)
    where
      AreSeen : SiteData → Type 0
      AreSeen z = leaf_at k (channel_view z x.channel).ty ((channel_view z x.channel).view states) ≡ leaf_at k (channel_view z x.channel).ty ((channel_view z x.channel).view (written last entry.writes))

      IsWanted : SiteData → Type 0
      IsWanted z = contains (anew (watch (channel_view z x.channel) x.requested) entry) k ≡ true

      held : (j : ℕ) (w : ℕ × RecState) → slice_get entry.writes j ≡ Some w → (among recs w.0 ≡ true) × ((n : ℕ) → is_held_with site n w.0 ≡ true → among recs n ≡ true)
      held j w at = (held_write entry.writes recs j w inside at, λ n with_it. d.actions_held n (held_by_action entry.moment entry.actions entry.drove entry.writes mixed j n d.legal.processed at with_it)) where
        held_by_action : (moment : Moment) (actions : List (ℕ × Action)) (drives : List Bool) (writes : List (ℕ × RecState)) (was : List RecState) (i n : ℕ) → AreProcessed site.configs was moment actions drives writes → slice_get writes i ≡ Some w
            → is_held_with site n w.0 ≡ true → is_held site actions n ≡ true
        held_by_action moment [] [] [] was i n p e with_it = absurd (none-some w e)
        held_by_action moment [] [] (y ∷ writes) was i n p e with_it = absurd p
        held_by_action moment [] (b ∷ drives) writes was i n p e with_it = absurd p
        held_by_action moment (a ∷ actions) [] writes was i n p e with_it = absurd p
        held_by_action moment (a ∷ actions) (b ∷ drives) [] was i n p e with_it = absurd p
        held_by_action moment (a ∷ actions) (b ∷ drives) (y ∷ writes) was zero n p e with_it =
            or_here (is_held_with site n a.0) (is_held site actions n)
            (subst (λ (m : ℕ). is_held_with site n m ≡ true) (ap (λ (z : ℕ × RecState). z.0) (sym (some_same y w e)) ∙ of_action (slice_get site.configs a.0) (slice_get was a.0) p.0) with_it)
          where
            of_action : (config : Option Config) (old : Option RecState) → IsDone config old moment a b y → y.0 ≡ a.0
            of_action (Some config) (Some old) q = ap (λ (z : ℕ × RecState). z.0) q.write_is
            of_action (Some config) None q = absurd q
            of_action None old q = absurd q

            or_here : (c f : Bool) → c ≡ true → (c || f) ≡ true
            or_here true f is = refl
            or_here false f is = absurd (false≢true is)
        held_by_action moment (a ∷ actions) (b ∷ drives) (y ∷ writes) was (suc i) n p e with_it =
            or_later (is_held_with site n a.0) (is_held site actions n) (held_by_action moment actions drives writes (set was y.0 y.1) i n p.1 e with_it)
          where
            or_later : (c f : Bool) → f ≡ true → (c || f) ≡ true
            or_later true f is = refl
            or_later false f is = is

  -- all is as it was once its records were given back
  pub states_given : (more after : List RecState) → AreExchanged recs hand more states after → after ≡ site.opening
  states_given more after y =
      back_in_place recs d.undoes.taken hand site.opening mixed d.undoes.exchanged more states after y (ap length d.states_are ∙ written_count mixed entry.writes)
      (λ k out. ap (λ (l : List RecState). slice_get l k) d.states_are ∙ written_aside mixed entry.writes recs k inside out)

  -- it may be entered
  pub may_enter_drafted : (next : Books) → HasHub v next recs d.undoes.taken → next.subs ≡ hub.subs → 0 < next.history.room → kept next.history.entries + weight entry ≤ next.limit → (ready : Readied) → AreReady (channel_view site) states entry hub.subs ready
      → MayEnter v next recs states entry looked ready
  may_enter_drafted next has subs room light ready is = record {
    taken = d.undoes.taken;
    has = has;
    room = room;
    light = light;
    legal = subst (λ (z : SiteData). IsLegalEntry z.configs last entry) site_there legal_there;
    footprint_is = d.footprint_is;
    after = after_there;
    looks = looks_there;
    ready_is = subst (λ (z : SiteData). AreReady (channel_view z) states entry next.subs ready) site_there (subst (λ (l : Subs). AreReady (channel_view site) states entry l ready) (sym subs) is);
    seen_so = subst (SeenAsAfter v.seen entry states) (sym subs) seen_so;
  }

  -- ---- what it came to

  pub entered_calls : (t : Seat) (done : ℕ) → kept hub.history.entries + weight entry ≤ hub.limit → t ≡ with_mark s (λ at. Entered at entry looked (found_in states looked))
      → Calls s t (AreEntered entry looked (found_in states looked) done (Ok (length hub.history.entries))) × EndsAtItsMarks s t
  entered_calls t done light noted =
      let found = found_in states looked in
      let has = d.undoes.has in
      let place_is : length hub.history.entries ≡ now s = ap length has.entries ∙ sym (as_many v.seen) in
      let light_there : kept (commits v.seen) + weight entry ≤ v.seen.base.limit = omega (arith, light, ap kept has.entries, ap (λ (b : Base). b.limit) has.base) in
      subst (λ (z : Seat). Calls s z (AreEntered entry looked found done (Ok (length hub.history.entries))) × EndsAtItsMarks s z) (sym noted) (
        record {
          marks = Entered (now s) entry looked found ∷ [];
          adds = entered_adds s entry looked found has.legal (subst (λ (z : SiteData). IsLegalEntry z.configs last entry) site_there legal_there) light_there looks_there;
          named = ap (λ (n : ℕ). Entered n entry looked found ∷ []) (sym place_is);
        },
        inr (entered_ends s entry looked found),
      )

-- with more room in the hub the same may be put back
pub undoes_still : (v : Sight) (hub next : Books) (recs : List ℕ) (hand opening states : List RecState) (before : List (ℕ × RecState)) → (u : Undoes v hub recs hand opening states before) → HasHub v next recs u.taken → Undoes v next recs hand opening states before
undoes_still v hub next recs hand opening states before u has = record {
  taken = u.taken;
  mixed = u.mixed;
  has = has;
  rises = u.rises;
  inside = u.inside;
  exchanged = u.exchanged;
  back_is = u.back_is;
  within = u.within;
}

-- an entry that would be too heavy
module _ (v : Sight) (hub : Books) (recs : List ℕ) (taken : List RecState) (has : HasHub v hub recs taken) (entry : Entry) (kept_ added limit : ℕ) (kept_is : kept_ ≡ kept hub.history.entries) (added_is : added ≡ weight entry)
    (limit_is : limit ≡ hub.limit) (above : limit < kept_ + added) where
  abbrev u : Seat
  u = seat_of v

  abbrev heavy : ℕ → Mark
  heavy at = Overweight at entry.footprint entry.actions kept_ added limit

  kept_there : kept_at v.seen (now u) ≡ kept (commits v.seen)
  kept_there = ap kept (ap (λ (n : ℕ). take n (commits v.seen)) (as_many v.seen) ∙ take-length (commits v.seen))

  heavy_true : IsTrueOverweight v.seen (now u) entry.footprint entry.actions kept_ added limit
  heavy_true = record {
    within = omega arith;
    kept_is = kept_is ∙ ap kept has.entries ∙ sym kept_there;
    added_is = added_is;
    limit_is = limit_is ∙ ap (λ (b : Base). b.limit) has.base;
    above = above;
  }

  pub may_refuse : {P : Type 0} (cells : List (RecCell P)) → states_of cells ≡ taken → MayLook (records {P = P}) v hub cells (Some (heavy (now u)))
  may_refuse cells same =
      may_look_aside (λ h subs seat log mark aside k. marked h subs seat log k mark aside) v hub hub recs taken cells (heavy (now u)) has same refl refl (λ k log kept. kept) refl (λ e. false≢true (ap is_entry e)) (λ slot o. refl) heavy_true

  pub heavy_calls : (t : Seat) (looked : List ℕ) (found : List RecState) (done : ℕ) → t ≡ with_mark u heavy → Calls u t (AreEntered entry looked found done (Err (answers.JournalFull kept_ added limit done))) × EndsAtItsMarks u t
  heavy_calls t looked found done noted = subst (λ (z : Seat). Calls u z (AreEntered entry looked found done (Err (answers.JournalFull kept_ added limit done))) × EndsAtItsMarks u z) (sym noted) (
    record { marks = heavy (now u) ∷ []; adds = looks u heavy refl refl refl heavy_true has.legal; named = ((now u, refl), refl) },
    inr (looks_end u heavy refl refl),
  )

-- memory ran out
pub stopped_calls : (v : Sight) (t : Seat) (entry : Entry) (looked : List ℕ) (found : List RecState) (done : ℕ) → IsLegal v.seen → t ≡ seat_of v → Calls (seat_of v) t (AreEntered entry looked found done (Err (answers.NoMemory done)))
stopped_calls v t entry looked found done legal same =
    subst (λ (z : Seat). Calls (seat_of v) z (AreEntered entry looked found done (Err (answers.NoMemory done)))) (sym same) (record { marks = []; adds = adds_nothing (seat_of v) legal; named = (refl, refl) })

-- ---- weights

-- the entries may weigh so much more, or not
pub light_is : (kept_ added limit : ℕ) (light : Bool) → light ≡ nat_le (kept_ + added) limit → light ≡ true → kept_ + added ≤ limit
light_is kept_ added limit light is yes_ = leb-true (kept_ + added) limit (sym is ∙ yes_)

pub heavy_is : (kept_ added limit : ℕ) (light : Bool) → light ≡ nat_le (kept_ + added) limit → light ≡ false → limit < kept_ + added
heavy_is kept_ added limit light is no_ = leb-false (kept_ + added) limit (sym is ∙ no_)
