-- A put and a get of the same channel, at once or one after the other.
use Rattle.std.proofs.Common.{◌≡◌, ℕ, Bool, true, false, List, [], ◌∷◌, ◌++◌, suc, length, take, drop, map, Option, Some, None, Result, Ok, Err, inl, inr, refl, sym, ◌∙◌, ap, subst}
use Rattle.std.specs.List.{slice_get}
use Rattle.std.specs.Prelude.{IfOk, ◌⊎◌, ⊤}
use Rattle.std.proofs.Math.Seq.{take-length}
use Rattle.std.proofs.lemmas.List.{append-nil}
use Rattle.pvd_type.specs.declared.memory.NoMemory as pvd
use Rattle.pvd_value.specs.Fits.{fits_of}
use Rattle.pvd_value.specs.View.{view}
use Rattle.pvd_value.specs.declared.value.PvValue.{PvValue}
use Rattle.rec_kinds.specs.declared.datum.Action.{Action}
use Rattle.rec_kinds.specs.declared.state.RecState.{RecState}
use Rattle.rec_fields.specs.declared.puts.FieldAnswer.{FieldAnswer}
use Rattle.rec_fields.specs.declared.puts.FieldAnswer.TheVariants.{Refused, NoMemory}
use Rattle.journal_core.specs.Legality.{AreProcessed}
use Rattle.journal_core.specs.Moments.{Moment}
use Rattle.journal_core.specs.declared.entry.Entry.{Entry}
use Rattle.desk_api.specs.History.{History, entries, state_at, IsLegal}
use Rattle.desk_api.specs.Marks.{next_place}
use Rattle.desk_api.specs.Puts.{entries_by, footprint_with, IsRefusedBy}
use Rattle.desk_api.specs.Calls.{Adds, Calls, Asked, asked_actions, asked_entries, entries_of_actions, entries_or_none, AreAdded, AreGet, ArePut, ArePutGet, ArePutGetBy, EndsAtItsMarks, EndsAtLastMark, OnTold, now}
use Rattle.desk_api.specs.Sites.{footprint_of, is_atomic}
use Rattle.desk_api.specs.Types.{type_of}
use Rattle.desk_api.proofs.Adding.{adds_nothing, adds_more}
use Rattle.desk_api.specs.declared.channel.Channel.{Channel}
use Rattle.desk_api.specs.declared.history.SiteData.{SiteData}
use Rattle.desk_api.specs.declared.mark.Mark.{Mark}
use Rattle.desk_api.specs.declared.mark.Mark.TheVariants.{Entered, Overweight}
use Rattle.desk_api.specs.declared.mark.Seat.{Seat}
use Rattle.desk_api.specs.declared.put.Done.{Done}
use Rattle.desk_api.specs.declared.put.PutAnswer.{PutAnswer}
use Rattle.desk_api.specs.declared.put.PutAnswer.TheVariants as answers
use Rattle.desk_core.specs.Begun.{IsPutNow}
use Rattle.desk_core.specs.Effects.{IsBroken}
use Rattle.desk_core.specs.Ports.{Ports, AreDrivenInTurn, AreOwnFrom, AreDrivenInPart, DrivesPorts, actions_or_none, next_actions}
use Rattle.desk_core.specs.PutGets.{IsPutGotNow, IsShownNow, done_of}
use Rattle.desk_core.specs.Standing.{answer_of}
use Rattle.desk_core.proofs.Beginning.{own_from, put_of}

-- ---- at once

-- where no entry was added
pub ends_at_once : (site : SiteData) (channel : Channel) (moment : Moment) (actions : List (ℕ × Action)) (s t : Seat) (old new : Ports) (found : List RecState) (answer : PutAnswer)
    → IsPutNow site moment actions (footprint_of site channel) found 0 s t old new (Err answer) → IsPutGotNow site channel moment actions s t old new (Err answer)
ends_at_once site channel moment actions s t old new found (answers.Refused refusal) p = absurd p
ends_at_once site channel moment actions s t old new found (answers.JournalFull kept weight limit done) p = p
ends_at_once site channel moment actions s t old new found (answers.NoMemory done) p = p

module _ (a : Asked) (actions : List (ℕ × Action)) (asked : asked_actions a ≡ Ok actions) (whole : is_atomic a.site a.channel a.atomic ≡ true) (s t : Seat) (legal : IsLegal s.seen) (old new : Ports) where
  at_once : (result : Result (Done × PvValue) PutAnswer) → IsPutGotNow a.site a.channel a.moment actions s t old new result → Calls s t (ArePutGetBy true a result)
  at_once (Ok (done, value)) p = record {
    marks = Entered (now s) p.added.entry (footprint_of a.site a.channel) p.found ∷ [];
    adds = p.added.adds;
    named = record {
      actions = actions;
      asked = asked;
      at = now s;
      entry = p.added.entry;
      found = p.found;
      marks_are = refl;
      actions_are = p.added.held.actions_are;
      footprint_is = p.added.held.footprint_is;
      moment_is = p.added.held.moment_is;
      done_is = λ i. record { first = p.added.at_is i; count = p.count_is i };
      value_is = p.value_is;
    };
  }
  at_once (Err (answers.Refused refusal)) p = absurd p
  at_once (Err (answers.JournalFull kept weight limit done)) p = record {
    marks = Overweight (now s) (footprint_with a.site actions (footprint_of a.site a.channel)) actions kept weight limit ∷ [];
    adds = p.0.adds;
    named = record { actions = actions; asked = asked; at = now s; marks_are = refl; done_is = p.1 };
  }
  at_once (Err (answers.NoMemory done)) p = record {
    marks = [];
    adds = subst (λ (z : Seat). Adds s z []) (sym p.0.same) (adds_nothing s legal);
    named = record { marks_are = refl; done_is = p.1 };
  }

  pub at_once_calls : (result : Result (Done × PvValue) PutAnswer) → IsPutGotNow a.site a.channel a.moment actions s t old new result → Calls s t (ArePutGet a result)
  at_once_calls result p = subst (λ (w : Bool). Calls s t (ArePutGetBy w a result)) (sym whole) (at_once result p)

  pub at_once_ends : (result : Result (Done × PvValue) PutAnswer) → IsPutGotNow a.site a.channel a.moment actions s t old new result → OnTold result (EndsAtItsMarks s t)
  at_once_ends (Ok (done, value)) p = inr p.added.ends
  at_once_ends (Err (answers.Refused refusal)) p = absurd p
  at_once_ends (Err (answers.JournalFull kept weight limit done)) p = inr p.0.ends
  at_once_ends (Err (answers.NoMemory done)) p = tt

  pub at_once_fits : (result : Result (Done × PvValue) PutAnswer) → IsPutGotNow a.site a.channel a.moment actions s t old new result → IfOk result (λ r. fits_of 16 (view r.1) (type_of a.site a.channel) ≡ true)
  at_once_fits (Ok (done, value)) p = p.fits
  at_once_fits (Err answer) p = tt

  -- the one entry that was asked for
  asked_one : next_actions a 0 ≡ actions
  asked_one = ap (λ (r : Result (List (List (ℕ × Action))) FieldAnswer). actions_or_none (slice_get (entries_or_none r) 0)) (put_of a actions true asked (sym whole))

  driven_in_part : (u : Seat) → u.seen ≡ s.seen → (done : ℕ) → done ≡ 0 → IsBroken a.site.configs (state_at s.seen (now s)) old new actions a.moment → AreDrivenInPart s u old new a done
  driven_in_part u same done none b = subst (λ (n : ℕ). AreDrivenInPart s u old new a n) (sym none) (record {
    added = [];
    as_many = refl;
    there = refl;
    between = old;
    driven = refl;
    drives = b.drives;
    writes = b.writes;
    tried = b.driven;
    first = subst (λ (h : History). AreProcessed a.site.configs (state_at h (length (entries h))) a.moment (take (length b.writes) (next_actions a 0)) b.drives b.writes) (sym same)
        (subst (λ (l : List (ℕ × Action)). AreProcessed a.site.configs (state_at s.seen (now s)) a.moment (take (length b.writes) l) b.drives b.writes) (sym asked_one) b.processed);
  })

  pub at_once_drives : (result : Result (Done × PvValue) PutAnswer) → IsPutGotNow a.site a.channel a.moment actions s t old new result → DrivesPorts s t old new a (done_of result)
  at_once_drives (Ok (done, value)) p = record {
    added = p.added.entry ∷ [];
    as_many = sym p.count_is;
    there = own_from s t done.first (p.added.entry ∷ []) p.added.at_is p.added.adds.number p.added.entries_are;
    driven = (new, p.added.driven, refl);
  }
  at_once_drives (Err (answers.Refused refusal)) p = absurd p
  at_once_drives (Err (answers.JournalFull kept weight limit done)) p = driven_in_part t p.0.same done p.1 p.0.tried
  at_once_drives (Err (answers.NoMemory done)) p = driven_in_part t (ap (λ (z : Seat). z.seen) p.0.same) done p.1 p.0.tried

-- ---- a put that gives no action

stops_by : (a : Asked) (whole : Bool) (answer : FieldAnswer) → IsRefusedBy (asked_actions a) answer → ArePutGetBy whole a (Err (answer_of answer)) []
stops_by a true (Refused refusal) is = record { refusal_is = is; marks_are = refl }
stops_by a false (Refused refusal) is = record { refusal_is = is; marks_are = refl }
stops_by a true NoMemory is = record { marks_are = refl; done_is = refl }
stops_by a false NoMemory is = record { puts = []; gets = []; marks_are = refl; put = record { added = tt; done_is = refl }; got = record { looks = tt }; behind = inl refl }

pub refused_at_once : (s : Seat) → IsLegal s.seen → (a : Asked) (answer : FieldAnswer) → IsRefusedBy (asked_actions a) answer → Calls s s (ArePutGet a (Err (answer_of answer)))
refused_at_once s legal a answer is = record { marks = []; adds = adds_nothing s legal; named = stops_by a (is_atomic a.site a.channel a.atomic) answer is }

-- ---- one after the other

told_as : (A B : Type 0) (answer : PutAnswer) (P : Type 0) → OnTold {A = A} (Err answer) P → OnTold {A = B} (Err answer) P
told_as A B (answers.Refused refusal) P told = told
told_as A B (answers.JournalFull kept weight limit done) P told = told
told_as A B (answers.NoMemory done) P told = tt

-- where the get adds no mark the history still ends at the put's last one
ends_both : (s m t : Seat) → t.seen ≡ m.seen → EndsAtItsMarks s m → EndsAtItsMarks m t → EndsAtItsMarks s t
ends_both s m t same put (inr end) = inr end
ends_both s m t same (inl none) (inl still) = inl (still ∙ none)
ends_both s m t same (inr end) (inl still) =
    inr (subst (λ (h : History). length (entries h) ≡ next_place (length (entries h)) t.log) (sym same) (subst (λ (l : List Mark). length (entries m.seen) ≡ next_place (length (entries m.seen)) l) (sym still) end))

many_added : (a : Asked) (asked : List (List (ℕ × Action))) (marks : List Mark) → AreAdded a asked marks → length marks ≡ length asked
many_added a [] [] added = refl
many_added a [] (mark ∷ marks) added = absurd added
many_added a (actions ∷ asked) [] added = absurd added
many_added a (actions ∷ asked) (mark ∷ marks) added = ap suc (many_added a asked marks added.1)

module _ (a : Asked) (apart : is_atomic a.site a.channel a.atomic ≡ false) (s m : Seat) (old mid : Ports) where
  failed : (answer : PutAnswer) → Calls s m (ArePut a (Err answer)) → Calls s m (ArePutGetBy false a (Err answer))
  failed (answers.Refused refusal) p = p
  failed (answers.JournalFull kept weight limit done) p = p
  failed (answers.NoMemory done) p = record {
    marks = p.marks;
    adds = p.adds;
    named = record { puts = p.marks; gets = []; marks_are = sym (append-nil p.marks); put = p.named; got = record { looks = tt }; behind = inl refl };
  }

  pub failed_calls : (answer : PutAnswer) → Calls s m (ArePut a (Err answer)) → Calls s m (ArePutGet a (Err answer))
  failed_calls answer p = subst (λ (w : Bool). Calls s m (ArePutGetBy w a (Err answer))) (sym apart) (failed answer p)

  pub failed_ends : (answer : PutAnswer) → OnTold {A = Done} (Err answer) (EndsAtItsMarks s m) → OnTold {A = Done × PvValue} (Err answer) (EndsAtItsMarks s m)
  failed_ends answer told = told_as Done (Done × PvValue) answer (EndsAtItsMarks s m) told

  module _ (t : Seat) (done : Done) (put : Calls s m (ArePut a (Ok done))) (put_ends : EndsAtItsMarks s m) (seen : t.seen ≡ m.seen) where
    -- the get was done too
    module _ (value : PvValue) (get : Calls m t (AreGet a.site a.channel a.atomic (Ok value))) where
      pub both_calls : Calls s t (ArePutGet a (Ok (done, value)))
      both_calls = subst (λ (w : Bool). Calls s t (ArePutGetBy w a (Ok (done, value)))) (sym apart) (record {
        marks = put.marks ++ get.marks;
        adds = adds_more put.adds get.adds;
        named = record { puts = put.marks; gets = get.marks; marks_are = refl; put = put.named; got = get.named };
      })

      pub both_ends : EndsAtItsMarks m t → EndsAtItsMarks s t
      both_ends get_ends = ends_both s m t seen put_ends get_ends

    -- for the get memory ran out
    module _ (e : pvd.NoMemory) (get : Calls m t (AreGet a.site a.channel a.atomic (Err e))) where
      pub stopped_calls : Calls s t (ArePutGet a (Err (answers.NoMemory done.count)))
      stopped_calls = subst (λ (w : Bool). Calls s t (ArePutGetBy w a (Err (answers.NoMemory done.count)))) (sym apart) (record {
        marks = put.marks ++ get.marks;
        adds = adds_more put.adds get.adds;
        named = record {
          puts = put.marks;
          gets = get.marks;
          marks_are = refl;
          put = record {
            added = subst (λ (l : List (List (ℕ × Action))). AreAdded a l put.marks) (sym all_asked) put.named.added;
            done_is = put.named.count_is;
          };
          got = get.named;
          behind = inr (put.named.entries, (put.named.asked, put.named.count_is ∙ many));
        };
      }) where
        asked_are : entries_or_none (asked_entries a) ≡ put.named.entries
        asked_are = ap entries_or_none put.named.asked

        many : length put.marks ≡ length put.named.entries
        many = many_added a put.named.entries put.marks put.named.added

        all_asked : take done.count (entries_or_none (asked_entries a)) ≡ put.named.entries
        all_asked = ap (take done.count) asked_are ∙ ap (λ (n : ℕ). take n put.named.entries) (put.named.count_is ∙ many) ∙ take-length put.named.entries

    -- the ports are driven by the put alone
    module _ (new : Ports) (same : new ≡ mid) (number : t.number ≡ m.number) (drives : DrivesPorts s m old mid a (Ok done)) where
      still_own : (at : ℕ) → at ≡ done.first → AreOwnFrom t at drives.added
      still_own at is =
          subst (λ (h : History). map (λ (e : Entry). (t.number, e)) drives.added ≡ take (length drives.added) (drop at (entries h))) (sym seen)
          (subst (λ (n : ℕ). map (λ (e : Entry). (n, e)) drives.added ≡ take (length drives.added) (drop at (entries m.seen))) (sym number)
          (subst (λ (n : ℕ). AreOwnFrom m n drives.added) (sym is) drives.there))

      pub both_drive : DrivesPorts s t old new a (Ok done)
      both_drive = record {
        added = drives.added;
        as_many = drives.as_many;
        there = still_own done.first refl;
        driven = subst (λ (p : Ports). AreDrivenInTurn old p drives.added) (sym same) drives.driven;
      }

      pub stopped_drive : done.first ≡ now s → DrivesPorts s t old new a (Err (answers.NoMemory done.count))
      stopped_drive first = record {
        added = drives.added;
        as_many = drives.as_many;
        there = still_own (now s) (sym first);
        between = mid;
        driven = drives.driven;
        drives = [];
        writes = [];
        tried = same;
        first = tt;
      }
