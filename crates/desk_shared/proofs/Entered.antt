-- What the entries of a put come to on a desk on a pass.
use Rattle.std.proofs.Common.{◌≡◌, ◌==◌, ℕ, ◌+◌, ◌<◌, zero, suc, Bool, true, false, List, [], ◌∷◌, ◌++◌, length, take, Some, Ok, Err, Result, IsTrue, inl, inr, refl, sym, ◌∙◌, ap, subst, arith, length-append}
use Rattle.std.specs.Prelude.{if◌then◌else◌}
use Rattle.std.specs.List.{slice_get, list_all, list_any, AllByRecursion}
use Rattle.std.specs.List.Sorted.{IsStrictlyIncreasing}
use Rattle.std.proofs.lemmas.List.{append-nil}
use Rattle.std.proofs.lemmas.Bool.Decides.{nat_tests}
use Rattle.rec_kinds.specs.declared.datum.Action.{Action}
use Rattle.rec_kinds.specs.declared.state.RecState.{RecState}
use Rattle.journal_core.specs.Legality.{AreProcessed, AreValid}
use Rattle.journal_core.specs.Moments.{Moment}
use Rattle.journal_core.specs.declared.entry.Entry.{Entry}
use Rattle.desk_api.specs.Calls.{Adds, Asked, AreAdded, ArePut, Calls, EndsAtItsMarks, OnTold, asked_entries, entries_or_none, first_place}
use Rattle.desk_api.specs.History.{IsLegal}
use Rattle.desk_api.specs.Marks.{place}
use Rattle.desk_api.specs.Puts.{footprint_with, is_held}
use Rattle.desk_api.specs.Sites.{AreOver}
use Rattle.desk_api.specs.declared.history.SiteData.{SiteData}
use Rattle.desk_api.specs.declared.mark.Mark.{Mark}
use Rattle.desk_api.specs.declared.mark.Mark.TheVariants.{Entered, Overweight}
use Rattle.desk_api.specs.declared.mark.Seat.{Seat}
use Rattle.desk_api.specs.declared.put.Done.{Done}
use Rattle.desk_api.specs.declared.put.PutAnswer.{PutAnswer}
use Rattle.desk_api.specs.declared.put.PutAnswer.TheVariants as answers
use Rattle.desk_api.proofs.Adding.{adds_more, adds_nothing}
use Rattle.desk_api.proofs.Holding.{looks_at_none}
use Rattle.desk_api.proofs.Strict.{put_gets_rise}
use Rattle.desk_core.proofs.Soloing.{WriteInside}
use Rattle.desk_core.specs.Begun.{IsHeld}
use Rattle.desk_core.specs.Effects.{IsDraft}
use Rattle.desk_core.specs.Ports.{Ports}
use Rattle.desk_shared.specs.Entries.{AreAllHeld, AreEntered, AreEntry, AreFullAfter, ArePutInTurn, AreStoppedAfter, IsEntered}
use Rattle.desk_shared.specs.Exchanges.{AreExchanged}
use Rattle.desk_shared.specs.Hands.{HasHub, IsDrafted}
use Rattle.desk_shared.specs.Records.{Sight}
use Rattle.desk_shared.specs.declared.books.Books.{Books}
use Rattle.desk_shared.proofs.Footprints.{footprint_within, held_there, looked_there}
use Rattle.desk_shared.proofs.Listed.{among, written_count}
use Rattle.desk_shared.proofs.Looked.{longer_log}

-- ---- a draft on the records in hand

module _ (inside : WriteInside) (site : SiteData) (over : AreOver site) (w : Sight) (hub : Books) (recs : List ℕ) (taken hand mixed after : List RecState) (has : HasHub w hub recs taken) (site_is : w.seen.base.site ≡ site)
    (x : AreExchanged recs taken hand site.opening mixed) (valid : AreValid site.configs mixed) (opens : AreValid site.configs site.opening) (count : length site.configs ≡ length site.opening) (old new : Ports)
    (actions : List (ℕ × Action)) (looked : List ℕ) (moment : Moment) (entry : Entry) (before : List (ℕ × RecState)) (d : IsDraft site mixed after old new actions looked moment entry before) (recs_are : recs ≡ footprint_with site actions looked)
    (within : AllByRecursion (λ (a : ℕ × Action). a.0 < length site.configs) actions) (below : AllByRecursion (λ (rec : ℕ). rec < length site.configs) looked) where
  pub drafted : IsDrafted w hub recs hand site after before entry looked
  drafted = record {
    undoes = record {
      taken = taken;
      mixed = mixed;
      has = has;
      rises = subst IsStrictlyIncreasing (sym recs_are) (put_gets_rise site actions looked);
      inside = subst (λ (n : ℕ). AllByRecursion (λ (rec : ℕ). rec < n) recs) count (subst (AllByRecursion (λ (rec : ℕ). rec < length site.configs)) (sym recs_are) (footprint_within site actions looked over within below));
      exchanged = x;
      back_is = d.done.kept;
      within = subst (λ (n : ℕ). AllByRecursion (λ (held : ℕ × RecState). held.0 < n) before) (sym (ap length d.done.cells_are ∙ written_count mixed entry.writes)) d.done.within;
    };
    site_is = site_is;
    legal = record {
      valid = valid;
      processed = subst (λ (l : List (ℕ × Action)). AreProcessed site.configs mixed entry.moment l entry.drove entry.writes) (sym d.actions_are)
          (subst (λ (m : Moment). AreProcessed site.configs mixed m actions entry.drove entry.writes) (sym d.moment_is) d.done.processed);
      inside = subst (λ (f : List ℕ). IsTrue (list_all (λ (write : ℕ × RecState). list_any (λ (rec : ℕ). rec == write.0) f) entry.writes)) (sym d.footprint_is)
          (inside site mixed moment actions looked entry.drove entry.writes d.done.processed);
    };
    states_are = d.done.cells_are;
    footprint_is = d.footprint_is ∙ sym recs_are;
    actions_held = λ k is. subst (λ (l : List ℕ). among l k ≡ true) (sym recs_are) (held_there site actions looked over within below k (subst (λ (l : List (ℕ × Action)). is_held site l k ≡ true) d.actions_are is));
    looked_held = λ k is. subst (λ (l : List ℕ). among l k ≡ true) (sym recs_are) (looked_there site actions looked over within below k is);
  }

-- ---- an entry of a put

module _ (site : SiteData) (mixed after : List RecState) (old new : Ports) (actions : List (ℕ × Action)) (looked : List ℕ) (moment : Moment) (entry : Entry) (before : List (ℕ × RecState)) (d : IsDraft site mixed after old new actions looked moment entry before)
    (found : List RecState) where
  held : IsHeld site moment actions looked entry
  held = record { actions_are = d.actions_are; footprint_is = d.footprint_is; moment_is = d.moment_is }

  pub entry_named : (done : ℕ) (r : Result ℕ PutAnswer) (marks : List Mark) → AreEntered entry looked found done r marks → AreEntry site moment actions looked found done r marks
  entry_named done (Ok at) marks e = record { entry = entry; held = held; marks_are = e }
  entry_named done (Err (answers.Refused refusal)) marks e = absurd e
  entry_named done (Err (answers.JournalFull kept_ weight_ limit_ done_)) marks e = (
    record { at = e.0.0; marks_are = e.0.1 ∙ (λ i. Overweight e.0.0 (d.footprint_is i) (d.actions_are i) kept_ weight_ limit_ ∷ []) },
    e.1,
  )
  entry_named done (Err (answers.NoMemory done_)) marks e = e

  pub entry_calls : (s t : Seat) (done : ℕ) (r : Result ℕ PutAnswer) → Calls s t (AreEntered entry looked found done r) → Calls s t (AreEntry site moment actions looked found done r)
  entry_calls s t done r c = record { marks = c.marks; adds = c.adds; named = entry_named done r c.marks c.named }

-- memory ran out before it
pub none_entered : (site : SiteData) (moment : Moment) (actions : List (ℕ × Action)) (looked : List ℕ) (found : List RecState) (done : ℕ) (s t : Seat) → IsLegal s.seen → t ≡ s → Calls s t (AreEntry site moment actions looked found done (Err (answers.NoMemory done)))
none_entered site moment actions looked found done s t legal same =
    subst (λ (z : Seat). Calls s z (AreEntry site moment actions looked found done (Err (answers.NoMemory done)))) (sym same) (record { marks = []; adds = adds_nothing s legal; named = (refl, refl) })

-- ---- a put of one entry

module _ (site : SiteData) (moment : Moment) (actions : List (ℕ × Action)) (s t : Seat) where
  pub whole_put : (at : ℕ) (done : Done) → done ≡ record { first = at; count = 1 } → Calls s t (AreEntry site moment actions [] [] 0 (Ok at)) → Calls s t (ArePutInTurn site moment (actions ∷ []) (Ok done))
  whole_put at done is c = record {
    marks = c.marks;
    adds = c.adds;
    named = record {
      held = subst (AreAllHeld site moment (actions ∷ [])) (sym c.named.marks_are) ((at, record { entry = c.named.entry; held = c.named.held; marks_are = refl }), tt);
      first_is = λ some. ap first_place c.named.marks_are ∙ ap (λ (d : Done). Some d.first) (sym is);
      count_is = ap (λ (d : Done). d.count) is ∙ sym (ap length c.named.marks_are);
    };
  }

  pub whole_not : (answer : PutAnswer) → Calls s t (AreEntry site moment actions [] [] 0 (Err answer)) → Calls s t (ArePutInTurn site moment (actions ∷ []) (Err answer))
  whole_not (answers.Refused refusal) c = absurd c.named
  whole_not (answers.JournalFull kept_ weight_ limit_ done) c = record {
    marks = c.marks;
    adds = c.adds;
    named = subst (λ (n : ℕ). AreFullAfter site moment (actions ∷ []) kept_ weight_ limit_ n c.marks) (sym c.named.1)
        (record { before = []; held = tt; done_is = refl; actions = actions; next = refl; heavy = c.marks; heavy_is = c.named.0; marks_are = refl });
  }
  whole_not (answers.NoMemory done) c = record {
    marks = c.marks;
    adds = c.adds;
    named = subst (λ (n : ℕ). AreStoppedAfter site moment (actions ∷ []) n c.marks) (sym c.named.1)
        (record { held = subst (AreAllHeld site moment []) (sym c.named.0) tt; done_is = ap length (sym c.named.0) });
  }

-- ---- entries of a put, one after another

pub record AreSoFar (site : SiteData) (moment : Moment) (entries : List (List (ℕ × Action))) (count first : ℕ) (marks : List Mark) : Type 0 where
  pub held : AreAllHeld site moment entries marks
  pub count_is : count ≡ length marks
  pub first_is : 0 < count → first_place marks ≡ Some first

held_append : (site : SiteData) (moment : Moment) (entries : List (List (ℕ × Action))) (marks : List Mark) (actions : List (ℕ × Action)) (mark : Mark) → AreAllHeld site moment entries marks → ((at : ℕ) × IsEntered site moment actions [] [] at (mark ∷ []))
    → AreAllHeld site moment (entries ++ actions ∷ []) (marks ++ mark ∷ [])
held_append site moment [] [] actions mark held more = (more, tt)
held_append site moment [] (m ∷ marks) actions mark held more = absurd held
held_append site moment (e ∷ entries) [] actions mark held more = absurd held
held_append site moment (e ∷ entries) (m ∷ marks) actions mark held more = (held.0, held_append site moment entries marks actions mark held.1 more)

many_held : (site : SiteData) (moment : Moment) (entries : List (List (ℕ × Action))) (marks : List Mark) → AreAllHeld site moment entries marks → length marks ≡ length entries
many_held site moment [] [] held = refl
many_held site moment [] (m ∷ marks) held = absurd held
many_held site moment (e ∷ entries) [] held = absurd held
many_held site moment (e ∷ entries) (m ∷ marks) held = ap suc (many_held site moment entries marks held.1)

first_append : (marks : List Mark) (mark : Mark) (count first at : ℕ) → count ≡ length marks → (0 < count → first_place marks ≡ Some first) → place mark ≡ at → first_place (marks ++ mark ∷ []) ≡ Some (if count == 0 then at else first)
first_append [] mark zero first at is f place_is = ap (λ (n : ℕ). Some n) place_is
first_append [] mark (suc n) first at is f place_is = absurd (omega (arith, is))
first_append (m ∷ marks) mark zero first at is f place_is = absurd (omega (arith, is))
first_append (m ∷ marks) mark (suc n) first at is f place_is =
    let test : (suc n == 0) ≡ false = grind (arith, nat_tests) in
    f (omega arith) ∙ ap (λ (b : Bool). Some (if b then at else first)) (sym test)

pub none_so_far : (site : SiteData) (moment : Moment) (s : Seat) → IsLegal s.seen → Calls s s (AreSoFar site moment [] 0 0)
none_so_far site moment s legal = record { marks = []; adds = adds_nothing s legal; named = record { held = tt; count_is = refl; first_is = λ less. absurd (omega (arith, less)) } }

module _ (site : SiteData) (moment : Moment) (entries : List (List (ℕ × Action))) (count first : ℕ) (s m t : Seat) (c : Calls s m (AreSoFar site moment entries count first)) (actions : List (ℕ × Action)) where
  pub more_so_far : (at : ℕ) → Calls m t (AreEntry site moment actions [] [] count (Ok at)) → Calls s t (AreSoFar site moment (entries ++ actions ∷ []) (count + 1) (if count == 0 then at else first))
  more_so_far at e =
      let mark : Mark = Entered at e.named.entry [] [] in
      subst (λ (l : List Mark). Adds s t (c.marks ++ l) → Calls s t (AreSoFar site moment (entries ++ actions ∷ []) (count + 1) (if count == 0 then at else first))) (sym e.named.marks_are)
      (λ adds. record {
        marks = c.marks ++ mark ∷ [];
        adds = adds;
        named = record {
          held = held_append site moment entries c.marks actions mark c.named.held (at, record { entry = e.named.entry; held = e.named.held; marks_are = refl });
          count_is = ap (λ (n : ℕ). n + 1) c.named.count_is ∙ sym (length-append c.marks (mark ∷ []));
          first_is = λ some. first_append c.marks mark count first at c.named.count_is c.named.first_is refl;
        };
      })
      (adds_more c.adds e.adds)

  pub ends_so_far : (all : List (List (ℕ × Action))) → take count all ≡ entries → slice_get all count ≡ Some actions → (answer : PutAnswer) → Calls m t (AreEntry site moment actions [] [] count (Err answer)) → Calls s t (ArePutInTurn site moment all (Err answer))
  ends_so_far all taken next (answers.Refused refusal) e = absurd e.named
  ends_so_far all taken next (answers.JournalFull kept_ weight_ limit_ done) e = record {
    marks = c.marks ++ e.marks;
    adds = adds_more c.adds e.adds;
    named = subst (λ (n : ℕ). AreFullAfter site moment all kept_ weight_ limit_ n (c.marks ++ e.marks)) (sym e.named.1) (record {
      before = c.marks;
      held = subst (λ (l : List (List (ℕ × Action))). AreAllHeld site moment l c.marks) (sym taken) c.named.held;
      done_is = c.named.count_is;
      actions = actions;
      next = next;
      heavy = e.marks;
      heavy_is = e.named.0;
      marks_are = refl;
    });
  }
  ends_so_far all taken next (answers.NoMemory done) e = record {
    marks = c.marks ++ e.marks;
    adds = adds_more c.adds e.adds;
    named = subst (λ (x : ℕ × List Mark). AreStoppedAfter site moment all x.0 (c.marks ++ x.1)) (λ i. (sym e.named.1 i, sym e.named.0 i)) (record {
      held = subst (λ (l : List Mark). AreAllHeld site moment (take count all) l) (sym (append-nil c.marks)) (subst (λ (l : List (List (ℕ × Action))). AreAllHeld site moment l c.marks) (sym taken) c.named.held);
      done_is = c.named.count_is ∙ ap length (sym (append-nil c.marks));
    });
  }

-- memory ran out before the next one
pub stopped_so_far : (site : SiteData) (moment : Moment) (entries : List (List (ℕ × Action))) (count first : ℕ) (s m : Seat) → Calls s m (AreSoFar site moment entries count first) → (all : List (List (ℕ × Action))) → take count all ≡ entries
    → Calls s m (ArePutInTurn site moment all (Err (answers.NoMemory count)))
stopped_so_far site moment entries count first s m c all taken = record {
  marks = c.marks;
  adds = c.adds;
  named = record { held = subst (λ (l : List (List (ℕ × Action))). AreAllHeld site moment l c.marks) (sym taken) c.named.held; done_is = c.named.count_is };
}

pub all_so_far : (site : SiteData) (moment : Moment) (entries : List (List (ℕ × Action))) (count first : ℕ) (s m : Seat) → Calls s m (AreSoFar site moment entries count first) → Calls s m (ArePutInTurn site moment entries (Ok (record { first = first; count = count })))
all_so_far site moment entries count first s m c = record {
  marks = c.marks;
  adds = c.adds;
  named = record {
    held = c.named.held;
    first_is = λ some. c.named.first_is (omega (arith, some, c.named.count_is, many_held site moment entries c.marks c.named.held));
    count_is = c.named.count_is;
  };
}

-- each makes a mark, at which the history then ends
module _ (site : SiteData) (moment : Moment) (actions : List (ℕ × Action)) (count : ℕ) (s m t : Seat) where
  pub entry_ends : (at : ℕ) → Calls m t (AreEntry site moment actions [] [] count (Ok at)) → EndsAtItsMarks m t → EndsAtItsMarks s t
  entry_ends at e (inl same) = absurd (longer_log m.log t.log (Entered at e.named.entry [] []) (e.adds.log ∙ ap (λ (l : List Mark). m.log ++ l) e.named.marks_are) same)
  entry_ends at e (inr ends) = inr ends

  pub answer_ends : (answer : PutAnswer) → Calls m t (AreEntry site moment actions [] [] count (Err answer)) → OnTold {A = ℕ} (Err answer) (EndsAtItsMarks m t) → OnTold {A = Done} (Err answer) (EndsAtItsMarks s t)
  answer_ends (answers.Refused refusal) e ends = absurd e.named
  answer_ends (answers.JournalFull kept_ weight_ limit_ done) e (inl same) =
      absurd (longer_log m.log t.log (Overweight e.named.0.at (footprint_with site actions []) actions kept_ weight_ limit_) (e.adds.log ∙ ap (λ (l : List Mark). m.log ++ l) e.named.0.marks_are) same)
  answer_ends (answers.JournalFull kept_ weight_ limit_ done) e (inr ends) = inr ends
  answer_ends (answers.NoMemory done) e ends = tt

-- ---- what a put is for every desk

abbrev first_mark : Mark → List Mark → Mark
first_mark d [] = d
first_mark d (m ∷ marks) = m

added_by : (a : Asked) (entries : List (List (ℕ × Action))) (marks : List Mark) → AreAllHeld a.site a.moment entries marks → AreAdded a entries marks
added_by a [] [] held = tt
added_by a [] (m ∷ marks) held = absurd held
added_by a (e ∷ entries) [] held = absurd held
added_by a (e ∷ entries) (m ∷ marks) held =
    let h = held.0.1 in (
      record { at = held.0.0; entry = h.entry; mark_is = ap (first_mark m) h.marks_are; actions_are = h.held.actions_are; footprint_is = h.held.footprint_is ∙ looks_at_none a.site e; moment_is = h.held.moment_is },
      added_by a entries marks held.1,
    )

module _ (a : Asked) (all : List (List (ℕ × Action))) (is : asked_entries a ≡ Ok all) (s t : Seat) where
  pub put_calls : 0 < length all → (r : Result Done PutAnswer) → Calls s t (ArePutInTurn a.site a.moment all r) → Calls s t (ArePut a r)
  put_calls some (Ok done) c = record {
    marks = c.marks;
    adds = c.adds;
    named = record { entries = all; asked = is; added = added_by a all c.marks c.named.held; first_is = c.named.first_is some; count_is = c.named.count_is };
  }
  put_calls some (Err (answers.Refused refusal)) c = absurd c.named
  put_calls some (Err (answers.JournalFull kept_ weight_ limit_ done)) c =
      let n = c.named in record {
        marks = c.marks;
        adds = c.adds;
        named = record {
          entries = all;
          asked = is;
          before = n.before;
          added = added_by a (take done all) n.before n.held;
          done_is = n.done_is;
          actions = n.actions;
          next = n.next;
          at = n.heavy_is.at;
          marks_are = n.marks_are ∙ ap (λ (l : List Mark). n.before ++ l) (n.heavy_is.marks_are ∙ ap (λ (f : List ℕ). Overweight n.heavy_is.at f n.actions kept_ weight_ limit_ ∷ []) (looks_at_none a.site n.actions));
        };
      }
  put_calls some (Err (answers.NoMemory done)) c = record {
    marks = c.marks;
    adds = c.adds;
    named = record {
      added = subst (λ (l : List (List (ℕ × Action))). AreAdded a (take done l) c.marks) (sym (ap entries_or_none is)) (added_by a (take done all) c.marks c.named.held);
      done_is = c.named.done_is;
    };
  }
