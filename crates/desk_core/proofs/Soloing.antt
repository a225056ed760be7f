-- What one more entry of a put comes to, on a desk that nobody shares.
use Rattle.std.proofs.Common.{◌≡◌, ℕ, ◌+◌, ◌≤◌, ◌<◌, Bool, List, [], ◌∷◌, ◌++◌, length, take, Some, Result, Ok, Err, refl, sym, ◌∙◌, ap, subst, arith, length-append}
use Rattle.std.specs.List.{slice_get, list_all, list_any}
use Rattle.std.specs.Prelude.{IsTrue, ◌==◌}
use Rattle.std.proofs.Math.Seq.{take-length}
use Rattle.rec_kinds.specs.Configs.{Config}
use Rattle.rec_kinds.specs.declared.datum.Action.{Action}
use Rattle.rec_kinds.specs.declared.state.RecState.{RecState}
use Rattle.histories.specs.declared.story.Deed.{Deed}
use Rattle.histories.specs.declared.story.Deed.TheVariants as deeds
use Rattle.histories.specs.History.{deeds_by, tagged}
use Rattle.histories.proofs.Prefixes.{at_end, front_of}
use Rattle.histories.proofs.Stories.{entries_append, own_more, tagged_append}
use Rattle.journal_core.specs.Moments.{Moment}
use Rattle.journal_core.specs.Weights.{weight, weight_with}
use Rattle.journal_core.specs.Histories.{Journal, written, kept}
use Rattle.journal_core.specs.Histories as journals
use Rattle.journal_core.specs.Legality.{AreProcessed, AreValid, IsLegalEntry, IsLegal as AreLegal}
use Rattle.journal_core.proofs.Growing.{next_state, kept_append, legal_push, replayed_count}
use Rattle.journal_core.proofs.Keeping.{valid_entry}
use Rattle.journal_core.specs.declared.entry.Entry.{Entry}
use Rattle.desk_api.specs.History.{entries, commits, state_at, kept_at, IsLegal}
use Rattle.desk_api.specs.Puts.{footprint_with}
use Rattle.desk_api.specs.Views.{AreStatesOf}
use Rattle.desk_api.specs.Calls.{Adds, Calls, first_seat, with_mark, now, EndsAtLastMark}
use Rattle.desk_api.proofs.Adding.{as_many, adds_nothing}
use Rattle.desk_api.specs.declared.history.Base.{Base}
use Rattle.desk_api.specs.History.{Item}
use Rattle.desk_api.specs.declared.history.SiteData.{SiteData}
use Rattle.desk_api.specs.declared.mark.Mark.{Mark}
use Rattle.desk_api.specs.declared.mark.Mark.TheVariants.{Entered, Overweight}
use Rattle.desk_api.specs.declared.mark.Seat.{Seat}
use Rattle.desk_api.specs.declared.put.PutAnswer.{PutAnswer}
use Rattle.desk_api.specs.declared.put.PutAnswer.TheVariants as answers
use Rattle.desk_core.specs.Begun.{Enters, IsHeld, IsPutNow}
use Rattle.desk_core.specs.Effects.{IsBroken, IsDraft, restored}
use Rattle.desk_core.specs.Ports.{Ports}
use Rattle.desk_core.specs.Standing.{Stands}
use Rattle.desk_core.proofs.Doing.{done_broken}
use Rattle.desk_core.proofs.Marking.{entries_now, adds_mark, ends_at, looks, looks_end, still, same_seen}

-- a record of the opening has a cell, and the other way round
pub in_opening : {base : Base} {cells : List RecState} {journal : Journal} (s : Seat) (x : Stands base cells journal s) → length cells ≡ length journal.opening
in_opening s x =
    omega (arith, ap length x.cells_are, replayed_count s.seen.base.site.opening (take (now s) (commits s.seen)), ap (λ (b : Base). length b.site.opening) x.base_is, ap length x.opening_is)

-- the same of the opening of the site
pub opening_cells : {base : Base} {cells : List RecState} {journal : Journal} (s : Seat) (x : Stands base cells journal s) → length base.site.opening ≡ length cells
opening_cells s x = omega (arith, in_opening s x, ap length x.opening_is)

-- where the next entry stands
pub first_is : {base : Base} {cells : List RecState} {journal : Journal} (s : Seat) (x : Stands base cells journal s) → length journal.entries ≡ now s
first_is s x = ap length x.entries_are ∙ sym (as_many s.seen)

-- the entries are legal from the site's opening on
abbrev journals_legal : SiteData → List Entry → Type 0
journals_legal site es = AreLegal site.configs site.opening es

-- an entry that is too heavy
module _ {base : Base} {cells : List RecState} {journal : Journal} (s t : Seat) (x : Stands base cells journal s) (legal : IsLegal s.seen) (footprint : List ℕ) (actions : List (ℕ × Action)) (entry : Entry) (held added bound : ℕ)
    (footprint_is : entry.footprint ≡ footprint) (actions_are : entry.actions ≡ actions) (marked : t ≡ with_mark s (λ at. Overweight at entry.footprint entry.actions held added bound)) where
  abbrev refuses : ℕ → Mark
  refuses at = Overweight at footprint actions held added bound

  abbrev with_parts : List ℕ → List (ℕ × Action) → Seat
  with_parts f l = with_mark s (λ at. Overweight at f l held added bound)

  same : t ≡ with_mark s refuses
  same = marked ∙ (λ i. with_parts (footprint_is i) (actions_are i))

  kept_now : kept_at s.seen (now s) ≡ kept journal.entries
  kept_now = ap kept (ap (λ (n : ℕ). take n (commits s.seen)) (as_many s.seen) ∙ take-length (commits s.seen) ∙ sym x.entries_are)

  pub heavy_adds : held ≡ kept journal.entries → added ≡ weight entry → bound ≡ base.limit → bound < held + added → Adds s t (Overweight (now s) footprint actions held added bound ∷ [])
  heavy_adds kept_is added_is limit_is above = subst (λ (z : Seat). Adds s z (refuses (now s) ∷ [])) (sym same)
      (looks s refuses refl refl refl (record {
        within = omega arith;
        kept_is = kept_is ∙ sym kept_now;
        added_is = added_is ∙ (λ i. weight_with (footprint_is i) (actions_are i));
        limit_is = limit_is ∙ sym (ap (λ (b : Base). b.limit) x.base_is);
        above = above;
      }) legal)

  pub heavy_seen : t.seen ≡ s.seen
  heavy_seen = ap (λ (z : Seat). z.seen) same ∙ same_seen s refuses refl

  pub heavy_ends : EndsAtLastMark t
  heavy_ends = subst EndsAtLastMark (sym same) (looks_end s refuses refl refl)

  pub heavy_stands : Stands base cells journal t
  heavy_stands = subst (Stands base cells journal) (sym same) (still s refuses refl x)

  pub heavy_legal : IsLegal t.seen
  heavy_legal = subst IsLegal (sym heavy_seen) legal

-- an entry
module _ {base : Base} {cells : List RecState} {journal : Journal} (s t : Seat) (x : Stands base cells journal s) (was_legal : IsLegal s.seen) (entry : Entry) (looked : List ℕ) (found : List RecState)
    (legal : IsLegalEntry base.site.configs cells entry) (finds : AreStatesOf (written cells entry.writes) looked found)
    (light : kept journal.entries + weight entry ≤ base.limit) (same : t ≡ with_mark s (λ at. Entered at entry looked found)) where
  abbrev enters : ℕ → Mark
  enters at = Entered at entry looked found

  abbrev u : Seat
  u = with_mark s enters

  entries_are : entries u.seen ≡ entries s.seen ++ (s.number, entry) ∷ []
  entries_are = entries_now s enters

  commits_are : commits u.seen ≡ commits s.seen ++ entry ∷ []
  commits_are = entries_append s.seen.deeds (tagged s.number (deeds.Entry entry ∷ []))

  one_more : now u ≡ now s + 1
  one_more = ap length entries_are ∙ length-append (entries s.seen) ((s.number, entry) ∷ [])

  cells_at : cells ≡ journals.state_at s.seen.base.site.opening (commits s.seen) (length (commits s.seen))
  cells_at = x.cells_are ∙ ap (λ (n : ℕ). state_at s.seen n) (as_many s.seen)

  there : slice_get (entries u.seen) (now s) ≡ Some (s.number, entry)
  there = ap (λ (es : List (ℕ × Entry)). slice_get es (now s)) entries_are ∙ at_end (entries s.seen) (s.number, entry)

  kept_before : kept_at u.seen (now s) ≡ kept journal.entries
  kept_before =
      ap kept (ap (take (now s)) commits_are ∙ ap (λ (n : ℕ). take n (commits s.seen ++ entry ∷ [])) (as_many s.seen) ∙ front_of (commits s.seen) entry ∙ sym x.entries_are)

  legal_now : IsLegal u.seen
  legal_now =
      let configs_are : base.site.configs ≡ s.seen.base.site.configs = ap (λ (b : Base). b.site.configs) (sym x.base_is) in
      subst (journals_legal s.seen.base.site) (sym commits_are)
      (legal_push s.seen.base.site.configs s.seen.base.site.opening (commits s.seen) entry was_legal
      (subst (λ (z : List RecState). IsLegalEntry s.seen.base.site.configs z entry) cells_at (subst (λ (c : List Config). IsLegalEntry c cells entry) configs_are legal)))

  -- the cells are then the last states
  cells_now : written cells entry.writes ≡ state_at u.seen (now u)
  cells_now =
      ap (λ (z : List RecState). written z entry.writes) cells_at
      ∙ sym (next_state s.seen.base.site.opening (commits s.seen) entry)
      ∙ ap (journals.state_at s.seen.base.site.opening (commits s.seen ++ entry ∷ [])) (ap (λ (n : ℕ). n + 1) (sym (as_many s.seen)) ∙ sym one_more)
      ∙ ap (λ (es : List Entry). journals.state_at s.seen.base.site.opening es (now u)) (sym commits_are)

  found_now : AreStatesOf (state_at u.seen (now s + 1)) looked found
  found_now = subst (λ (l : List RecState). AreStatesOf l looked found) (cells_now ∙ ap (state_at u.seen) one_more) finds

  pub entered_adds : Adds s t (Entered (now s) entry looked found ∷ [])
  entered_adds = subst (λ (z : Seat). Adds s z (enters (now s) ∷ [])) (sym same)
      (adds_mark s enters refl (omega (arith, one_more)) (record { there = there; light = omega (arith, light, kept_before, ap (λ (b : Base). b.limit) x.base_is); found_is = found_now }) legal_now)

  pub entered_entries : entries t.seen ≡ entries s.seen ++ (s.number, entry) ∷ []
  entered_entries = ap (λ (z : Seat). entries z.seen) same ∙ entries_are

  pub entered_ends : EndsAtLastMark t
  entered_ends = subst EndsAtLastMark (sym same) (ends_at s enters (sym one_more))

  pub entered_legal : IsLegal t.seen
  entered_legal = subst (λ (z : Seat). IsLegal z.seen) (sym same) legal_now

  pub entered_stands : (after : List RecState) (new : Journal) → after ≡ written cells entry.writes → new.opening ≡ journal.opening → new.entries ≡ journal.entries ++ entry ∷ [] → Stands base after new t
  entered_stands after new after_is opening_is entries_is =
      subst (Stands base after new) (sym same) (record {
        base_is = x.base_is;
        own = ap (λ (ds : List (ℕ × Deed Entry Item)). ds ++ tagged s.number (deeds.Entry entry ∷ [])) x.own
            ∙ sym (tagged_append s.number (deeds_by s.number s.seen.deeds) (deeds.Entry entry ∷ []))
            ∙ ap (tagged s.number) (sym (own_more s.number s.seen.deeds (deeds.Entry entry ∷ [])));
        opening_is = opening_is ∙ x.opening_is;
        entries_are = entries_is ∙ ap (λ (es : List Entry). es ++ entry ∷ []) x.entries_are ∙ sym commits_are;
        cells_are = after_is ∙ cells_now;
        light = omega (arith, light, ap kept entries_is, kept_append journal.entries (entry ∷ []));
      })

  pub entered_valid : (after : List RecState) → after ≡ written cells entry.writes → AreValid base.site.configs after
  entered_valid after after_is = subst (AreValid base.site.configs) (sym after_is) (valid_entry base.site.configs cells entry legal)

-- ---- a draft

-- an entry writes only records that it holds, whatever its actions are
abbrev pub WriteInside : Type 0
WriteInside = (site : SiteData) (states : List RecState) (moment : Moment) (actions : List (ℕ × Action)) (looked : List ℕ) (drove : List Bool) (writes : List (ℕ × RecState)) → AreProcessed site.configs states moment actions drove writes
    → IsTrue (list_all (λ (write : ℕ × RecState). list_any (λ (rec : ℕ). rec == write.0) (footprint_with site actions looked)) writes)

module _ (inside : WriteInside) (base : Base) (cells after : List RecState) (journal : Journal) (s : Seat) (x : Stands base cells journal s) (was_legal : IsLegal s.seen) (valid : AreValid base.site.configs cells)
    (old new : Ports) (actions : List (ℕ × Action)) (looked : List ℕ) (found : List RecState) (moment : Moment) (entry : Entry) (before : List (ℕ × RecState)) (d : IsDraft base.site cells after old new actions looked moment entry before)
    (finds : AreStatesOf after looked found) where
  held : IsHeld base.site moment actions looked entry
  held = record { actions_are = d.actions_are; footprint_is = d.footprint_is; moment_is = d.moment_is }

  legal : IsLegalEntry base.site.configs cells entry
  legal = record {
    valid = valid;
    processed = subst (λ (l : List (ℕ × Action)). AreProcessed base.site.configs cells entry.moment l entry.drove entry.writes) (sym d.actions_are)
        (subst (λ (m : Moment). AreProcessed base.site.configs cells m actions entry.drove entry.writes) (sym d.moment_is) d.done.processed);
    inside = subst (λ (f : List ℕ). IsTrue (list_all (λ (write : ℕ × RecState). list_any (λ (rec : ℕ). rec == write.0) f) entry.writes)) (sym d.footprint_is)
        (inside base.site cells moment actions looked entry.drove entry.writes d.done.processed);
  }

  tried : IsBroken base.site.configs (state_at s.seen (now s)) old new actions moment
  tried = subst (λ (states : List RecState). IsBroken base.site.configs states old new actions moment) x.cells_are (done_broken base.site.configs moment cells after old new actions entry.drove entry.writes before d.done)

  found_there : AreStatesOf (written cells entry.writes) looked found
  found_there = subst (λ (l : List RecState). AreStatesOf l looked found) d.done.cells_are finds

  -- what its entry came to
  pub draft_put : (done : ℕ) (now_ : Journal) (t : Seat) (result : Result ℕ PutAnswer) → Enters entry looked found base.limit done journal now_ s t result → IsPutNow base.site moment actions looked found done s t old new result
  draft_put done now_ t (Ok at) e = record {
    entry = entry;
    held = held;
    at_is = e.at_is ∙ first_is s x;
    adds = entered_adds s t x was_legal entry looked found legal found_there e.light e.marked;
    entries_are = entered_entries s t x was_legal entry looked found legal found_there e.light e.marked;
    ends = entered_ends s t x was_legal entry looked found legal found_there e.light e.marked;
    driven = d.done.driven;
  }
  draft_put done now_ t (Err (answers.Refused refusal)) e = absurd e
  draft_put done now_ t (Err (answers.JournalFull kept_ weight_ limit_ done_)) e = (
    record {
      adds = heavy_adds s t x was_legal (footprint_with base.site actions looked) actions entry kept_ weight_ limit_ d.footprint_is d.actions_are e.marked e.kept_is e.weight_is e.limit_is (subst (λ (n : ℕ). n < kept_ + weight_) (sym e.limit_is) e.above);
      same = heavy_seen s t x was_legal (footprint_with base.site actions looked) actions entry kept_ weight_ limit_ d.footprint_is d.actions_are e.marked;
      ends = heavy_ends s t x was_legal (footprint_with base.site actions looked) actions entry kept_ weight_ limit_ d.footprint_is d.actions_are e.marked;
      tried = tried;
    },
    e.done_is,
  )
  draft_put done now_ t (Err (answers.NoMemory done_)) e = (record { same = e.unmarked; tried = tried }, e.done_is)

  -- where it stands
  pub put_stands : (done : ℕ) (now_ : Journal) (t : Seat) (at : ℕ) → Enters entry looked found base.limit done journal now_ s t (Ok at) → Stands base after now_ t
  put_stands done now_ t at e = entered_stands s t x was_legal entry looked found legal found_there e.light e.marked after now_ d.done.cells_are e.opening_is e.entries_are

  pub put_legal : (done : ℕ) (now_ : Journal) (t : Seat) (at : ℕ) → Enters entry looked found base.limit done journal now_ s t (Ok at) → IsLegal t.seen
  put_legal done now_ t at e = entered_legal s t x was_legal entry looked found legal found_there e.light e.marked

  pub put_valid : (done : ℕ) (now_ : Journal) (t : Seat) (at : ℕ) → Enters entry looked found base.limit done journal now_ s t (Ok at) → AreValid base.site.configs after
  put_valid done now_ t at e = entered_valid s t x was_legal entry looked found legal found_there e.light e.marked after d.done.cells_are

  -- where it doesn't, the states are put back
  left_stands : (back : List RecState) → back ≡ cells → (now_ : Journal) (t : Seat) (done : ℕ) (answer : PutAnswer) → Enters entry looked found base.limit done journal now_ s t (Err answer) → Stands base back now_ t × IsLegal t.seen
  left_stands back as_before now_ t done (answers.Refused refusal) e = absurd e
  left_stands back as_before now_ t done (answers.JournalFull kept_ weight_ limit_ done_) e = (
    subst (λ (c : List RecState). Stands base c now_ t) (sym as_before) (subst (λ (j : Journal). Stands base cells j t) (sym e.same)
        (heavy_stands s t x was_legal (footprint_with base.site actions looked) actions entry kept_ weight_ limit_ d.footprint_is d.actions_are e.marked)),
    heavy_legal s t x was_legal (footprint_with base.site actions looked) actions entry kept_ weight_ limit_ d.footprint_is d.actions_are e.marked,
  )
  left_stands back as_before now_ t done (answers.NoMemory done_) e = (
    subst (λ (c : List RecState). Stands base c now_ t) (sym as_before) (subst (λ (z : Journal × Seat). Stands base cells z.0 z.1) (λ i. (sym e.same i, sym e.unmarked i)) x),
    subst (λ (z : Seat). IsLegal z.seen) (sym e.unmarked) was_legal,
  )

  pub refused_stands : (back : List RecState) → back ≡ restored after before → (now_ : Journal) (t : Seat) (done : ℕ) (answer : PutAnswer) → Enters entry looked found base.limit done journal now_ s t (Err answer) → Stands base back now_ t
  refused_stands back is now_ t done answer e = (left_stands back (is ∙ d.done.kept) now_ t done answer e).0

  pub refused_legal : (now_ : Journal) (t : Seat) (done : ℕ) (answer : PutAnswer) → Enters entry looked found base.limit done journal now_ s t (Err answer) → IsLegal t.seen
  refused_legal now_ t done answer e = (left_stands cells refl now_ t done answer e).1

  pub back_valid : (back : List RecState) → back ≡ restored after before → AreValid base.site.configs back
  back_valid back is = subst (AreValid base.site.configs) (sym (is ∙ d.done.kept)) valid

-- before any call
pub first_stands : (base : Base) (cells : List RecState) (journal : Journal) (s : Seat) → s ≡ first_seat base → cells ≡ base.site.opening → journal.opening ≡ base.site.opening → journal.entries ≡ [] → Stands base cells journal s
first_stands base cells journal s is cells_are opening_is entries_are = subst (Stands base cells journal) (sym is) (record {
  base_is = refl;
  own = refl;
  opening_is = opening_is;
  entries_are = entries_are;
  cells_are = cells_are;
  light = omega (arith, ap kept entries_are);
})

pub first_legal : (base : Base) (s : Seat) → s ≡ first_seat base → IsLegal s.seen
first_legal base s is = subst (λ (z : Seat). IsLegal z.seen) (sym is) tt
