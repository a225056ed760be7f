-- The steps that give the hub back with a mark.
use Rattle.std.proofs.Common.{◌≡◌, ◌≢◌, ℕ, ◌+◌, ◌≤◌, List, [], ◌∷◌, ◌++◌, length, take, Bool, true, false, None, Some, refl, sym, ◌∙◌, ap, subst, arith}
use Rattle.std.proofs.lemmas.List.{append-nil, length-append, take-append-le}
use Rattle.std.proofs.lemmas.List.Sums.{fold-append}
use Rattle.std.proofs.Math.Seq.{take-length}
use Rattle.std.specs.List.{slice_get}
use Rattle.rec_kinds.specs.declared.state.RecState.{RecState}
use Rattle.histories.specs.History.{tagged}
use Rattle.histories.specs.declared.story.Deed.TheVariants as deeds
use Rattle.histories.proofs.Stories.{entries_append, roll_by_seat_append}
use Rattle.hall_core.specs.Meanings.{Adds as Added, adds_nothing as no_deed, adds_entry, adds_item}
use Rattle.hall_locks.specs.Hall.{with_mark as with_note}
use Rattle.hall_locks.specs.Hands.{with_entry, with_look, MayCommit, MayLook}
use Rattle.journal_core.specs.Histories.{Journal, kept, replayed, written, WritesWithin}
use Rattle.journal_core.specs.Legality.{IsLegalEntry, MayFollow, IsLegal as AreLegal}
use Rattle.journal_core.specs.Weights.{weight}
use Rattle.journal_core.specs.declared.entry.Entry.{Entry}
use Rattle.journal_core.proofs.Growing.{last_state, legal_push, replayed_count}
use Rattle.mon_shown.specs.declared.subscriptions.Readied.{Readied}
use Rattle.desk_api.specs.Calls.{Adds, EndsAtLastMark, now, with_mark}
use Rattle.desk_api.specs.History.{History, commits, entries, kept_at, roll, state_at, IsLegal}
use Rattle.desk_api.specs.Marks.{deed_of, IsTrueEntry, IsTrueIn}
use Rattle.desk_api.specs.Views.{AreStatesOf, found_in}
use Rattle.desk_api.specs.declared.history.Base.{Base}
use Rattle.desk_api.specs.declared.mark.Mark.{Mark}
use Rattle.desk_api.specs.declared.mark.Mark.TheVariants.{Read, Entered, Overweight, Begun, Crowded, Popped, Dropped}
use Rattle.desk_api.specs.declared.mark.Seat.{Seat}
use Rattle.desk_api.proofs.Adding.{as_many}
use Rattle.desk_core.proofs.Marking.{adds_mark, ends_at, entries_now, same_seen}
use Rattle.desk_core.proofs.Doing.{writes_within}
use Rattle.desk_hub.specs.Seats.{KeepsSeat, Subs, IsAside}
use Rattle.desk_hub.specs.Steps.{Commits, KeepsAll, Posts}
use Rattle.desk_shared.specs.Hands.{states_of, AgreeAt, HasHub, MayEnter}
use Rattle.desk_shared.specs.Records.{Sight, adds, base_of, records, seat_of}
use Rattle.desk_shared.specs.declared.books.Books.{Books}
use Rattle.desk_shared.specs.declared.records.RecCell.{RecCell}
use Rattle.desk_shared.proofs.Handed.{as_after, as_taken, in_hand}
use Rattle.desk_shared.proofs.Listed.{among_there, at_end, each_from_states, many_states, states_from_each}

-- whether a mark adds an entry
abbrev pub is_entry : {R : Type 0} → Added R → Bool
is_entry no_deed = false
is_entry adds_entry = true
is_entry (adds_item r) = false

-- a mark, whatever its place
abbrev pub at_any : Mark → ℕ → Mark
at_any mark at = mark

-- states that agree at records have the same states there
pub agreeing : (recs : List ℕ) (a b found : List RecState) → AgreeAt recs a b → AreStatesOf a recs found → AreStatesOf b recs found
agreeing recs a b found agree are =
    states_from_each b recs found (many_states a recs found are) (λ j r at. each_from_states a recs found are j r at ∙ agree r (among_there recs j r at))

-- ---- what a look makes of the history

-- a look with a mark grows it as the mark says
pub look_seen : (v : Sight) (mark : Mark) → adds mark ≢ adds_entry → with_look (records {P = Unit {0}}) v (Some mark) ≡ (with_mark (seat_of v) (at_any mark)).seen
look_seen v (Read at channel footprint found) ne = λ i. record { base = v.seen.base; deeds = sym (append-nil v.seen.deeds) i }
look_seen v (Entered at entry looked found) ne = absurd (ne refl)
look_seen v (Overweight at footprint actions kept_ added limit) ne = λ i. record { base = v.seen.base; deeds = sym (append-nil v.seen.deeds) i }
look_seen v (Begun at index slot channel mask size) ne = refl
look_seen v (Crowded at index count) ne = λ i. record { base = v.seen.base; deeds = sym (append-nil v.seen.deeds) i }
look_seen v (Popped at slot update) ne = λ i. record { base = v.seen.base; deeds = sym (append-nil v.seen.deeds) i }
look_seen v (Dropped at index slot) ne = refl

pub look_marked : (v w : Sight) (mark : ℕ → Mark) (noted : Mark) → noted ≡ mark (now (seat_of v)) → adds (mark (now (seat_of v))) ≢ adds_entry → w.number ≡ v.number → w.seen ≡ with_look (records {P = Unit {0}}) v (Some noted)
    → w.log ≡ with_note v.log (Some noted) → seat_of w ≡ with_mark (seat_of v) mark
look_marked v w mark noted is ne number seen log =
    let m = mark (now (seat_of v)) in
    let seen_is : w.seen ≡ (with_mark (seat_of v) mark).seen = seen ∙ ap (λ (z : Mark). with_look (records {P = Unit {0}}) v (Some z)) is ∙ look_seen v m ne in
    let log_is : w.log ≡ v.log ++ m ∷ [] = log ∙ ap (λ (z : Mark). v.log ++ z ∷ []) is in
    λ i. record { number = number i; seen = seen_is i; log = log_is i }

-- a look without a mark
pub unmarked : (v w : Sight) → w.number ≡ v.number → w.seen ≡ with_look (records {P = Unit {0}}) v None → w.log ≡ with_note v.log None → seat_of w ≡ seat_of v
unmarked v w number seen log = λ i. record { number = number i; seen = seen i; log = log i }

pub entry_marked : (v w : Sight) (mark : ℕ → Mark) (noted : Mark) (entry : Entry) (looked : List ℕ) (found : List RecState) → noted ≡ mark (now (seat_of v)) → mark (now (seat_of v)) ≡ Entered (now (seat_of v)) entry looked found → w.number ≡ v.number
    → w.seen ≡ with_entry (records {P = Unit {0}}) v entry → w.log ≡ with_note v.log (Some noted) → seat_of w ≡ with_mark (seat_of v) mark
entry_marked v w mark noted entry looked found is enters number seen log =
    let m = mark (now (seat_of v)) in
    let seen_is : w.seen ≡ (with_mark (seat_of v) mark).seen =
    seen ∙ ap (λ (z : Mark). record { base = v.seen.base; deeds = v.seen.deeds ++ tagged v.number (deed_of z) }) (sym enters) in
    let log_is : w.log ≡ v.log ++ m ∷ [] = log ∙ ap (λ (z : Mark). v.log ++ z ∷ []) is in
    λ i. record { number = number i; seen = seen_is i; log = log_is i }

module _ {P : Type 0} where
  pub may_noted : (v : Sight) (hub : Books) (cells : List (RecCell P)) (mark noted : Mark) → noted ≡ mark → MayLook (records {P = P}) v hub cells (Some mark) → MayLook (records {P = P}) v hub cells (Some noted)
  may_noted v hub cells mark noted is may = subst (λ (z : Mark). MayLook (records {P = P}) v hub cells (Some z)) (sym is) may

  -- ---- what a look owes

  -- with a mark
  pub may_look : (v : Sight) (hub next : Books) (recs : List ℕ) (states : List RecState) (cells : List (RecCell P)) (mark : Mark) → HasHub v hub recs states → states_of cells ≡ states → base_of next ≡ base_of hub → next.history.entries ≡ hub.history.entries
      → adds mark ≢ adds_entry → IsTrueIn (with_mark (seat_of v) (at_any mark)).seen v.number mark v.log → KeepsAll v.seen (with_mark (seat_of v) (at_any mark)).seen hub.subs next.subs v.number v.log (mark ∷ [])
      → MayLook (records {P = P}) v next cells (Some mark)
  may_look v hub next recs states cells mark x cells_are base entries ne true_ all =
      let is : (with_mark (seat_of v) (at_any mark)).seen ≡ with_look (records {P = P}) v (Some mark) = sym (look_seen v mark ne) in record {
        found = x.as_taken;
        was = x.found;
        base = base ∙ x.base;
        entries = entries ∙ x.entries;
        taken = as_taken v cells states x.values cells_are;
        adds = ne;
        true_mark = subst (λ (h : History). IsTrueIn h v.number mark v.log) is true_;
        own = subst (λ (h : History). KeepsSeat h next.subs v.number (v.log ++ mark ∷ [])) is all.own;
        others = λ k log away kept_. subst (λ (h : History). KeepsSeat h next.subs k log) is (all.others k log away (subst (λ (s : Subs). KeepsSeat v.seen s k log) x.subs_are kept_));
      }

  -- without one
  pub may_quit : (v : Sight) (hub next : Books) (recs : List ℕ) (states : List RecState) (cells : List (RecCell P)) → HasHub v hub recs states → states_of cells ≡ states → base_of next ≡ base_of hub → next.history.entries ≡ hub.history.entries
      → ((k : ℕ) (log : List Mark) → KeepsSeat v.seen hub.subs k log → KeepsSeat v.seen next.subs k log) → MayLook (records {P = P}) v next cells None
  may_quit v hub next recs states cells x cells_are base entries keep = record {
    found = x.as_taken;
    was = x.found;
    base = base ∙ x.base;
    entries = entries ∙ x.entries;
    taken = as_taken v cells states x.values cells_are;
    adds = tt;
    true_mark = tt;
    own = keep v.number v.log x.own;
    others = λ k log away kept_. keep k log (subst (λ (s : Subs). KeepsSeat v.seen s k log) x.subs_are kept_);
  }

  -- a mark that is of no subscription, and adds nothing
  pub may_look_aside : ((h : History) (subs : Subs) (seat : ℕ) (log : List Mark) (mark : Mark) → IsAside mark → KeepsSeat h subs seat log → KeepsSeat h subs seat (log ++ mark ∷ []))
      → (v : Sight) (hub next : Books) (recs : List ℕ) (states : List RecState) (cells : List (RecCell P)) (mark : Mark) → HasHub v hub recs states → states_of cells ≡ states → base_of next ≡ base_of hub → next.history.entries ≡ hub.history.entries
      → ((k : ℕ) (log : List Mark) → KeepsSeat v.seen hub.subs k log → KeepsSeat v.seen next.subs k log)
      → deed_of mark ≡ [] → adds mark ≢ adds_entry → IsAside mark → IsTrueIn v.seen v.number mark v.log → MayLook (records {P = P}) v next cells (Some mark)
  may_look_aside keep v hub next recs states cells mark x cells_are base entries same none ne aside true_ =
      let is : v.seen ≡ (with_mark (seat_of v) (at_any mark)).seen = sym (same_seen (seat_of v) (at_any mark) none) in
      may_look v hub next recs states cells mark x cells_are base entries ne (subst (λ (h : History). IsTrueIn h v.number mark v.log) is true_) (record {
        own = subst (λ (h : History). KeepsSeat h next.subs v.number (v.log ++ mark ∷ [])) is (keep v.seen next.subs v.number v.log mark aside (same v.number v.log x.own));
        others = λ k log away kept_. subst (λ (h : History). KeepsSeat h next.subs k log) is (same k log kept_);
      })
  -- ---- an entry

-- the history with an entry
module _ (s : Seat) (entry : Entry) (looked : List ℕ) (found : List RecState) where
  abbrev pub enters : ℕ → Mark
  enters at = Entered at entry looked found

  abbrev pub entered : Seat
  entered = with_mark s enters

  pub entered_commits : commits entered.seen ≡ commits s.seen ++ entry ∷ []
  entered_commits = entries_append s.seen.deeds (tagged s.number (deeds.Entry entry ∷ []))

  pub commits_one : Commits s.seen entered.seen s.number entry
  commits_one = record {
    goes_on = record { base = refl; deeds = record { rest = tagged s.number (deeds.Entry entry ∷ []); whole = refl } };
    commits_are = entered_commits;
    roll_is = roll_by_seat_append s.seen.deeds (tagged s.number (deeds.Entry entry ∷ [])) ∙ append-nil (roll s.seen);
  }

  last_is : state_at s.seen (now s) ≡ replayed s.seen.base.site.opening (commits s.seen)
  last_is = ap (state_at s.seen) (as_many s.seen) ∙ last_state s.seen.base.site.opening (commits s.seen)

  -- the states after it
  pub entered_states : written (state_at s.seen (now s)) entry.writes ≡ replayed s.seen.base.site.opening (commits s.seen ++ entry ∷ [])
  entered_states =
      ap (λ (l : List RecState). written l entry.writes) last_is
      ∙ sym (fold-append (λ (l : List RecState) (e : Entry). written l e.writes) s.seen.base.site.opening (commits s.seen) (entry ∷ []))

  entries_are : entries entered.seen ≡ entries s.seen ++ (s.number, entry) ∷ []
  entries_are = entries_now s enters

  one_more : now entered ≡ now s + 1
  one_more = ap length entries_are ∙ length-append (entries s.seen) ((s.number, entry) ∷ [])

  there : slice_get (entries entered.seen) (now s) ≡ Some (s.number, entry)
  there = ap (λ (es : List (ℕ × Entry)). slice_get es (now s)) entries_are ∙ at_end (entries s.seen) (s.number, entry)

  kept_before : kept_at entered.seen (now s) ≡ kept (commits s.seen)
  kept_before =
      ap kept (ap (take (now s)) entered_commits ∙ ap (λ (n : ℕ). take n (commits s.seen ++ entry ∷ [])) (as_many s.seen) ∙ take-append-le (length (commits s.seen)) (commits s.seen) (entry ∷ []) (omega arith) ∙ take-length (commits s.seen))

  pub follows : IsLegalEntry s.seen.base.site.configs (state_at s.seen (now s)) entry → MayFollow s.seen.base.site.configs s.seen.base.site.opening (commits s.seen) entry
  follows legal = subst (λ (l : List RecState). IsLegalEntry s.seen.base.site.configs l entry) last_is legal

  pub entered_legal : IsLegal s.seen → IsLegalEntry s.seen.base.site.configs (state_at s.seen (now s)) entry → IsLegal entered.seen
  entered_legal was legal =
      subst (λ (es : List Entry). AreLegal s.seen.base.site.configs s.seen.base.site.opening es) (sym entered_commits)
      (legal_push s.seen.base.site.configs s.seen.base.site.opening (commits s.seen) entry was
      (subst (λ (n : ℕ). IsLegalEntry s.seen.base.site.configs (state_at s.seen n) entry) (as_many s.seen) legal))

  found_now : AreStatesOf (written (state_at s.seen (now s)) entry.writes) looked found → AreStatesOf (state_at entered.seen (now s + 1)) looked found
  found_now are = subst (λ (l : List RecState). AreStatesOf l looked found) (entered_states ∙ sym last_entered) are where
    last_entered : state_at entered.seen (now s + 1) ≡ replayed s.seen.base.site.opening (commits s.seen ++ entry ∷ [])
    last_entered =
        ap (state_at entered.seen) (sym one_more ∙ as_many entered.seen) ∙ last_state s.seen.base.site.opening (commits entered.seen)
        ∙ ap (replayed s.seen.base.site.opening) entered_commits

  pub entered_true : kept (commits s.seen) + weight entry ≤ s.seen.base.limit → AreStatesOf (written (state_at s.seen (now s)) entry.writes) looked found → IsTrueEntry entered.seen s.number (now s) entry looked found
  entered_true light are = record { there = there; light = omega (arith, light, kept_before); found_is = found_now are }

  pub entered_adds : IsLegal s.seen → IsLegalEntry s.seen.base.site.configs (state_at s.seen (now s)) entry → kept (commits s.seen) + weight entry ≤ s.seen.base.limit
      → AreStatesOf (written (state_at s.seen (now s)) entry.writes) looked found → Adds s entered (Entered (now s) entry looked found ∷ [])
  entered_adds was legal light are = adds_mark s enters refl (omega (arith, one_more)) (entered_true light are) (entered_legal was legal)

  pub entered_ends : EndsAtLastMark entered
  entered_ends = ends_at s enters (sym one_more)

-- a commit
module _ {P : Type 0} where
  pub may_enter : (v : Sight) (hub next : Books) (recs : List ℕ) (states : List RecState) (cells : List (RecCell P)) (entry : Entry) (looked : List ℕ) (ready : Readied) (x : MayEnter v hub recs states entry looked ready)
      → AreStatesOf states recs (states_of cells) → base_of next ≡ base_of hub → next.history.entries ≡ hub.history.entries ++ entry ∷ [] → Posts v.seen.base.site states entry hub.subs next.subs
      → MayCommit (records {P = P}) v next cells (Some (Entered (now (seat_of v)) entry looked (found_in states looked)))
  may_enter v hub next recs states cells entry looked ready x got base entries posts =
      let s = seat_of v in
      let found = found_in states looked in
      let h = x.has in
      let k : History = (entered s entry looked found).seen in
      let all : KeepsAll v.seen k hub.subs next.subs v.number v.log (Entered (now s) entry looked found ∷ []) =
      subst (λ (n : ℕ). KeepsAll v.seen k hub.subs next.subs v.number v.log (Entered n entry looked found ∷ [])) (sym (as_many v.seen))
      (posts v.seen k v.number v.log looked found refl (commits_one s entry looked found) x.seen_so h.own) in
      let limit_is : hub.limit ≡ v.seen.base.limit = ap (λ (b : Base). b.limit) h.base in
      let light : kept (commits v.seen) + weight entry ≤ v.seen.base.limit = omega (arith, x.light, ap kept h.entries, limit_is) in
      let shown : AreStatesOf (replayed k.base.site.opening (commits k)) recs (states_of cells) =
      subst (λ (l : List RecState). AreStatesOf l recs (states_of cells)) (entered_states s entry looked found ∙ ap (replayed v.seen.base.site.opening) (sym (entered_commits s entry looked found)))
      (agreeing recs states (written (state_at v.seen (now s)) entry.writes) (states_of cells) x.after got) in record {
        found = h.as_taken;
        was = h.found;
        entry = entry;
        base = base ∙ h.base;
        entries = entries ∙ ap (λ (es : List Entry). es ++ entry ∷ []) h.entries;
        legal = follows s entry looked found x.legal;
        footprint = in_hand v recs entry.footprint h.numbers x.footprint_is;
        shown = as_after v k recs cells h.numbers shown;
        named = Entered (now s) entry looked found;
        marked = refl;
        adds = refl;
        fits = refl;
        true_mark = entered_true s entry looked found light x.looks;
        own = all.own;
        others = λ n log away kept_. all.others n log away (subst (λ (z : Subs). KeepsSeat v.seen z n log) h.subs_are kept_);
      }

-- the hub has one entry more
pub one_longer : (v : Sight) (hub : Books) (next : Journal) (recs : List ℕ) (states : List RecState) (entry : Entry) (looked : List ℕ) (ready : Readied) → MayEnter v hub recs states entry looked ready → next.entries ≡ hub.history.entries ++ entry ∷ []
    → next.entries ≡ commits v.seen ++ entry ∷ []
one_longer v hub next recs states entry looked ready x is = is ∙ ap (λ (es : List Entry). es ++ entry ∷ []) x.has.entries

-- what was written are records that there are
pub writes_there : (v : Sight) (hub : Books) (recs : List ℕ) (states : List RecState) (entry : Entry) (looked : List ℕ) (ready : Readied) → MayEnter v hub recs states entry looked ready → WritesWithin (length hub.history.opening) entry.writes
writes_there v hub recs states entry looked ready x =
    let s = seat_of v in
    let count : length (state_at v.seen (now s)) ≡ length hub.history.opening =
    replayed_count v.seen.base.site.opening (take (now s) (commits v.seen)) ∙ ap (λ (b : Base). length b.site.opening) (sym x.has.base) ∙ ap length (sym hub.opening_is) in
    subst (λ (n : ℕ). WritesWithin n entry.writes) count (writes_within v.seen.base.site.configs (state_at v.seen (now s)) entry.moment entry.actions entry.drove entry.writes x.legal.processed)

-- the hub may have got more room
pub hub_still : (v : Sight) (hub next : Books) (recs : List ℕ) (states : List RecState) → HasHub v hub recs states → base_of next ≡ base_of hub → next.history.entries ≡ hub.history.entries → next.subs ≡ hub.subs → HasHub v next recs states
hub_still v hub next recs states x base entries subs = record {
  as_taken = x.as_taken;
  found = x.found;
  subs_are = x.subs_are ∙ sym subs;
  base = base ∙ x.base;
  entries = entries ∙ x.entries;
  legal = x.legal;
  own = subst (λ (l : Subs). KeepsSeat v.seen l v.number v.log) (sym subs) x.own;
  numbers = x.numbers;
  values = x.values;
  finds = x.finds;
}
