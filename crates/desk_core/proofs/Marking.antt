-- One more mark in the log of a desk that nobody shares.
use Rattle.std.proofs.Common.{◌≡◌, ℕ, ◌≤◌, List, [], ◌∷◌, ◌++◌, length, refl, sym, ◌∙◌, ap, subst, arith}
use Rattle.std.proofs.lemmas.List.{append-nil}
use Rattle.rec_kinds.specs.declared.state.RecState.{RecState}
use Rattle.histories.specs.declared.story.Deed.{Deed}
use Rattle.histories.specs.declared.story.Deed.TheVariants as deeds
use Rattle.histories.specs.History.{entries_of, entries_by_seat, roll_by_seat, deeds_by, tagged}
use Rattle.histories.proofs.Stories.{entries_append, entries_by_seat_append, roll_by_seat_append, own_more, tagged_append}
use Rattle.journal_core.specs.Histories.{Journal, state_at as replayed_at}
use Rattle.journal_core.specs.Legality.{IsLegal as AreLegal}
use Rattle.journal_core.specs.declared.entry.Entry.{Entry}
use Rattle.desk_api.specs.History.{History, entries, commits, roll, state_at, IsLegal}
use Rattle.desk_api.specs.Marks.{place, least_after, IsTrueIn, deed_of, next_place}
use Rattle.desk_api.specs.Calls.{Adds, with_mark, now, EndsAtLastMark}
use Rattle.desk_api.specs.declared.history.Base.{Base}
use Rattle.desk_api.specs.History.{Item}
use Rattle.desk_api.specs.declared.mark.Mark.{Mark}
use Rattle.desk_api.specs.declared.mark.Seat.{Seat}
use Rattle.desk_core.specs.Standing.{Stands}
use Rattle.desk_hub.specs.Steps.{Rolls}

-- a log's last mark alone says where the next may stand
next_place-push : (low : ℕ) (marks : List Mark) (mark : Mark) → next_place low (marks ++ mark ∷ []) ≡ least_after mark
next_place-push low [] mark = refl
next_place-push low (x ∷ marks) mark = next_place-push (least_after x) marks mark

abbrev with_deeds : History → List (ℕ × Deed Entry Item) → History
with_deeds h ds = record { base = h.base; deeds = ds }

module _ (s : Seat) (mark : ℕ → Mark) where
  abbrev m : Mark
  m = mark (now s)

  abbrev t : Seat
  t = with_mark s mark

  pub entries_now : entries t.seen ≡ entries s.seen ++ entries_by_seat (tagged s.number (deed_of m))
  entries_now = entries_by_seat_append s.seen.deeds (tagged s.number (deed_of m))

  pub adds_mark : place m ≡ now s → least_after m ≤ now t → IsTrueIn t.seen s.number m s.log → IsLegal t.seen → Adds s t (m ∷ [])
  adds_mark at after holds legal = record {
    number = refl;
    log = refl;
    grows = record { base = refl; deeds = record { rest = tagged s.number (deed_of m); whole = refl } };
    legal = legal;
    order = (omega (arith, at), after);
    true_ = (holds, tt);
    own = own_more s.number s.seen.deeds (deed_of m) ∙ ap (λ (l : List (Deed Entry Item)). deeds_by s.number s.seen.deeds ++ l) (sym (append-nil (deed_of m)));
  }

  pub ends_at : least_after m ≡ now t → EndsAtLastMark t
  ends_at after = sym after ∙ sym (next_place-push (now t) s.log m)

  -- a mark without an entry
  module _ (none : deed_of m ≡ []) where
    same_deeds : t.seen.deeds ≡ s.seen.deeds
    same_deeds = ap (λ (es : List (Deed Entry Item)). s.seen.deeds ++ tagged s.number es) none ∙ append-nil s.seen.deeds

    pub same_seen : t.seen ≡ s.seen
    same_seen = ap (with_deeds s.seen) same_deeds

    pub looks : place m ≡ now s → least_after m ≡ now s → IsTrueIn s.seen s.number m s.log → IsLegal s.seen → Adds s t (m ∷ [])
    looks at after holds legal =
        adds_mark at (omega (arith, after, ap (λ (h : History). length (entries h)) same_seen)) (subst (λ (h : History). IsTrueIn h s.number m s.log) (sym same_seen) holds) (subst IsLegal (sym same_seen) legal)

    pub looks_end : least_after m ≡ now s → EndsAtLastMark t
    looks_end after = ends_at (after ∙ ap (λ (h : History). length (entries h)) (sym same_seen))

    pub still : {base : Base} {cells : List RecState} {journal : Journal} → Stands base cells journal s → Stands base cells journal t
    still {base} {cells} {journal} x = record {
      base_is = x.base_is;
      own = subst (λ (ds : List (ℕ × Deed Entry Item)). ds ≡ tagged s.number (deeds_by s.number ds)) (sym same_deeds) x.own;
      opening_is = x.opening_is;
      entries_are = x.entries_are ∙ ap commits (sym same_seen);
      cells_are = x.cells_are ∙ ap (λ (h : History). state_at h (length (entries h))) (sym same_seen);
      light = x.light;
    }

  -- a mark with an item of the roll
  module _ (item : Item) (one : deed_of m ≡ deeds.Item item ∷ []) where
    item_entries : entries t.seen ≡ entries s.seen
    item_entries = entries_now ∙ ap (λ (ds : List (Deed Entry Item)). entries s.seen ++ entries_by_seat (tagged s.number ds)) one ∙ append-nil (entries s.seen)

    item_commits : commits t.seen ≡ commits s.seen
    item_commits = entries_append s.seen.deeds (tagged s.number (deed_of m)) ∙ ap (λ (ds : List (Deed Entry Item)). commits s.seen ++ entries_of (tagged s.number ds)) one ∙ append-nil (commits s.seen)

    item_roll : roll t.seen ≡ roll s.seen ++ (s.number, item) ∷ []
    item_roll = roll_by_seat_append s.seen.deeds (tagged s.number (deed_of m)) ∙ ap (λ (ds : List (Deed Entry Item)). roll s.seen ++ roll_by_seat (tagged s.number ds)) one

    item_now : now t ≡ now s
    item_now = ap length item_entries

    pub item_rolls : Rolls s.seen t.seen s.number item
    item_rolls = record {
      goes_on = record { base = refl; deeds = record { rest = tagged s.number (deed_of m); whole = refl } };
      commits_are = item_commits;
      roll_is = item_roll;
    }

    pub item_legal : IsLegal s.seen → IsLegal t.seen
    item_legal legal = subst (λ (es : List Entry). AreLegal s.seen.base.site.configs s.seen.base.site.opening es) (sym item_commits) legal

    pub item_adds : place m ≡ now s → least_after m ≡ now s → IsTrueIn t.seen s.number m s.log → IsLegal s.seen → Adds s t (m ∷ [])
    item_adds at after holds legal = adds_mark at (omega (arith, after, item_now)) holds (item_legal legal)

    pub item_ends : least_after m ≡ now s → EndsAtLastMark t
    item_ends after = ends_at (after ∙ sym item_now)

    pub item_stands : {base : Base} {cells : List RecState} {journal : Journal} → Stands base cells journal s → Stands base cells journal t
    item_stands {base} {cells} {journal} x = record {
      base_is = x.base_is;
      own = ap (λ (ds : List (ℕ × Deed Entry Item)). ds ++ tagged s.number (deed_of m)) x.own
          ∙ sym (tagged_append s.number (deeds_by s.number s.seen.deeds) (deed_of m))
          ∙ ap (tagged s.number) (sym (own_more s.number s.seen.deeds (deed_of m)));
      opening_is = x.opening_is;
      entries_are = x.entries_are ∙ sym item_commits;
      cells_are = x.cells_are ∙ (λ i. replayed_at s.seen.base.site.opening (sym item_commits i) (sym item_now i));
      light = x.light;
    }
