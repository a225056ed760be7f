-- Calls of a desk one after another.
use Rattle.std.specs.Prelude.{◌≡◌, ℕ, ◌+◌, ◌≤◌, ◌<◌, List, [], ◌∷◌, ◌++◌, length, Option, Some, option_map, slice_get, refl}
use Rattle.std.proofs.Common.{take, sym, ◌∙◌, ap, subst, arith, append_assoc, length-append}
use Rattle.std.proofs.lemmas.List.{append-nil, take-append-le}
use Rattle.rec_kinds.specs.declared.state.RecState.{RecState}
use Rattle.journal_core.specs.Moments.{Moment}
use Rattle.journal_core.specs.Histories.{state_at as replayed_at, kept}
use Rattle.journal_core.proofs.Growing.{same_state as same_replay}
use Rattle.journal_core.specs.declared.entry.Entry.{Entry}
use Rattle.histories.specs.declared.story.Deed.{Deed}
use Rattle.histories.specs.History.{entries_by_seat, entries_of, roll_by_seat, Begins, deeds_by}
use Rattle.histories.proofs.Prefixes.{same_element, element_within}
use Rattle.histories.proofs.Stories.{begins_self, begins_trans, more_entries, more_by_seat, roll_by_seat_append, grown_length as commits_grow, as_many as counted}
use Rattle.histories.proofs.Judged.{true_append, true_weaken}
use Rattle.mon_queue.specs.Runs.{oldest_of}
use Rattle.mon_queue.specs.Course.{Subscription, Course, begun, unread_at, after_pops}
use Rattle.mon_queue.specs.Told.{told_by}
use Rattle.mon_queue.specs.declared.update.Update.{Update}
use Rattle.mon_shown.specs.Channels.{watch}
use Rattle.mon_shown.specs.Rolls.{alive, IsLeastFree}
use Rattle.mon_shown.specs.declared.roll.RollItem.TheVariants as items
use Rattle.desk_api.proofs.Lasting.{rises, place_below, same_unread, same_after}
use Rattle.desk_api.specs.History.{History, Item, entries, commits, roll, state_at, kept_at, IsLegal}
use Rattle.desk_api.specs.Living.{Living, subscription, pop_places, course, unread_of, IsOldest, PopsUpTo}
use Rattle.desk_api.specs.Marks.{IsLookOf, least_after, InOrder, IsTrueIn, AllHold, deed_of, deeds_of}
use Rattle.desk_api.specs.Triggers.{channel_view}
use Rattle.desk_api.specs.Views.{AreStatesOf}
use Rattle.desk_api.specs.Calls.{Adds, HaveMoment}
use Rattle.desk_api.specs.declared.history.Base.{Base}
use Rattle.desk_api.specs.declared.mark.Mark.{Mark}
use Rattle.desk_api.specs.declared.mark.Mark.TheVariants.{Read, Entered, Overweight, Begun, Crowded, Popped, Dropped}
use Rattle.desk_api.specs.declared.mark.Seat.{Seat}

pub as_many : (h : History) → length (entries h) ≡ length (commits h)
as_many h = counted h.deeds

pub grown_length : {h k : History} → Begins h k → length (entries h) ≤ length (entries k)
grown_length {h} {k} b = omega (arith, as_many h, as_many k, commits_grow b)

pub order_append : (low mid high : ℕ) (xs ys : List Mark) → InOrder low xs mid → InOrder mid ys high → InOrder low (xs ++ ys) high
order_append low mid high [] [] a b = omega arith
order_append low mid high [] (y ∷ ys) a b = (omega (arith, b.0), b.1)
order_append low mid high (x ∷ xs) ys a b = (a.0, order_append (least_after x) mid high xs ys a.1 b)

-- what was committed stays
pub same_state : {h k : History} (b : Begins h k) (at : ℕ) → at ≤ length (entries h) → state_at k at ≡ state_at h at
same_state {h} {k} b at le =
    ap (λ (g : Base). replayed_at g.site.opening (commits k) at) b.base
    ∙ ap (λ (es : List Entry). replayed_at h.base.site.opening es at) (more_entries b)
    ∙ same_replay h.base.site.opening (commits h) (entries_of b.deeds.rest) at (omega (arith, le, as_many h))

pub same_kept : {h k : History} (b : Begins h k) (at : ℕ) → at ≤ length (entries h) → kept_at k at ≡ kept_at h at
same_kept {h} {k} b at le =
    ap kept (ap (take at) (more_entries b) ∙ take-append-le at (commits h) (entries_of b.deeds.rest) (omega (arith, le, as_many h)))

-- the roll goes on
module _ {h k : History} (b : Begins h k) where
  more_roll : roll k ≡ roll h ++ roll_by_seat b.deeds.rest
  more_roll = ap roll_by_seat b.deeds.whole ∙ roll_by_seat_append h.deeds b.deeds.rest

  grown_roll : length (roll h) ≤ length (roll k)
  grown_roll = omega (arith, ap length more_roll, length-append (roll h) (roll_by_seat b.deeds.rest))

  same_items : (n : ℕ) → n ≤ length (roll h) → take n (roll k) ≡ take n (roll h)
  same_items n le = ap (take n) more_roll ∙ take-append-le n (roll h) (roll_by_seat b.deeds.rest) le

  still_there : (index : ℕ) (i : ℕ × Item) → slice_get (roll h) index ≡ Some i → slice_get (roll k) index ≡ Some i
  still_there index i is =
      subst (λ (l : List (ℕ × Item)). slice_get l index ≡ Some i) (sym more_roll) (same_element (roll h) (roll_by_seat b.deeds.rest) index i is)

-- what is unread of a subscription there stays
module _ {h k : History} (b : Begins h k) where
  same_commits : (n : ℕ) → n ≤ length (entries h) → take n (commits k) ≡ take n (commits h)
  same_commits n le = ap (take n) (more_entries b) ∙ take-append-le n (commits h) (entries_of b.deeds.rest) (omega (arith, le, as_many h))

  pub same_subscription : (l : Living) → l.place ≤ length (entries h) → subscription k l ≡ subscription h l
  same_subscription l le = λ i. record {
    watch = watch (channel_view (b.base i).site l.channel) l.mask;
    size = l.size;
    place = l.place;
    state = same_state b l.place le i;
  }

  pub same_course : (l : Living) (at : ℕ) → PopsUpTo l at → at ≤ length (entries h) → course k l ≡ course h l
  same_course l at later le =
      let sub = subscription h l in
      ap (λ (s : Subscription (List RecState) Entry). after_pops s (commits k) (begun s) (pop_places l)) (same_subscription l (omega (arith, rises l.place (pop_places l) at later, le)))
      ∙ same_after sub (commits h) (commits k) (length (entries h)) same_commits (pop_places l) (begun sub) at later le

  pub same_unread_of : (l : Living) (at : ℕ) → PopsUpTo l at → at ≤ length (entries h) → unread_of k l at ≡ unread_of h l at
  same_unread_of l at later le =
      let sub = subscription h l in
      ap (λ (s : Subscription (List RecState) Entry). unread_at s (commits k) (course k l) at) (same_subscription l (omega (arith, rises l.place (pop_places l) at later, le)))
      ∙ ap (λ (c : Course). unread_at sub (commits k) c at) (same_course l at later le)
      ∙ same_unread sub (commits h) (commits k) (length (entries h)) same_commits (course h l) at
      (omega (arith, place_below sub (commits h) (pop_places l) (begun sub) at later, le)) le

  still_oldest : (l : Living) (at : ℕ) (update : Option Update) → PopsUpTo l at → at ≤ length (entries h) → IsOldest h l at update → IsOldest k l at update
  still_oldest l at update later le is =
      ap (λ (g : Base). option_map (told_by (channel_view g.site l.channel).ty) update) b.base ∙ is ∙ ap oldest_of (sym (same_unread_of l at later le))

-- what is true stays so as the history grows
pub still_holds : (seat : ℕ) {h k : History} (b : Begins h k) (mark : Mark) (before : List Mark) → IsTrueIn h seat mark before → IsTrueIn k seat mark before
still_holds seat b (Read at channel footprint found) before t = record {
  within = omega (arith, t.within, grown_length b);
  footprint_is = subst (λ (g : Base). IsLookOf g.site channel footprint) (sym b.base) t.footprint_is;
  found_is = subst (λ (s : List RecState). AreStatesOf s footprint found) (sym (same_state b at t.within)) t.found_is;
}
still_holds seat {h} {k} b (Entered at entry looked found) before t = record {
  there = subst (λ (es : List (ℕ × Entry)). slice_get es at ≡ Some (seat, entry)) (sym (more_by_seat b)) (same_element (entries h) (entries_by_seat b.deeds.rest) at (seat, entry) t.there);
  light = omega (arith, t.light, ap (λ (g : Base). g.limit) b.base, same_kept b at (omega (arith, element_within (entries h) at (seat, entry) t.there)));
  found_is = subst (λ (s : List RecState). AreStatesOf s looked found) (sym (same_state b (at + 1) (omega (arith, element_within (entries h) at (seat, entry) t.there)))) t.found_is;
}
still_holds seat b (Overweight at footprint actions kept added limit) before t = record {
  within = omega (arith, t.within, grown_length b);
  kept_is = t.kept_is ∙ sym (same_kept b at t.within);
  added_is = t.added_is;
  limit_is = t.limit_is ∙ sym (ap (λ (g : Base). g.limit) b.base);
  above = t.above;
}
still_holds seat {h} {k} b (Begun at index slot channel mask size) before t =
    let item : ℕ × Item = (seat, items.Begins slot channel mask size) in
    let same : take index (roll k) ≡ take index (roll h) = same_items b index (omega (arith, element_within (roll h) index item t.there)) in
    record {
      within = omega (arith, t.within, grown_length b);
      there = still_there b index item t.there;
      least = subst (λ (l : List (ℕ × Item)). IsLeastFree l slot) (sym same) t.least;
      few = subst (λ (l : List (ℕ × Item)). alive l < 1024) (sym same) t.few;
      free = t.free;
      size_is = t.size_is;
    }
still_holds seat b (Crowded at index count) before t = record {
  within = omega (arith, t.within, grown_length b);
  within_roll = omega (arith, t.within_roll, grown_roll b);
  count_is = t.count_is ∙ ap alive (sym (same_items b index t.within_roll));
  full = t.full;
}
still_holds seat b (Popped at slot update) before t = record {
  within = omega (arith, t.within, grown_length b);
  subscribed = t.subscribed;
  there = t.there;
  later = t.later;
  taken = still_oldest b t.subscribed at update t.later t.within t.taken;
}
still_holds seat b (Dropped at index slot) before t = record {
  within = omega (arith, t.within, grown_length b);
  ended = still_there b index (seat, items.Ends slot) t.ended;
  subscribed = t.subscribed;
  there = t.there;
  later = t.later;
}

pub all_still_hold : (seat : ℕ) {h k : History} (b : Begins h k) (before marks : List Mark) → AllHold seat h before marks → AllHold seat k before marks
all_still_hold seat {h} {k} b before marks t = true_weaken (IsTrueIn h seat) (IsTrueIn k seat) (λ m past. still_holds seat b m past) before marks t

pub deeds_append : (xs ys : List Mark) → deeds_of (xs ++ ys) ≡ deeds_of xs ++ deeds_of ys
deeds_append [] ys = refl
deeds_append (x ∷ xs) ys = ap (λ (l : List (Deed Entry Item)). deed_of x ++ l) (deeds_append xs ys) ∙ sym (append_assoc (deed_of x) (deeds_of xs) (deeds_of ys))

pub moments_append : (told : Option (Moment)) (xs ys : List Mark) → HaveMoment told xs → HaveMoment told ys → HaveMoment told (xs ++ ys)
moments_append told [] ys a b = b
moments_append told (x ∷ xs) ys a b = (a.0, moments_append told xs ys a.1 b)

-- no call
pub adds_nothing : (s : Seat) → IsLegal s.seen → Adds s s []
adds_nothing s legal = record {
  number = refl;
  log = sym (append-nil s.log);
  grows = begins_self s.seen;
  legal = legal;
  order = omega arith;
  true_ = tt;
  own = sym (append-nil (deeds_by s.number s.seen.deeds));
}

-- calls, and then more calls
pub adds_more : {a b c : Seat} {xs ys : List Mark} → Adds a b xs → Adds b c ys → Adds a c (xs ++ ys)
adds_more {a} {b} {c} {xs} {ys} p q = record {
  number = q.number ∙ p.number;
  log = q.log ∙ ap (λ (l : List Mark). l ++ ys) p.log ∙ append_assoc a.log xs ys;
  grows = begins_trans p.grows q.grows;
  legal = q.legal;
  order = order_append (length (entries a.seen)) (length (entries b.seen)) (length (entries c.seen)) xs ys p.order q.order;
  true_ = true_append (IsTrueIn c.seen c.number) a.log xs ys
      (all_still_hold c.number q.grows a.log xs (subst (λ (n : ℕ). AllHold n b.seen a.log xs) (sym q.number) p.true_))
      (subst (λ (l : List Mark). AllHold c.number c.seen l ys) p.log q.true_);
  own = q.own ∙ ap (λ (l : List (Deed Entry Item)). l ++ deeds_of ys) p.own
      ∙ append_assoc (deeds_by a.number a.seen.deeds) (deeds_of xs) (deeds_of ys)
      ∙ ap (λ (l : List (Deed Entry Item)). deeds_by a.number a.seen.deeds ++ l) (sym (deeds_append xs ys));
}
