-- Subscriptions, as the marks of their seat tell them, and what they are given.
use Rattle.std.specs.Prelude.{◌≡◌, ◌==◌, ℕ, Bool, List, [], ◌∷◌, ◌++◌, map, Option, None, Some, is_some, option_map}
use Rattle.std.specs.Prelude.{if◌then◌else◌}
use Rattle.std.specs.FinSet.{FinSet}
use Rattle.std.specs.Ordering.{nat_cmp}
use Rattle.rec_kinds.specs.declared.state.RecState.{RecState}
use Rattle.journal_core.specs.declared.entry.Entry.{Entry}
use Rattle.mon_queue.specs.Runs.{Run, Told, update_of, oldest_of, folded}
use Rattle.mon_queue.specs.Shown.{blank}
use Rattle.mon_queue.specs.Course.{Subscription, Course, AreBetween, begun, after_pops, unread_at, shown_at}
use Rattle.mon_queue.specs.Told.{told_by}
use Rattle.mon_queue.specs.declared.update.Update.{Update}
use Rattle.mon_shown.specs.Channels.{watch}
use Rattle.desk_api.specs.History.{History, commits, state_at}
use Rattle.desk_api.specs.Triggers.{channel_view}
use Rattle.desk_api.specs.declared.channel.Channel.{Channel}
use Rattle.desk_api.specs.declared.mark.Mark.{Mark}
use Rattle.desk_api.specs.declared.mark.Mark.TheVariants.{Read, Entered, Overweight, Begun, Crowded, Popped, Dropped}

-- A living subscription: where it began, the leaves of a channel that it asked for, how many updates its queue may
-- hold, and its pops so far, each with its place and what it took.
pub record Living : Type 0 where
  pub place : ℕ
  pub channel : Channel
  pub mask : FinSet nat_cmp
  pub size : ℕ
  pub pops : List (ℕ × Option Update)

abbrev pub popped_too : ℕ → Option Update → Living → Living
popped_too at update l = record {
  place = l.place;
  channel = l.channel;
  mask = l.mask;
  size = l.size;
  pops = l.pops ++ (at, update) ∷ [];
}

abbrev pub at_first : Living → Living
at_first l = record { place = l.place; channel = l.channel; mask = l.mask; size = l.size; pops = [] }

-- The living subscription in a slot, behind one mark more of its seat and behind all of these marks.

abbrev pub living_with : ℕ → Option Living → Mark → Option Living
living_with slot o (Read at channel footprint found) = o
living_with slot o (Entered at entry looked found) = o
living_with slot o (Overweight at footprint actions kept added limit) = o
living_with slot o (Begun at index s channel mask size) =
    if s == slot then Some (record { place = at; channel = channel; mask = mask; size = size; pops = [] }) else o
living_with slot o (Crowded at index count) = o
living_with slot o (Popped at s update) = if s == slot then option_map (popped_too at update) o else o
living_with slot o (Dropped at index s) = if s == slot then None else o

abbrev pub living_after : ℕ → Option Living → List Mark → Option Living
living_after slot o [] = o
living_after slot o (mark ∷ marks) = living_after slot (living_with slot o mark) marks

-- what lives in a slot by the marks of a seat
abbrev pub living : List Mark → ℕ → Option Living
living log slot = living_after slot None log

abbrev pub lives : List Mark → ℕ → Bool
lives log slot = is_some (living log slot)

-- The log has the beginning of this subscription in this slot, and the marks behind it lead from there to how it is
-- now.
pub record BeganIn (log : List Mark) (slot : ℕ) (l : Living) : Type 0 where
  pub before : List Mark
  pub after : List Mark
  pub index : ℕ
  pub log_is : log ≡ before ++ Begun l.place index slot l.channel l.mask l.size ∷ after
  pub since : living_after slot (Some (at_first l)) after ≡ Some l

-- The subscription in a history: what it watches there, and the states at its place.
abbrev pub subscription : History → Living → Subscription (List RecState) Entry
subscription h l = record {
  watch = watch (channel_view h.base.site l.channel) l.mask;
  size = l.size;
  place = l.place;
  state = state_at h l.place;
}

abbrev pub pop_places : Living → List ℕ
pop_places l = map (λ p. p.0) l.pops

-- its course through the history up to its last pop
abbrev pub course : History → Living → Course
course h l = after_pops (subscription h l) (commits h) (begun (subscription h l)) (pop_places l)

-- the runs of posts that are unread behind the first n entries
abbrev pub unread_of : History → Living → ℕ → List Run
unread_of h l n = unread_at (subscription h l) (commits h) (course h l) n

abbrev pub told_of : History → Living → Update → Told
told_of h l update = told_by (subscription h l).watch.ty update

-- the updates that were handed out, in order
abbrev pub given : List (ℕ × Option Update) → List Update
given [] = []
given ((at, None) ∷ pops) = given pops
given ((at, Some update) ∷ pops) = update ∷ given pops

-- The updates that were handed out and those that are still queued, merged in order into a blank value, are what is
-- shown behind the first n entries: each requested field as of the last entry that posted it.
abbrev pub IsFolded : History → Living → ℕ → Type 0
IsFolded h l n =
    folded (blank (subscription h l).watch) (map (told_of h l) (given l.pops) ++ map update_of (unread_of h l n))
    ≡ shown_at (subscription h l) (commits h) n

-- A pop there takes this update: that of the oldest unread run, and none where no run is unread.
abbrev pub IsOldest : History → Living → ℕ → Option Update → Type 0
IsOldest h l at update = option_map (told_of h l) update ≡ oldest_of (unread_of h l at)

-- its pops were made at places in order, from its own place up to this one
abbrev pub PopsUpTo : Living → ℕ → Type 0
PopsUpTo l at = AreBetween l.place (pop_places l) at
