-- What a step of one seat does for all seats.
use Rattle.std.specs.Prelude.{◌≡◌, ◌≢◌, ◌≤◌, ℕ, true, List, [], ◌∷◌, ◌++◌, length, Option, Some}
use Rattle.std.specs.FinSet.{FinSet}
use Rattle.std.specs.Ordering.{nat_cmp}
use Rattle.histories.specs.History.{Begins as GoesOn}
use Rattle.rec_kinds.specs.declared.state.RecState.{RecState}
use Rattle.journal_core.specs.Histories.{written}
use Rattle.journal_core.specs.declared.entry.Entry.{Entry}
use Rattle.mon_queue.specs.Shown.{anew}
use Rattle.mon_queue.specs.declared.update.Update.{Update}
use Rattle.mon_shown.specs.Channels.{watch, SeenAlike}
use Rattle.mon_shown.specs.Keeping.{watch_of, Begins}
use Rattle.mon_shown.specs.Rolls.{alive}
use Rattle.mon_shown.specs.Slots.{slot_in, SlotsStay}
use Rattle.mon_shown.specs.declared.roll.RollItem.TheVariants as items
use Rattle.mon_shown.specs.declared.slots.NotBegun.{NotBegun}
use Rattle.mon_shown.specs.declared.slots.NotBegun.TheVariants.{TooMany, NoMemory}
use Rattle.mon_shown.specs.declared.watching.Watching.{Watching}
use Rattle.desk_api.specs.History.{History, Item, commits, roll, state_at}
use Rattle.desk_api.specs.Living.{lives}
use Rattle.desk_api.specs.Marks.{IsTrueBegun, IsTruePopped, IsTrueDropped}
use Rattle.desk_api.specs.Triggers.{channel_view, may_be_watched}
use Rattle.desk_api.specs.declared.channel.Channel.{Channel}
use Rattle.desk_api.specs.declared.history.SiteData.{SiteData}
use Rattle.desk_api.specs.declared.mark.Mark.{Mark}
use Rattle.desk_api.specs.declared.mark.Mark.TheVariants.{Entered, Begun, Popped, Dropped}
use Rattle.desk_hub.specs.Seats.{Subs, now, SlotsStand, KeepsSeat}

-- The seat adds these marks, and the history goes on from h to k. What is kept of the seat is kept with them, and what
-- is kept of every other seat, with any log, stays kept.
pub record KeepsAll (h k : History) (subs more : Subs) (seat : ℕ) (log marks : List Mark) : Type 0 where
  pub own : KeepsSeat k more seat (log ++ marks)
  pub others : (other : ℕ) (theirs : List Mark) → other ≢ seat → KeepsSeat h subs other theirs
      → KeepsSeat k more other theirs

-- The history goes on by this item of the seat alone.
pub record Rolls (h k : History) (seat : ℕ) (item : Item) : Type 0 where
  pub goes_on : GoesOn h k
  pub commits_are : commits k ≡ commits h
  pub roll_is : roll k ≡ roll h ++ (seat, item) ∷ []

-- A subscription of this slot, which lives by the seat's log, is popped, and this is taken.
abbrev pub Pops : Subs → ℕ → Option Update → Subs → Type 0
Pops subs slot update more =
    (h : History) (seat : ℕ) (log : List Mark) → KeepsSeat h subs seat log → lives log slot ≡ true
    → KeepsAll h h subs more seat log (Popped (now h) slot update ∷ []) × IsTruePopped h log (now h) slot update

-- It ends.
abbrev pub Ends : SiteData → Subs → ℕ → Subs → Type 0
Ends site subs slot more =
    (h k : History) (seat : ℕ) (log : List Mark) → h.base.site ≡ site → Rolls h k seat (items.Ends slot)
    → KeepsSeat h subs seat log → lives log slot ≡ true
    → KeepsAll h k subs more seat log (Dropped (now h) (length (roll h)) slot ∷ [])
    × IsTrueDropped k seat log (now h) (length (roll h)) slot

-- One begins in this slot. The states may be any of which the same is seen, under the requested leaves, as of those that
-- the records have.
abbrev pub Starts : SiteData → Subs → ℕ → Channel → FinSet nat_cmp → ℕ → List RecState → Subs → Type 0
Starts site subs slot channel mask size states more =
    (h k : History) (seat : ℕ) (log : List Mark) → h.base.site ≡ site
    → Rolls h k seat (items.Begins slot channel mask size)
    → SeenAlike (watch (channel_view site channel) mask) mask states (state_at h (now h)) → KeepsSeat h subs seat log
    → KeepsAll h k subs more seat log (Begun (now h) (length (roll h)) slot channel mask size ∷ [])
    × IsTrueBegun k seat log (now h) (length (roll h)) slot channel mask size

-- One begins in this slot, with whatever channel, leaves and size it begins, and in whatever states.
abbrev pub StartsAsItBegins : SiteData → Subs → ℕ → Watching Channel → Subs → Type 0
StartsAsItBegins site subs slot x more =
    (channel : Channel) (mask : FinSet nat_cmp) (size : ℕ) (states : List RecState) → (1 ≤ size) × (size ≤ 64)
    → Begins (may_be_watched site) (channel_view site) channel mask size states x
    → Starts site subs slot channel mask size states more

-- None begins, and nothing changes: because 1,024 live, or memory ran out.
abbrev pub StartsNot : Subs → Subs → NotBegun → Type 0
StartsNot subs more TooMany = SlotsStay subs more × ((h : History) → SlotsStand h subs → alive (roll h) ≡ 1024)
StartsNot subs more NoMemory = SlotsStay subs more

-- Of these states the same is seen, in each subscription under the requested leaves that the entry takes anew, as of
-- those right after it.
abbrev pub SeenAsAfter : History → Entry → List RecState → Subs → Type 0
SeenAsAfter h e states subs =
    (slot : ℕ) (x : Watching Channel) → slot_in subs slot ≡ Some x
    → let w = watch_of (channel_view h.base.site) x in
    SeenAlike w (anew w e) states (written (state_at h (now h)) e.writes)

-- The history goes on by this entry of the seat alone.
pub record Commits (h k : History) (seat : ℕ) (e : Entry) : Type 0 where
  pub goes_on : GoesOn h k
  pub commits_are : commits k ≡ commits h ++ e ∷ []
  pub roll_is : roll k ≡ roll h

-- An entry is posted to all subscriptions that it concerns.
abbrev pub Posts : SiteData → List RecState → Entry → Subs → Subs → Type 0
Posts site states e subs more =
    (h k : History) (seat : ℕ) (log : List Mark) (looked : List ℕ) (found : List RecState) → h.base.site ≡ site
    → Commits h k seat e → SeenAsAfter h e states subs → KeepsSeat h subs seat log
    → KeepsAll h k subs more seat log (Entered (now h) e looked found ∷ [])
