-- What the steps of a desk's calls find and do, and when that is true.
use Rattle.std.specs.Prelude.{◌≡◌, ℕ, ◌+◌, ◌<◌, ◌≤◌, ◌⊎◌, ◌==◌, true, false, List, [], ◌∷◌, ◌++◌, length, take, Option}
use Rattle.std.specs.Prelude.{Some, slice_get, ⊤}
use Rattle.std.specs.FinSet.{FinSet}
use Rattle.std.specs.Ordering.{nat_cmp}
use Rattle.std.specs.List.{list_any}
use Rattle.rec_kinds.specs.declared.datum.Action.{Action}
use Rattle.rec_kinds.specs.declared.state.RecState.{RecState}
use Rattle.journal_core.specs.Weights.{weight, weight_with}
use Rattle.journal_core.specs.declared.entry.Entry.{Entry}
use Rattle.histories.specs.declared.story.Deed.{Deed}
use Rattle.histories.specs.declared.story.Deed.TheVariants as deeds
use Rattle.histories.specs.History.{AllTrue}
use Rattle.mon_queue.specs.declared.update.Update.{Update}
use Rattle.mon_shown.specs.Rolls.{alive, IsLeastFree}
use Rattle.mon_shown.specs.declared.roll.RollItem.TheVariants as items
use Rattle.desk_api.specs.History.{History, Item, entries, roll, state_at, kept_at}
use Rattle.desk_api.specs.Living.{Living, living, lives, IsFolded, IsOldest, PopsUpTo}
use Rattle.desk_api.specs.Sites.{footprint_of}
use Rattle.desk_api.specs.Views.{AreStatesOf}
use Rattle.desk_api.specs.declared.channel.Channel.{Channel}
use Rattle.desk_api.specs.declared.history.SiteData.{SiteData}
use Rattle.desk_api.specs.declared.mark.Mark.{Mark}
use Rattle.desk_api.specs.declared.mark.Mark.TheVariants.{Read, Entered, Overweight, Begun, Crowded, Popped, Dropped}

-- how many entries stand before the step
abbrev pub place : Mark → ℕ
place (Read at channel footprint found) = at
place (Entered at entry looked found) = at
place (Overweight at footprint actions kept added limit) = at
place (Begun at index slot channel mask size) = at
place (Crowded at index count) = at
place (Popped at slot update) = at
place (Dropped at index slot) = at

-- the least place of a later mark
abbrev pub least_after : Mark → ℕ
least_after (Read at channel footprint found) = at
least_after (Entered at entry looked found) = at + 1
least_after (Overweight at footprint actions kept added limit) = at
least_after (Begun at index slot channel mask size) = at
least_after (Crowded at index count) = at
least_after (Popped at slot update) = at
least_after (Dropped at index slot) = at

-- From one number of entries to another the marks' places don't fall, and rise past an entry.
abbrev pub InOrder : ℕ → List Mark → ℕ → Type 0
InOrder low [] high = low ≤ high
InOrder low (mark ∷ marks) high = (low ≤ place mark) × InOrder (least_after mark) marks high

-- the least place of a mark after these
abbrev pub next_place : ℕ → List Mark → ℕ
next_place low [] = low
next_place low (mark ∷ marks) = next_place (least_after mark) marks

-- what the mark adds to the history
abbrev pub deed_of : Mark → List (Deed Entry Item)
deed_of (Read at channel footprint found) = []
deed_of (Entered at entry looked found) = deeds.Entry entry ∷ []
deed_of (Overweight at footprint actions kept added limit) = []
deed_of (Begun at index slot channel mask size) = deeds.Item (items.Begins slot channel mask size) ∷ []
deed_of (Crowded at index count) = []
deed_of (Popped at slot update) = []
deed_of (Dropped at index slot) = deeds.Item (items.Ends slot) ∷ []

abbrev pub deeds_of : List Mark → List (Deed Entry Item)
deeds_of [] = []
deeds_of (mark ∷ marks) = deed_of mark ++ deeds_of marks

-- what a get of the channel looks at in one step: all of its records, or one of them
abbrev pub IsLookOf : SiteData → Channel → List ℕ → Type 0
IsLookOf site channel footprint =
    (footprint ≡ footprint_of site channel)
    ⊎ ((rec : ℕ) × (list_any (λ r. r == rec) (footprint_of site channel) ≡ true) × (footprint ≡ rec ∷ []))

-- What makes a read true: its place is within the history, its footprint is the channel's or one record of it, and it
-- found the records as they are there.
pub record IsTrueRead (h : History) (at : ℕ) (channel : Channel) (footprint : List ℕ)
    (found : List RecState) : Type 0 where
  pub within : at ≤ length (entries h)
  pub footprint_is : IsLookOf h.base.site channel footprint
  pub found_is : AreStatesOf (state_at h at) footprint found

-- What makes an entry's mark true: the history has it there, as this seat's, up to it the entries aren't above the
-- limit, and the records that were looked at then are found as they are right after it.
pub record IsTrueEntry (h : History) (seat at : ℕ) (entry : Entry) (looked : List ℕ)
    (found : List RecState) : Type 0 where
  pub there : slice_get (entries h) at ≡ Some (seat, entry)
  pub light : kept_at h at + weight entry ≤ h.base.limit
  pub found_is : AreStatesOf (state_at h (at + 1)) looked found

-- What makes a refusal for weight true: the entry would be above the limit there.
pub record IsTrueOverweight (h : History) (at : ℕ) (footprint : List ℕ) (actions : List (ℕ × Action))
    (kept added limit : ℕ) : Type 0 where
  pub within : at ≤ length (entries h)
  pub kept_is : kept ≡ kept_at h at
  pub added_is : added ≡ weight_with footprint actions
  pub limit_is : limit ≡ h.base.limit
  pub above : limit < kept + added

-- What makes a beginning true: the roll has it, as this seat's, in the least slot that no living subscription had, with
-- fewer than 1,024 of them alive before it. By its own marks the seat had none in that slot.
pub record IsTrueBegun (h : History) (seat : ℕ) (before : List Mark) (at index slot : ℕ) (channel : Channel)
    (mask : FinSet nat_cmp) (size : ℕ) : Type 0 where
  pub within : at ≤ length (entries h)
  pub there : slice_get (roll h) index ≡ Some (seat, items.Begins slot channel mask size)
  pub least : IsLeastFree (take index (roll h)) slot
  pub few : alive (take index (roll h)) < 1024
  pub free : lives before slot ≡ false
  pub size_is : (1 ≤ size) × (size ≤ 64)

-- What makes it true that no subscription could begin: as many were alive as may be.
pub record IsTrueCrowded (h : History) (at index count : ℕ) : Type 0 where
  pub within : at ≤ length (entries h)
  pub within_roll : index ≤ length (roll h)
  pub count_is : count ≡ alive (take index (roll h))
  pub full : count ≡ 1024

-- What makes a pop true: the seat's subscription lives in the slot, and what was taken is the oldest unread update
-- there.
pub record IsTruePopped (h : History) (before : List Mark) (at slot : ℕ) (update : Option Update) : Type 0 where
  pub within : at ≤ length (entries h)
  pub subscribed : Living
  pub there : living before slot ≡ Some subscribed
  pub later : PopsUpTo subscribed at
  pub taken : IsOldest h subscribed at update

-- What makes an ending true: the seat's subscription lives in the slot, and the roll has its ending.
pub record IsTrueDropped (h : History) (seat : ℕ) (before : List Mark) (at index slot : ℕ) : Type 0 where
  pub within : at ≤ length (entries h)
  pub ended : slice_get (roll h) index ≡ Some (seat, items.Ends slot)
  pub subscribed : Living
  pub there : living before slot ≡ Some subscribed
  pub later : PopsUpTo subscribed at

-- The mark of this seat is true in this history, after the marks before it.
abbrev pub IsTrueIn : History → ℕ → Mark → List Mark → Type 0
IsTrueIn h seat (Read at channel footprint found) before = IsTrueRead h at channel footprint found
IsTrueIn h seat (Entered at entry looked found) before = IsTrueEntry h seat at entry looked found
IsTrueIn h seat (Overweight at footprint actions kept added limit) before =
    IsTrueOverweight h at footprint actions kept added limit
IsTrueIn h seat (Begun at index slot channel mask size) before =
    IsTrueBegun h seat before at index slot channel mask size
IsTrueIn h seat (Crowded at index count) before = IsTrueCrowded h at index count
IsTrueIn h seat (Popped at slot update) before = IsTruePopped h before at slot update
IsTrueIn h seat (Dropped at index slot) before = IsTrueDropped h seat before at index slot

-- Each of these marks of the seat is true.
abbrev pub AllHold : ℕ → History → List Mark → List Mark → Type 0
AllHold seat h before marks = AllTrue (IsTrueIn h seat) before marks

-- Each subscription that began in these marks has ended in them, and each that ended in them was folded there.

abbrev pub IsFoldedAtEnd : History → Mark → List Mark → Type 0
IsFoldedAtEnd h (Dropped at index slot) before = (l : Living) → living before slot ≡ Some l → IsFolded h l at
IsFoldedAtEnd h mark before = ⊤

pub record AllFold (h : History) (marks : List Mark) : Type 0 where
  pub ended : (slot : ℕ) → lives marks slot ≡ false
  pub folded_ : AllTrue (IsFoldedAtEnd h) [] marks
