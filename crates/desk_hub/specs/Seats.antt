-- What a desk keeps of the subscriptions of each of its seats, in slots that all seats share.
use Rattle.std.specs.Prelude.{◌≡◌, ◌==◌, ◌≤◌, ℕ, Bool, true, false, List, Option, None, Some, length, ⊤}
use Rattle.pvd_type.specs.Tree.{Tree}
use Rattle.mon_queue.specs.Course.{scene_at}
use Rattle.mon_shown.specs.Keeping.{channel_of, tree_of, Keeps}
use Rattle.mon_shown.specs.Rolls.{holder, Follows}
use Rattle.mon_shown.specs.Slots.{slot_in, Stand}
use Rattle.mon_shown.specs.declared.subscriptions.Subscriptions.{Subscriptions}
use Rattle.mon_shown.specs.declared.watching.Watching.{Watching}
use Rattle.desk_api.specs.History.{History, commits, roll}
use Rattle.desk_api.specs.Living.{Living, living, living_with, subscription, unread_of, PopsUpTo}
use Rattle.desk_api.specs.Triggers.{channel_view, may_be_watched}
use Rattle.desk_api.specs.declared.channel.Channel.{Channel}
use Rattle.desk_api.specs.declared.mark.Mark.{Mark}

-- the living subscriptions to channels of a site
abbrev pub Subs : Type 0
Subs = Subscriptions Channel

-- how many entries a history has
abbrev pub now : History → ℕ
now h = length (commits h)

-- what there is, where that holds
abbrev pub only : {X : Type 0} → Bool → Option X → Option X
only true o = o
only false o = None

-- whether it is this seat that holds
abbrev pub is_holder : ℕ → Option ℕ → Bool
is_holder seat None = false
is_holder seat (Some k) = k == seat

-- whether the seat holds the slot, by the roll
abbrev pub has_slot : History → ℕ → ℕ → Bool
has_slot h seat slot = is_holder seat (holder (roll h) slot)

-- the subscription in a slot, where the seat holds it
abbrev pub own_slot : History → ℕ → Subs → ℕ → Option (Watching Channel)
own_slot h seat subs slot = only (has_slot h seat slot) (slot_in subs slot)

-- What is kept of a living subscription: what it is shown at the end of the history, and the updates of its unread runs
-- there.
pub record KeepsLiving (h : History) (l : Living) (x : Watching Channel) : Type 0 where
  pub channel_is : channel_of x ≡ l.channel
  pub keeps :
      Keeps (subscription h l).watch l.size (scene_at (subscription h l) (commits h) (now h)) (unread_of h l (now h)) x
  pub later : PopsUpTo l (now h)
  pub size_is : (1 ≤ l.size) × (l.size ≤ 64)

abbrev pub KeepsSlot : History → Option Living → Option (Watching Channel) → Type 0
KeepsSlot h None None = ⊤
KeepsSlot h (Some l) (Some x) = KeepsLiving h l x
KeepsSlot h _ _ = ⊥

-- Whosever the slots are: they are of channels of the site, and filled just where the roll has them held.
pub record SlotsStand (h : History) (subs : Subs) : Type 0 where
  pub stand : Stand (may_be_watched h.base.site) (channel_view h.base.site) subs
  pub held : Follows (roll h) subs

-- What is kept of a seat with this log: in each slot that it holds the subscription that its log has there, and in no
-- other slot has its log one.
pub record KeepsSeat (h : History) (subs : Subs) (seat : ℕ) (log : List Mark) : Type 0 where
  pub stands : SlotsStand h subs
  pub each : (slot : ℕ) → KeepsSlot h (living log slot) (own_slot h seat subs slot)

-- there is a subscription, and its updates are of this type
abbrev pub IsTyped : Tree → Option (Watching Channel) → Type 0
IsTyped t None = ⊥
IsTyped t (Some x) = tree_of x ≡ t

-- a mark that begins, pops and ends no subscription
abbrev pub IsAside : Mark → Type 0
IsAside mark = (slot : ℕ) (o : Option Living) → living_with slot o mark ≡ o
