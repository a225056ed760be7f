-- The slots of the living subscriptions, and what is done with all of them.
use Rattle.std.specs.Prelude.{◌≡◌, ◌<◌, ℕ, Bool, true, false, List, Option, None, Some, is_some, slice_index_or}
use Rattle.rec_kinds.specs.declared.state.RecState.{RecState}
use Rattle.journal_core.specs.declared.entry.Entry.{Entry}
use Rattle.mon_queue.specs.declared.update.Update.{Update}
use Rattle.mon_shown.specs.Channels.{ChannelView}
use Rattle.mon_shown.specs.Keeping.{IsOf, IsReady, MayChange, Took, Popped}
use Rattle.mon_shown.specs.Noting.{names, wants}
use Rattle.mon_shown.specs.Readies.{found_for}
use Rattle.mon_shown.specs.declared.watching.Watching.{Watching}
use Rattle.mon_shown.specs.declared.watching.Ready.{Ready}
use Rattle.mon_shown.specs.declared.subscriptions.Subscriptions.{Subscriptions}
use Rattle.mon_shown.specs.declared.subscriptions.Readied.{Readied}

abbrev pub slot_of : {X : Type 0} → List (Option X) → ℕ → Option X
slot_of slots slot = slice_index_or slots slot None

abbrev pub ready_in : Readied → ℕ → Option Ready
ready_in rs slot = found_for slot rs.readies.items

module _ {C : Type 0} where
  -- the subscription of a slot
  abbrev pub slot_in : Subscriptions C → ℕ → Option (Watching C)
  slot_in subs slot = slot_of subs.slots.items slot

  abbrev pub is_filled : Subscriptions C → ℕ → Bool
  is_filled subs slot = is_some (slot_in subs slot)

  -- whether the record triggers a leaf that the subscription asks for
  abbrev pub is_concerned : (C → ChannelView) → ℕ → Option (Watching C) → Bool
  is_concerned shows rec None = false
  is_concerned shows rec (Some x) = wants (shows x.channel) x.requested rec

  -- The subscriptions are of these channels, and under each record those are listed of which it triggers leaves.
  pub record Stand (has : C → Bool) (shows : C → ChannelView) (subs : Subscriptions C) : Type 0 where
    pub is_of : (slot : ℕ) (x : Watching C) → slot_in subs slot ≡ Some x → IsOf has shows x
    pub listed : (slot rec : ℕ) → names subs.index rec slot ≡ is_concerned shows rec (slot_in subs slot)

  -- an entry, slot by slot

  abbrev pub SlotMay : Option (Watching C) → Option Ready → Type 0
  SlotMay None r = Unit {0}
  SlotMay (Some x) r = MayChange x r

  abbrev pub SlotReady : (C → ChannelView) → List RecState → Entry → Option (Watching C) → Option Ready → Type 0
  SlotReady shows states e None r = Unit {0}
  SlotReady shows states e (Some x) r = IsReady shows states e x r

  abbrev pub SlotTook : Option (Watching C) → Option Ready → Option (Watching C) → Type 0
  SlotTook None r y = y ≡ None
  SlotTook (Some x) r None = ⊥
  SlotTook (Some x) r (Some y) = Took x r y

  abbrev pub MayTakeAll : Subscriptions C → Readied → Type 0
  MayTakeAll subs rs = (slot : ℕ) → SlotMay (slot_in subs slot) (ready_in rs slot)

  pub record AreReady (shows : C → ChannelView) (states : List RecState) (e : Entry) (subs : Subscriptions C) (rs : Readied) : Type 0 where
    pub each : (slot : ℕ) → SlotReady shows states e (slot_in subs slot) (ready_in rs slot)
    pub may : MayTakeAll subs rs

  abbrev pub TookAll : Subscriptions C → Readied → Subscriptions C → Type 0
  TookAll subs rs more = (slot : ℕ) → SlotTook (slot_in subs slot) (ready_in rs slot) (slot_in more slot)

  -- a pop, a beginning and an ending

  -- all slots but this one are as before
  abbrev pub OtherSlotsStay : Subscriptions C → ℕ → Subscriptions C → Type 0
  OtherSlotsStay subs slot more = (s : ℕ) → (s ≡ slot → ⊥) → slot_in more s ≡ slot_in subs s

  abbrev pub SlotsStay : Subscriptions C → Subscriptions C → Type 0
  SlotsStay subs more = (s : ℕ) → slot_in more s ≡ slot_in subs s

  abbrev pub SlotPopped : Option (Watching C) → Option Update → Option (Watching C) → Type 0
  SlotPopped None u y = (u ≡ None) × (y ≡ None)
  SlotPopped (Some x) u None = ⊥
  SlotPopped (Some x) u (Some y) = Popped x u y

  -- the least slot that is free
  pub record IsFirstFree (subs : Subscriptions C) (slot : ℕ) : Type 0 where
    pub free : is_filled subs slot ≡ false
    pub below : (k : ℕ) → k < slot → is_filled subs k ≡ true

  -- 1,024 subscriptions live
  abbrev pub IsFull : Subscriptions C → Type 0
  IsFull subs = (k : ℕ) → k < 1024 → is_filled subs k ≡ true
