-- Which slots are listed under which records.
use Rattle.std.specs.Prelude.{◌≡◌, ◌==◌, ℕ, Bool, false, not, List, Option, None, Some, slice_get}
use Rattle.std.specs.Ordering.{nat_cmp}
use Rattle.std.specs.FinSet.{FinSet, intersection, len}
use Rattle.mon_shown.specs.Channels.{ChannelView, is_one_of}
use Rattle.mon_shown.specs.declared.index.Listed.{Listed}
use Rattle.mon_shown.specs.declared.index.Index.{Index}

abbrev pub has_slot : Listed → ℕ → Bool
has_slot l s = is_one_of l.slots.items s

abbrev pub listed : Option Listed → ℕ → Bool
listed None s = false
listed (Some l) s = has_slot l s

abbrev pub has_slot_at : List Listed → ℕ → ℕ → Bool
has_slot_at lists rec s = listed (slice_get lists rec) s

-- whether the record's list has the slot
abbrev pub names : Index → ℕ → ℕ → Bool
names ix rec s = has_slot_at ix.lists.items rec s

-- whether the record triggers some of these leaves of the channel
abbrev pub wants : ChannelView → FinSet nat_cmp → ℕ → Bool
wants c mask rec = not (len (intersection (c.triggers rec) mask) == 0)

-- Under every record all slots but this one are listed as before.
abbrev pub OthersStay : Index → ℕ → Index → Type 0
OthersStay old slot new = (r s : ℕ) → (s ≡ slot → ⊥) → names new r s ≡ names old r s
