-- Which slots living subscriptions have, by the roll.
use Rattle.std.specs.Prelude.{◌≡◌, ◌==◌, ℕ, zero, suc, ◌+◌, ◌<◌, Bool, true, false, List, [], ◌∷◌, Option, None, Some, is_some, if◌then◌else◌}
use Rattle.mon_shown.specs.Slots.{is_filled}
use Rattle.mon_shown.specs.declared.subscriptions.Subscriptions.{Subscriptions}
use Rattle.mon_shown.specs.declared.roll.RollItem.{RollItem}
use Rattle.mon_shown.specs.declared.roll.RollItem.TheVariants.{Begins, Ends}

-- a seat's ending frees a slot that this seat has, and no other's
abbrev pub freed : ℕ → Option ℕ → Option ℕ
freed seat None = None
freed seat (Some k) = if k == seat then None else Some k

module _ {C : Type 0} where
  abbrev pub holder_with : ℕ → Option ℕ → ℕ × RollItem C → Option ℕ
  holder_with slot o (seat, Begins s channel mask size) = if s == slot then Some seat else o
  holder_with slot o (seat, Ends s) = if s == slot then freed seat o else o

  -- the seat that has the slot after these items
  abbrev pub holder_after : ℕ → Option ℕ → List (ℕ × RollItem C) → Option ℕ
  holder_after slot o [] = o
  holder_after slot o (i ∷ items) = holder_after slot (holder_with slot o i) items

  abbrev pub holder : List (ℕ × RollItem C) → ℕ → Option ℕ
  holder items slot = holder_after slot None items

  abbrev pub is_held : List (ℕ × RollItem C) → ℕ → Bool
  is_held items slot = is_some (holder items slot)

  -- how many of the slots below n are held
  abbrev pub held_below : ℕ → List (ℕ × RollItem C) → ℕ
  held_below zero items = 0
  held_below (suc n) items = if is_held items n then held_below n items + 1 else held_below n items

  -- how many subscriptions live after these items
  unfoldable pub alive : List (ℕ × RollItem C) → ℕ
  alive items = held_below 1024 items

  -- the least slot that no living subscription has
  pub record IsLeastFree (items : List (ℕ × RollItem C)) (slot : ℕ) : Type 0 where
    pub free : is_held items slot ≡ false
    pub below : (k : ℕ) → k < slot → is_held items k ≡ true

  -- A slot is filled just where the roll has it held.
  abbrev pub Follows : List (ℕ × RollItem C) → Subscriptions C → Type 0
  Follows items subs = (slot : ℕ) → is_filled subs slot ≡ is_held items slot
