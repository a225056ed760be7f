-- Why no subscription begins.
use Rattle.std.specs.Prelude.{◌≡◌, ◌<◌, ℕ, false}
use Rattle.mon_shown.specs.Slots.{is_filled, IsFull}
use Rattle.mon_shown.specs.declared.slots.NotBegun.{NotBegun}
use Rattle.mon_shown.specs.declared.slots.NotBegun.TheVariants.{TooMany, NoMemory}
use Rattle.mon_shown.specs.declared.subscriptions.Subscriptions.{Subscriptions}

-- one of the slots below 1,024 is free
pub record HasRoom {C : Type 0} (subs : Subscriptions C) : Type 0 where
  pub slot : ℕ
  pub less : slot < 1024
  pub free : is_filled subs slot ≡ false

-- There are too many exactly where 1,024 live.
abbrev pub IsCause : {C : Type 0} → Subscriptions C → NotBegun → Type 0
IsCause subs TooMany = IsFull subs
IsCause subs NoMemory = HasRoom subs
