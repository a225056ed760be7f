-- The marks of subscriptions, on a desk that nobody shares.
use Rattle.std.specs.Prelude.{◌≡◌, ℕ, length, Option}
use Rattle.std.specs.FinSet.{FinSet}
use Rattle.std.specs.Ordering.{nat_cmp}
use Rattle.mon_queue.specs.declared.update.Update.{Update}
use Rattle.mon_shown.specs.declared.slots.NotBegun.{NotBegun}
use Rattle.mon_shown.specs.declared.slots.NotBegun.TheVariants.{TooMany, NoMemory}
use Rattle.desk_api.specs.Calls.{with_mark}
use Rattle.desk_api.specs.History.{roll}
use Rattle.desk_api.specs.declared.channel.Channel.{Channel}
use Rattle.desk_api.specs.declared.mark.Mark.{Mark}
use Rattle.desk_api.specs.declared.mark.Mark.TheVariants.{Begun, Crowded, Popped, Dropped}
use Rattle.desk_api.specs.declared.mark.Seat.{Seat}
use Rattle.desk_api.specs.declared.sub.SubAnswer.{SubAnswer}
use Rattle.desk_api.specs.declared.sub.SubAnswer.TheVariants as answers

-- Each as a mark by its place, behind all items of the roll that the seat has seen.

abbrev pub begun_in : Seat → ℕ → Channel → FinSet nat_cmp → ℕ → ℕ → Mark
begun_in s slot channel mask size at = Begun at (length (roll s.seen)) slot channel mask size

abbrev pub crowded : Seat → ℕ → ℕ → Mark
crowded s count at = Crowded at (length (roll s.seen)) count

abbrev pub popped : ℕ → Option Update → ℕ → Mark
popped slot update at = Popped at slot update

abbrev pub dropped : Seat → ℕ → ℕ → Mark
dropped s slot at = Dropped at (length (roll s.seen)) slot

-- What is answered where no subscription begins: that 1,024 live, which is noted, or that memory ran out.
abbrev pub IsNotBegunNow : Seat → Seat → NotBegun → SubAnswer → Type 0
IsNotBegunNow s t TooMany answer = (answer ≡ answers.TooManyMonitors 1024) × (t ≡ with_mark s (crowded s 1024))
IsNotBegunNow s t NoMemory answer = (answer ≡ answers.NoMemory) × (t ≡ s)
