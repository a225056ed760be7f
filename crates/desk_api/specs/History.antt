-- The committed history of a desk: its site and its limit, and what the seats did, in order.
use Rattle.std.specs.Prelude.{ℕ, List, take}
use Rattle.rec_kinds.specs.declared.state.RecState.{RecState}
use Rattle.journal_core.specs.declared.entry.Entry.{Entry}
use Rattle.journal_core.specs.Histories.{state_at as replayed_at, kept}
use Rattle.journal_core.specs.Legality.{IsLegal as AreLegal}
use Rattle.histories.specs.declared.story.Story.{Story}
use Rattle.histories.specs.History.{entries_of, entries_by_seat, roll_by_seat}
use Rattle.mon_shown.specs.declared.roll.RollItem.{RollItem}
use Rattle.desk_api.specs.declared.channel.Channel.{Channel}
use Rattle.desk_api.specs.declared.history.Base.{Base}

-- a beginning or an ending of a subscription to a channel
abbrev pub Item : Type 0
Item = RollItem Channel

abbrev pub History : Type 0
History = Story Base Entry Item

-- the entries, in order, each with the seat that made it
abbrev pub entries : History → List (ℕ × Entry)
entries h = entries_by_seat h.deeds

-- the beginnings and endings of subscriptions, in order, each with its seat
abbrev pub roll : History → List (ℕ × Item)
roll h = roll_by_seat h.deeds

-- the entries without their seats
abbrev pub commits : History → List Entry
commits h = entries_of h.deeds

-- The states of all records after the first n entries: the opening, with the writes of these entries.
abbrev pub state_at : History → ℕ → List RecState
state_at h n = replayed_at h.base.site.opening (commits h) n

-- What the first n entries weigh together.
abbrev pub kept_at : History → ℕ → ℕ
kept_at h n = kept (take n (commits h))

-- A history is legal where each of its entries is legal after the states at its own place.
abbrev pub IsLegal : History → Type 0
IsLegal h = AreLegal h.base.site.configs h.base.site.opening (commits h)
