-- What serving one connection means.
use Rattle.std.specs.Prelude.{◌≡◌, ℕ, ◌+◌, ◌<◌, ◌≤◌, ◌^◌, ◌⊎◌, List, [], ◌∷◌, ◌++◌, length, Option, None, Some}
use Rattle.pva_outside.specs.Count.{Rose}
use Rattle.pva_outside.specs.Wire.{Wire}
use Rattle.pva_wire.specs.declared.order.Order.{Order}
use Rattle.pva_frames.specs.Messages.{events_from, left_from}
use Rattle.pva_frames.specs.Assembled.{rest_from}
use Rattle.pva_frames.specs.declared.event.Event.{Event}
use Rattle.histories.specs.History.{IsPrefixOf}
use Rattle.desk_api.specs.Calls.{Adds, HaveMoment}
use Rattle.desk_api.specs.Marks.{AllFold}
use Rattle.desk_api.specs.declared.history.SiteData.{SiteData}
use Rattle.desk_api.specs.declared.mark.Mark.{Mark}
use Rattle.desk_api.specs.declared.mark.Seat.{Seat}
use Rattle.srv_session.specs.State.{opening}
use Rattle.srv_session.specs.Replies.{greeting}
use Rattle.srv_session.specs.Steps.{Step, AreSteps, state_after, events_of, marks_of, turns_of, out_of, IsDrained, AreEndings, NextPart, after_part}
use Rattle.srv_session.specs.Windowing.{WindowsHold}
use Rattle.srv_stream.specs.Streams.{Stands, stop_of}
use Rattle.srv_stream.specs.Moves.{Moves, IsAll}
use Rattle.srv_stream.specs.declared.ended.Ended.{Ended}
use Rattle.srv_stream.specs.declared.ended.Ended.TheVariants as ends
use Rattle.journal_core.specs.Moments.{Moment}

-- A dialogue that goes on: on this site, in this byte order, these events and marks give these bytes, the greeting
-- first. At every step of it each pipelined monitor is within its acknowledged window.
pub record Talk (site : SiteData) (order : Order) (events : List Event) (marks : List Mark)
    (out : List ℕ) : Type 0 where
  pub steps : List Step
  pub rules : AreSteps site (opening order) steps
  pub events_are : events_of steps ≡ events
  pub marks_are : marks_of steps ≡ marks
  pub out_is : greeting order ++ out_of site (opening order) steps ≡ out
  pub windows : WindowsHold site (opening order) steps

-- Behind its last event each started monitor with an open window was popped until nothing was unread.
abbrev pub IsPumpedOut : (site : SiteData) (order : Order) (events : List Event) (marks : List Mark) (out : List ℕ)
    → Talk site order events marks out → Type 0
IsPumpedOut site order events marks out talk = IsDrained site (opening order) talk.steps

-- A dialogue that has ended: its last marks end the subscriptions, and give no bytes.
pub record Dialogue (site : SiteData) (order : Order) (events : List Event) (marks : List Mark)
    (out : List ℕ) : Type 0 where
  pub said : List Mark
  pub endings : List Mark
  pub talk : Talk site order events said out
  pub marks_are : said ++ endings ≡ marks
  pub ends : AreEndings (state_after site (opening order) talk.steps) endings

-- The dialogue of the bytes that were read: of all their events, or of those before the first trouble.
pub record Whole (site : SiteData) (order : Order) (read : List ℕ) (log : List Mark) (out : List ℕ)
    (trouble : Option Ended) : Type 0 where
  pub events : List Event
  pub remaining : List Event
  pub all : events_from 0 None read ≡ events ++ remaining
  pub dialogue : Dialogue site order events log out
  pub stands : Stands site (state_after site (opening order) dialogue.talk.steps) remaining (left_from 0 None read)
      trouble

-- What is written begins with the output of a dialogue of all that was read but the last piece, of at most 4,096 bytes, in which every
-- monitor was popped until nothing was unread.
pub record Settled (site : SiteData) (order : Order) (read written : List ℕ) (log : List Mark) : Type 0 where
  pub before : List ℕ
  pub piece : List ℕ
  pub said : List Mark
  pub later : List Mark
  pub out : List ℕ
  pub read_is : read ≡ before ++ piece
  pub small : length piece ≤ 4096
  pub log_is : log ≡ said ++ later
  pub talk : Talk site order (events_from 0 None before) said out
  pub drained : IsPumpedOut site order (events_from 0 None before) said out talk
  pub begins : IsPrefixOf out written

pub record IsProperPrefixOf (xs ys : List ℕ) : Type 0 where
  pub rest : List ℕ
  pub whole : ys ≡ xs ++ rest
  pub some : 0 < length rest

-- The answers.

-- the end of the stream was met: all was read, and all replies were written
pub record AtEnd (site : SiteData) (order : Order) (start end : Wire) (read written : List ℕ) (log : List Mark)
    (rest : Option ℕ) : Type 0 where
  pub whole : Whole site order read log written None
  pub drained : IsDrained site (opening order) whole.dialogue.talk.steps
  pub rest_is : rest_from 0 None read ≡ rest
  pub all : IsAll start.left read
  pub ends : Rose start.ends end.ends
  pub faults : end.faults ≡ start.faults

-- a header is refused, or an event has no answer: all replies before it were written
pub record AtTrouble (site : SiteData) (order : Order) (start end : Wire) (read written : List ℕ) (log : List Mark)
    (ended : Ended) : Type 0 where
  pub whole : Whole site order read log written (Some ended)
  pub ends : end.ends ≡ start.ends
  pub faults : end.faults ≡ start.faults

-- The link counted a fault. That it was the first is said over the links themselves (`EndsAtFirstFault`).

pub record AtReadFault (site : SiteData) (order : Order) (start end : Wire) (read written : List ℕ)
    (log : List Mark) : Type 0 where
  pub whole : Whole site order read log written None
  pub drained : IsDrained site (opening order) whole.dialogue.talk.steps
  pub ends : end.ends ≡ start.ends
  pub faults : Rose start.faults end.faults

pub record AtWriteFault (site : SiteData) (order : Order) (start end : Wire) (read written : List ℕ)
    (log : List Mark) : Type 0 where
  pub out : List ℕ
  pub trouble : Option Ended
  pub whole : Whole site order read log out trouble
  pub short : IsProperPrefixOf written out
  pub faults : Rose start.faults end.faults

-- a further read was due: all was written, nothing is wrong and the end isn't met
pub record DueRead (start end : Wire) (written out : List ℕ) (trouble : Option Ended) : Type 0 where
  pub taken : written ≡ out
  pub trouble_is : trouble ≡ None
  pub ends : end.ends ≡ start.ends

-- the turns were spent, and a further call was due: to write what is left, or to read
pub record AtSpent (site : SiteData) (order : Order) (start end : Wire) (turns : ℕ) (read written : List ℕ)
    (log : List Mark) (calls : ℕ) : Type 0 where
  pub out : List ℕ
  pub trouble : Option Ended
  pub whole : Whole site order read log out trouble
  pub due : IsProperPrefixOf written out ⊎ DueRead start end written out trouble
  pub all : calls ≡ turns
  pub bound : end.idles + 1 < 2 ^ 64 → start.idles + calls ≤ end.idles + length read + length written + 1
  pub faults : end.faults ≡ start.faults

-- Memory ran out: some events were answered, and marks of the row of the next, where it has an answer, or the pop of a monitor, may stand
-- before the endings. These are of the state that those marks leave.
pub record AtNoMemory (site : SiteData) (order : Order) (start end : Wire) (read written : List ℕ)
    (log : List Mark) : Type 0 where
  pub events : List Event
  pub said : List Mark
  pub more : List Mark
  pub endings : List Mark
  pub out : List ℕ
  pub talk : Talk site order events said out
  pub front : IsPrefixOf events (events_from 0 None read)
  pub part : NextPart site (state_after site (opening order) talk.steps) front.rest more
  pub ends : AreEndings (after_part site (state_after site (opening order) talk.steps) front.rest more) endings
  pub log_is : (said ++ more) ++ endings ≡ log
  pub begins : IsPrefixOf written out
  pub faults : end.faults ≡ start.faults

abbrev pub HasCause : SiteData → Order → Wire → Wire → ℕ → List ℕ → List ℕ → List Mark → Ended → Type 0
HasCause site order start end turns read written log ends.Closed = AtEnd site order start end read written log None
HasCause site order start end turns read written log (ends.Truncated place) =
    AtEnd site order start end read written log (Some place)
HasCause site order start end turns read written log (ends.Bad fault place) =
    AtTrouble site order start end read written log (ends.Bad fault place)
HasCause site order start end turns read written log ends.ReadFault = AtReadFault site order start end read written log
HasCause site order start end turns read written log ends.WriteFault =
    AtWriteFault site order start end read written log
HasCause site order start end turns read written log (ends.Spent calls) =
    AtSpent site order start end turns read written log calls
HasCause site order start end turns read written log ends.NoMemory = AtNoMemory site order start end read written log

-- the turns of an answer's dialogue: each is an event that was heard, or the pop of a monitor
abbrev pub turns_in : (site : SiteData) (order : Order) (start end : Wire) (turns : ℕ) (read written : List ℕ)
    (log : List Mark) (result : Ended) → HasCause site order start end turns read written log result
    → List (Option Event)
turns_in site order start end turns read written log ends.Closed a = turns_of a.whole.dialogue.talk.steps
turns_in site order start end turns read written log (ends.Truncated place) a = turns_of a.whole.dialogue.talk.steps
turns_in site order start end turns read written log (ends.Bad fault place) a = turns_of a.whole.dialogue.talk.steps
turns_in site order start end turns read written log ends.NoMemory a = turns_of a.talk.steps
turns_in site order start end turns read written log ends.ReadFault a = turns_of a.whole.dialogue.talk.steps
turns_in site order start end turns read written log ends.WriteFault a = turns_of a.whole.dialogue.talk.steps
turns_in site order start end turns read written log (ends.Spent calls) a = turns_of a.whole.dialogue.talk.steps

-- Each event has an answer when the dialogue comes to it, which took these turns, whatever front of the log its marks are.
abbrev pub AllAnswered : SiteData → Order → List Event → List Mark → List (Option Event) → Type 0
AllAnswered site order events log turns =
    (steps : List Step) (e : Event) (more : List Event) → AreSteps site (opening order) steps
    → events ≡ events_of steps ++ e ∷ more → IsPrefixOf (marks_of steps) log → IsPrefixOf (turns_of steps) turns
    → stop_of site (state_after site (opening order) steps) e ≡ None

-- The link's faults don't rise, all that was read is whole messages that have answers when the answer's dialogue comes to them, and
-- the turns are enough.
pub record IsSmooth (site : SiteData) (order : Order) (start end : Wire) (turns : ℕ) (read written : List ℕ)
    (log : List Mark) (result : Ended) (answer : HasCause site order start end turns read written log result)
    : Type 0 where
  pub faults : Rose start.faults end.faults → ⊥
  pub answered : AllAnswered site order (events_from 0 None read) log
      (turns_in site order start end turns read written log result answer)
  pub whole : rest_from 0 None read ≡ None
  pub idles : end.idles + 1 < 2 ^ 64
  pub turns_ : end.idles + length read + length written + 2 ≤ start.idles + turns

-- Then the answer is Closed, or memory ran out.
abbrev pub Completes : (site : SiteData) (order : Order) (start end : Wire) (turns : ℕ) (read written : List ℕ)
    (log : List Mark) (result : Ended) → HasCause site order start end turns read written log result → Type 0
Completes site order start end turns read written log result answer =
    IsSmooth site order start end turns read written log result answer
    → (result ≡ ends.Closed) ⊎ (result ≡ ends.NoMemory)

-- One connection: what was read and written, the marks of the desk, and why it ended. The entries of the seat are those
-- of its marks (`adds.own`), each at the moment that the clock tells. Each subscription has ended, and the updates that were handed out of
-- it and those that were still queued fold to every requested field as of the last entry that posted it (`folds`).
pub record Served (old new : Seat) (start end : Wire) (told : Option Moment) (order : Order) (turns : ℕ)
    (result : Ended) : Type 0 where
  pub log : List Mark
  pub read : List ℕ
  pub written : List ℕ
  pub adds : Adds old new log
  pub moments : HaveMoment told log
  pub folds : AllFold new.seen log
  pub moves : Moves start end read written
  pub settled : (read ≡ []) ⊎ Settled old.seen.base.site order read written log
  pub answer : HasCause old.seen.base.site order start end turns read written log result
  pub complete : Completes old.seen.base.site order start end turns read written log result answer
