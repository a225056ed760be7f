-- What an exchange comes to: an operation of a client against a server of a desk, with bytes that pass in rounds.
use Rattle.std.specs.Prelude.{◌≡◌, ◌⊎◌, ℕ, ◌+◌, ◌*◌, ◌++◌, ◌<◌, ◌≤◌, Bool, true, false, nat_le, if◌then◌else◌, List, length, Option, None, Some}
use Rattle.pva_wire.specs.declared.order.Order.TheVariants.{Little}
use Rattle.pva_frames.specs.Assembled.{fault_from}
use Rattle.pva_frames.specs.declared.event.Event.{Event}
use Rattle.pvd_codec.specs.Written.{CanEach}
use Rattle.histories.specs.History.{IsPrefixOf}
use Rattle.desk_api.specs.Calls.{Adds, HaveMoment}
use Rattle.desk_api.specs.Marks.{AllFold}
use Rattle.desk_api.specs.declared.history.SiteData.{SiteData}
use Rattle.desk_api.specs.declared.mark.Mark.{Mark}
use Rattle.desk_api.specs.declared.mark.Seat.{Seat}
use Rattle.journal_core.specs.Moments.{Moment}
use Rattle.srv_session.specs.State.{opening}
use Rattle.srv_session.specs.Steps.{AreEndings, IsDrained, NextPart, after_part, state_after}
use Rattle.srv_stream.specs.Served.{Talk, Whole}
use Rattle.srv_stream.specs.declared.ended.Ended.{Ended}
use Rattle.cli_session.specs.Laws.{CanWrite}
use Rattle.cli_session.specs.Steps.{client_told, client_sent, client_bytes, client_fault}
use Rattle.cli_session.specs.declared.ask.Ask.{Ask}
use Rattle.cli_within.specs.Ends.{events_in, ending_of, text_for, HasPrinted, HasStopped, Begins}
use Rattle.cli_within.specs.declared.stop.End.{End}
use Rattle.cli_within.specs.declared.stop.End.TheVariants as ends
use Rattle.cli_within.specs.declared.stop.Ending.{Ending}
use Rattle.cli_within.specs.declared.stop.Stop.{Stop}
use Rattle.cli_within.specs.declared.stop.Stop.TheVariants as stops

-- The marks stand in a dialogue of the bytes that the client gave, of all their events or of those before the first
-- trouble, and the client took a front of what the server said in it.
pub record HasTalked (site : SiteData) (given taken : List ℕ) (log : List Mark) : Type 0 where
  pub out : List ℕ
  pub trouble : Option Ended
  pub whole : Whole site Little given log out trouble
  pub sent : IsPrefixOf taken out

-- how the operation stands behind the server's bytes
abbrev pub ended_by : Ask → List ℕ → Option Ending
ended_by ask taken = ending_of (client_told ask (events_in taken))

-- The operation ended so.
pub record AtEnding (ask : Ask) (site : SiteData) (start now : Option (List ℕ)) (before after : ℕ)
    (given taken : List ℕ) (log : List Mark) (ending : Ending) : Type 0 where
  pub talked : HasTalked site given taken log
  pub printed : HasPrinted start now before after (text_for ask taken)
  pub ended : ended_by ask taken ≡ Some ending

-- The client stopped.
pub record AtStop (ask : Ask) (site : SiteData) (start now : Option (List ℕ)) (before after : ℕ)
    (given taken : List ℕ) (log : List Mark) (stop : Stop) : Type 0 where
  pub talked : HasTalked site given taken log
  pub stopped : HasStopped ask taken start now before after stop

-- Memory ran out: some of the events that the client gave were answered, marks of the row of the next, or of one more pop,
-- may stand before the endings, and the client took a front of what the server said. The endings are of the subscriptions
-- that those marks leave.
pub record AtShort (ask : Ask) (site : SiteData) (start now : Option (List ℕ)) (before after : ℕ)
    (given taken : List ℕ) (log : List Mark) : Type 0 where
  pub events : List Event
  pub later : List Event
  pub said : List Mark
  pub more : List Mark
  pub endings : List Mark
  pub out : List ℕ
  pub talk : Talk site Little events said out
  pub all : events_in given ≡ events ++ later
  pub part : NextPart site (state_after site (opening Little) talk.steps) later more
  pub ends : AreEndings (after_part site (state_after site (opening Little) talk.steps) later more) endings
  pub log_is : (said ++ more) ++ endings ≡ log
  pub sent : IsPrefixOf taken out
  pub stopped : HasStopped ask taken start now before after stops.NoMemory

-- The client takes every event of these bytes, and no header among them is refused.
pub record HasNoFault (ask : Ask) (taken : List ℕ) : Type 0 where
  pub events : client_fault ask (events_in taken) ≡ None
  pub headers : fault_from 0 None taken ≡ None

-- The server's end closed at a fault of what it heard. All that it said before was taken.
pub record AtClosing (ask : Ask) (site : SiteData) (start now : Option (List ℕ)) (before after : ℕ)
    (given taken : List ℕ) (log : List Mark) : Type 0 where
  pub trouble : Ended
  pub whole : Whole site Little given log taken (Some trouble)
  pub printed : HasPrinted start now before after (text_for ask taken)
  pub sound : HasNoFault ask taken
  pub unended : ended_by ask taken ≡ None

-- Neither end has a byte: all that the client says has a spelling and was given, all that the server says was taken, and
-- nothing is unread that may be sent.
pub record IsQuiet (ask : Ask) (site : SiteData) (given taken : List ℕ) (log : List Mark) : Type 0 where
  pub whole : Whole site Little given log taken None
  pub drained : IsDrained site (opening Little) whole.dialogue.talk.steps
  pub said : given ≡ client_bytes ask (events_in taken)
  pub written : CanEach CanWrite (client_sent ask (events_in taken))

-- So many rounds moved a byte each, of either end at most a piece, and then there were as many without one as end the run.
pub record AtIdle (ask : Ask) (site : SiteData) (idle piece turns : ℕ) (start now : Option (List ℕ)) (before after : ℕ)
    (given taken : List ℕ) (log : List Mark) : Type 0 where
  pub quiet : IsQuiet ask site given taken log
  pub rounds : ℕ
  pub moved : rounds ≤ length given + length taken
  pub few : (length given ≤ rounds * piece) × (length taken ≤ rounds * piece)
  pub within : rounds + idle ≤ turns
  pub printed : HasPrinted start now before after (text_for ask taken)
  pub sound : HasNoFault ask taken
  pub unended : ended_by ask taken ≡ None

-- All rounds were made: each moved a byte, but for those behind which neither end has one, fewer than end the run.
pub record AtSpent (ask : Ask) (site : SiteData) (idle turns : ℕ) (start now : Option (List ℕ)) (before after : ℕ)
    (given taken : List ℕ) (log : List Mark) : Type 0 where
  pub talked : HasTalked site given taken log
  pub bound :
      (turns ≤ length given + length taken)
      ⊎ (IsQuiet ask site given taken log × (turns < length given + length taken + idle))
  pub printed : HasPrinted start now before after (text_for ask taken)
  pub sound : HasNoFault ask taken
  pub unended : ended_by ask taken ≡ None

abbrev pub HasCause : Ask → SiteData → ℕ → ℕ → ℕ → Option (List ℕ) → Option (List ℕ) → ℕ → ℕ → List ℕ → List ℕ → List Mark
    → End → Type 0
HasCause ask site idle piece turns start now before after given taken log (ends.Told ending) =
    AtEnding ask site start now before after given taken log ending
HasCause ask site idle piece turns start now before after given taken log (ends.Stopped stops.NoMemory) =
    AtShort ask site start now before after given taken log
HasCause ask site idle piece turns start now before after given taken log (ends.Stopped stop) =
    AtStop ask site start now before after given taken log stop
HasCause ask site idle piece turns start now before after given taken log ends.Closed =
    AtClosing ask site start now before after given taken log
HasCause ask site idle piece turns start now before after given taken log ends.Idle =
    AtIdle ask site idle piece turns start now before after given taken log
HasCause ask site idle piece turns start now before after given taken log ends.Spent =
    AtSpent ask site idle turns start now before after given taken log

-- An exchange: what the client gave and took, the marks of the desk, and how it ended. The marks are true in the history
-- that the desk has then, which is legal and grew by them alone (`adds`); its entries have the moment that the clock tells;
-- and each subscription has ended, and its updates fold to what it was shown (`folds`). In each of at most so many rounds
-- each end gave at most a piece. What was given is a front of what the server's bytes have the client send.
pub record Exchanged (ask : Ask) (idle piece turns : ℕ) (told : Option Moment) (first last : Seat)
    (start now : Option (List ℕ)) (before after : ℕ) (end : End) : Type 0 where
  pub log : List Mark
  pub given : List ℕ
  pub taken : List ℕ
  pub adds : Adds first last log
  pub moments : HaveMoment told log
  pub folds : AllFold last.seen log
  pub few : (length given ≤ turns * piece) × (length taken ≤ turns * piece)
  pub begins : Begins ask taken given
  pub cause : HasCause ask first.seen.base.site idle piece turns start now before after given taken log end

-- how an exchange ends in which neither end has a byte any more, where so many rounds are left
abbrev pub end_at_rest : Bool → ℕ → ℕ → End
end_at_rest true left idle = ends.Closed
end_at_rest false left idle = if nat_le idle left then ends.Idle else ends.Spent
