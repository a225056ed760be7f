-- What an operation of a client comes to over a link that it dials (pvAccess Protocol Specification, "Connection
-- Management").
use Rattle.std.specs.Prelude.{◌≡◌, ◌⊎◌, ℕ, ◌+◌, ◌++◌, ◌∷◌, [], ◌<◌, ◌≤◌, ◌^◌, List, length, Option, None, Some}
use Rattle.pva_frames.specs.Assembled.{fault_from}
use Rattle.pva_outside.specs.Count.{Rose}
use Rattle.pva_outside.specs.Dials.{DialerView, HasDialed, DialFailed, with_link_back}
use Rattle.pva_outside.specs.Wire.{Wire}
use Rattle.pva_outside.specs.declared.peer.Peer.{Peer}
use Rattle.cli_search.specs.Turning.{RoseBy}
use Rattle.cli_session.specs.Steps.{client_bytes, client_fault}
use Rattle.cli_session.specs.declared.ask.Ask.{Ask}
use Rattle.srv_stream.specs.Moves.{Moves, IsAll}
use Rattle.srv_stream.specs.Served.{IsProperPrefixOf}
use Rattle.cli_within.specs.Ends.{events_in, text_for, Begins, HasPrinted, HasStopped}
use Rattle.cli_within.specs.Exchanging.{ended_by}
use Rattle.prog_client.specs.declared.outcome.Outcome.{Outcome}
use Rattle.prog_client.specs.declared.outcome.Outcome.TheVariants as outcomes
use Rattle.prog_client.specs.declared.outcome.Patience.{Patience}
use Rattle.cli_within.specs.declared.stop.Ending.{Ending}
use Rattle.cli_within.specs.declared.stop.Stop.{Stop}
use Rattle.cli_within.specs.declared.stop.Stop.TheVariants as stops

-- all that the client says to these bytes of the server
abbrev pub said_to : Ask → List ℕ → List ℕ
said_to ask read = client_bytes ask (events_in read)

-- The client takes every event of these bytes. Until the operation ends no header among them is refused.
pub record IsSound (ask : Ask) (read : List ℕ) : Type 0 where
  pub events : client_fault ask (events_in read) ≡ None
  pub headers : ended_by ask read ≡ None → fault_from 0 None read ≡ None

-- How an exchange over a link ends, behind which this was read, written and printed.

-- The operation ended so. All that the client says was written.
pub record AtTold (ask : Ask) (begin end : Wire) (start now : Option (List ℕ)) (before after : ℕ)
    (read written : List ℕ) (ending : Ending) : Type 0 where
  pub ended : ended_by ask read ≡ Some ending
  pub sound : IsSound ask read
  pub all : written ≡ said_to ask read
  pub printed : HasPrinted start now before after (text_for ask read)
  pub faults : end.faults ≡ begin.faults
  pub ends : end.ends ≡ begin.ends

-- The client stopped at what was read, before the operation ended; or memory ran out.
pub record AtStopped (ask : Ask) (begin end : Wire) (start now : Option (List ℕ)) (before after : ℕ) (read : List ℕ)
    (stop : Stop) : Type 0 where
  pub stopped : HasStopped ask read start now before after stop
  pub faults : end.faults ≡ begin.faults
  pub ends : end.ends ≡ begin.ends

-- The server ended the stream before the operation ended. All that it sent was read, and all that the client says was
-- written.
pub record AtClosed (ask : Ask) (begin end : Wire) (start now : Option (List ℕ)) (before after : ℕ)
    (read written : List ℕ) : Type 0 where
  pub unended : ended_by ask read ≡ None
  pub sound : IsSound ask read
  pub all_read : IsAll begin.left read
  pub all : written ≡ said_to ask read
  pub printed : HasPrinted start now before after (text_for ask read)
  pub faults : end.faults ≡ begin.faults
  pub ends : Rose begin.ends end.ends

-- a further call was due: to read, or to write what is left
abbrev pub IsUndone : Ask → List ℕ → List ℕ → Type 0
IsUndone ask read written = (ended_by ask read ≡ None) ⊎ IsProperPrefixOf written (said_to ask read)

-- The link failed at a call that was due.
pub record AtFailed (ask : Ask) (begin end : Wire) (start now : Option (List ℕ)) (before after : ℕ)
    (read written : List ℕ) : Type 0 where
  pub undone : IsUndone ask read written
  pub sound : IsSound ask read
  pub printed : HasPrinted start now before after (text_for ask read)
  pub faults : Rose begin.faults end.faults
  pub ends : end.ends ≡ begin.ends

-- Nothing moved any more, as often as ends an exchange.
pub record AtIdle (ask : Ask) (idle : ℕ) (begin end : Wire) (start now : Option (List ℕ)) (before after : ℕ)
    (read written : List ℕ) : Type 0 where
  pub undone : IsUndone ask read written
  pub sound : IsSound ask read
  pub idles : RoseBy idle begin.idles end.idles
  pub printed : HasPrinted start now before after (text_for ask read)
  pub faults : end.faults ≡ begin.faults
  pub ends : end.ends ≡ begin.ends

-- All turns were made. In each a byte moved, or the link was idle.
pub record AtSpent (ask : Ask) (turns : ℕ) (begin end : Wire) (start now : Option (List ℕ)) (before after : ℕ)
    (read written : List ℕ) : Type 0 where
  pub undone : IsUndone ask read written
  pub sound : IsSound ask read
  pub bound : end.idles + 1 < 2 ^ 64 → begin.idles + turns ≤ end.idles + length read + length written
  pub printed : HasPrinted start now before after (text_for ask read)
  pub faults : end.faults ≡ begin.faults
  pub ends : end.ends ≡ begin.ends

abbrev pub HasCause : Ask → Patience → Wire → Wire → Option (List ℕ) → Option (List ℕ) → ℕ → ℕ → List ℕ → List ℕ
    → Outcome → Type 0
HasCause ask p begin end start now before after read written (outcomes.Told ending) =
    AtTold ask begin end start now before after read written ending
HasCause ask p begin end start now before after read written (outcomes.Stopped stop) =
    AtStopped ask begin end start now before after read stop
HasCause ask p begin end start now before after read written outcomes.Closed =
    AtClosed ask begin end start now before after read written
HasCause ask p begin end start now before after read written outcomes.Failed =
    AtFailed ask begin end start now before after read written
HasCause ask p begin end start now before after read written outcomes.Idle =
    AtIdle ask p.idle begin end start now before after read written
HasCause ask p begin end start now before after read written outcomes.Spent =
    AtSpent ask p.turns begin end start now before after read written
HasCause ask p begin end start now before after read written outcomes.Unfound = ⊥

-- An exchange over a link: what was read of it and written to it, where it tells its bytes, and why it ended. What was
-- written is a front of what the client says to what was read.
pub record HasConversed (ask : Ask) (p : Patience) (begin end : Wire) (start now : Option (List ℕ)) (before after : ℕ)
    (outcome : Outcome) : Type 0 where
  pub read : List ℕ
  pub written : List ℕ
  pub moves : Moves begin end read written
  pub begins : Begins ask read written
  pub cause : HasCause ask p begin end start now before after read written outcome

-- A server was dialed, and the operation ran over the link to it. The link was taken back.
pub record HasOperated (ask : Ask) (p : Patience) (to : Peer) (old new : DialerView) (start now : Option (List ℕ))
    (before after : ℕ) (outcome : Outcome) : Type 0 where
  pub begin : Wire
  pub end : Wire
  pub dialed : DialerView
  pub dials : HasDialed old dialed begin to
  pub conversed : HasConversed ask p begin end start now before after outcome
  pub back : new ≡ with_link_back dialed end

-- The same, but there was no memory to take the link back.
pub record IsUnretired (ask : Ask) (p : Patience) (to : Peer) (old new : DialerView) (start now : Option (List ℕ))
    (before after : ℕ) (outcome : Outcome) : Type 0 where
  pub begin : Wire
  pub end : Wire
  pub dials : HasDialed old new begin to
  pub was : Outcome
  pub conversed : HasConversed ask p begin end start now before after was
  pub outcome_is : outcome ≡ outcomes.Stopped stops.NoMemory

-- No server was reached, and no more than the channel's name was printed.
abbrev pub IsUndialed : Peer → DialerView → DialerView → Outcome → Type 0
IsUndialed to old new outcomes.Failed = DialFailed old new to
IsUndialed to old new (outcomes.Stopped stops.NoMemory) = new ≡ old
IsUndialed to old new other = ⊥

-- what is printed before all else: the channel's name and a line feed
abbrev pub name_line : Ask → List ℕ
name_line ask = ask.name ++ 10 ∷ []

-- An operation over a link to this server.
abbrev pub Operates : Ask → Patience → Peer → DialerView → DialerView → Option (List ℕ) → Option (List ℕ) → ℕ → ℕ
    → Outcome → Type 0
Operates ask p to old new start now before after outcome =
    HasOperated ask p to old new start now before after outcome
    ⊎ (IsUnretired ask p to old new start now before after outcome
    ⊎ (IsUndialed to old new outcome × HasPrinted start now before after (name_line ask)))
