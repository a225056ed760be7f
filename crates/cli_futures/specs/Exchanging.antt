-- What an exchange comes to over its link.
use Rattle.std.specs.Prelude.{◌≡◌, ◌⊎◌, ℕ, ◌+◌, ◌<◌, ◌≤◌, ◌^◌, true, false, List, length}
use Rattle.histories.specs.History.{IsPrefixOf}
use Rattle.pva_outside.specs.Count.{Rose}
use Rattle.pva_outside.specs.Wire.{Wire}
use Rattle.cli_session.specs.Steps.{Told}
use Rattle.cli_session.specs.Text.{text_of, client_text}
use Rattle.cli_session.specs.declared.ask.Ask.{Ask}
use Rattle.cli_futures.specs.Moves.{Moves, IsAll, RoseBy}
use Rattle.cli_futures.specs.Taking.{ClientView, HasTaken, IsSound, IsStopped, events_in, has_end, said_to, told_to}
use Rattle.cli_futures.specs.declared.end.ExchangeEnd.{ExchangeEnd}
use Rattle.cli_futures.specs.declared.end.ExchangeEnd.TheVariants as ends
use Rattle.cli_futures.specs.declared.end.Patience.{Patience}

-- The reports are, in order, all that the client tells to these bytes of its server, up to the first fault. So their text
-- is that of the client.
pub record Exchanged (ask : Ask) (read : List ℕ) (reports : List Told) : Type 0 where
  pub told : reports ≡ told_to ask read
  pub text : text_of ask reports ≡ client_text ask (events_in read)

-- a further call is due: to read, or to write what is left
abbrev pub IsUndone : Ask → List ℕ → List ℕ → Type 0
IsUndone ask read written = (has_end (told_to ask read) ≡ false) ⊎ (length written < length (said_to ask read))

-- How an exchange ends, in which this was read, written and told.

-- The operation ended, and all that the client says was written.
pub record AtDone (ask : Ask) (begin end : Wire) (read written : List ℕ) (reports : List Told) : Type 0 where
  pub ended : has_end (told_to ask read) ≡ true
  pub all : written ≡ said_to ask read
  pub sound : IsSound ask read
  pub exchanged : Exchanged ask read reports
  pub faults : end.faults ≡ begin.faults
  pub ends : end.ends ≡ begin.ends

-- The server ended its stream before that. All that it sent was read, and all that the client says was written.
pub record AtEarlyEnd (ask : Ask) (begin end : Wire) (read written : List ℕ) (reports : List Told) : Type 0 where
  pub unended : has_end (told_to ask read) ≡ false
  pub all_read : IsAll begin.left read
  pub all : written ≡ said_to ask read
  pub sound : IsSound ask read
  pub exchanged : Exchanged ask read reports
  pub faults : end.faults ≡ begin.faults
  pub ends : Rose begin.ends end.ends

-- The link failed at a call that was due.
pub record AtFault (ask : Ask) (begin end : Wire) (read written : List ℕ) (reports : List Told) : Type 0 where
  pub undone : IsUndone ask read written
  pub sound : IsSound ask read
  pub exchanged : Exchanged ask read reports
  pub faults : Rose begin.faults end.faults
  pub ends : end.ends ≡ begin.ends

-- No byte moved, as often in a row as ends an exchange.
pub record AtIdle (ask : Ask) (n idle : ℕ) (begin end : Wire) (read written : List ℕ) (reports : List Told)
    : Type 0 where
  pub limit : n ≡ idle
  pub undone : IsUndone ask read written
  pub sound : IsSound ask read
  pub idles : RoseBy n begin.idles end.idles
  pub exchanged : Exchanged ask read reports
  pub faults : end.faults ≡ begin.faults
  pub ends : end.ends ≡ begin.ends

-- All turns were made, and a further one was due. In each a byte moved, or the link was idle.
pub record AtSpent (ask : Ask) (n turns : ℕ) (begin end : Wire) (read written : List ℕ) (reports : List Told)
    : Type 0 where
  pub limit : n ≡ turns
  pub undone : IsUndone ask read written
  pub sound : IsSound ask read
  pub bound : end.idles + 1 < 2 ^ 64 → begin.idles + n ≤ end.idles + length read + length written
  pub exchanged : Exchanged ask read reports
  pub faults : end.faults ≡ begin.faults
  pub ends : end.ends ≡ begin.ends

-- A header was refused, or the client didn't take an event; or memory ran out, and the reports are the first of what the
-- client tells.
pub record AtStop (ask : Ask) (begin end : Wire) (read : List ℕ) (reports : List Told) (result : ExchangeEnd)
    : Type 0 where
  pub stopped : IsStopped ask read reports result
  pub faults : end.faults ≡ begin.faults
  pub ends : end.ends ≡ begin.ends

abbrev pub HasCause : Ask → Patience → Wire → Wire → List ℕ → List ℕ → List Told → ExchangeEnd → Type 0
HasCause ask p begin end read written reports ends.Done = AtDone ask begin end read written reports
HasCause ask p begin end read written reports ends.EarlyEnd = AtEarlyEnd ask begin end read written reports
HasCause ask p begin end read written reports ends.LinkFault = AtFault ask begin end read written reports
HasCause ask p begin end read written reports (ends.IdleLimit n) = AtIdle ask n p.idle begin end read written reports
HasCause ask p begin end read written reports (ends.Spent n) = AtSpent ask n p.turns begin end read written reports
HasCause ask p begin end read written reports (ends.Frame fault) =
    AtStop ask begin end read reports (ends.Frame fault)
HasCause ask p begin end read written reports (ends.Client fault) =
    AtStop ask begin end read reports (ends.Client fault)
HasCause ask p begin end read written reports ends.NoMemory = AtStop ask begin end read reports ends.NoMemory

-- An exchange over a link: what was read of it and written to it, where it tells its bytes, and why it ended so. What was
-- written are the first bytes of what the client says to what was read.
pub record HasExchanged (ask : Ask) (p : Patience) (begin end : Wire) (reports : List Told) (result : ExchangeEnd)
    : Type 0 where
  pub read : List ℕ
  pub written : List ℕ
  pub moves : Moves begin end read written
  pub begins : IsPrefixOf written (said_to ask read)
  pub cause : HasCause ask p begin end read written reports result

-- What passed so far behind these calls of the link, since the last byte of which it was idle so often.
pub record Conversing (ask : Ask) (begin wire : Wire) (reports : List Told) (v : ClientView) (calls idles : ℕ)
    : Type 0 where
  pub read : List ℕ
  pub written : List ℕ
  pub moves : Moves begin wire read written
  pub taken : HasTaken ask read written reports v
  pub faults : wire.faults ≡ begin.faults
  pub ends : wire.ends ≡ begin.ends
  pub quota : wire.idles + 1 < 2 ^ 64 → begin.idles + calls ≤ wire.idles + length read + length written
  pub idle : RoseBy idles begin.idles wire.idles
