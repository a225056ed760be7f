-- What one round of an exchange does.
use Rattle.std.specs.Prelude.{◌≡◌, ◌⊎◌, ℕ, ◌+◌, ◌*◌, ◌<◌, ◌≤◌, Bool, true, false, List, [], ◌++◌, length, Option, None, Result, Ok, Err}
use Rattle.desk_api.specs.declared.mark.Seat.{Seat}
use Rattle.histories.specs.History.{IsPrefixOf}
use Rattle.journal_core.specs.Moments.{Moment}
use Rattle.srv_stream.specs.Streams as streams
use Rattle.srv_stream.specs.declared.ended.Ended.{Ended}
use Rattle.cli_session.specs.declared.ask.Ask.{Ask}
use Rattle.cli_within.specs.Ends.{ClientView, HasTaken, HasPrinted, HasStopped, Begins, client_view, text_for}
use Rattle.cli_within.specs.Serving.{DryIf, HasBroken, HasServed, served_view, over_of}
use Rattle.cli_within.specs.declared.client_end.ClientEnd.{ClientEnd}
use Rattle.cli_within.specs.declared.server_end.ServerEnd.{ServerEnd}
use Rattle.cli_within.specs.declared.stop.Stop.{Stop}
use Rattle.cli_within.specs.declared.stop.Stop.TheVariants as stops

-- What stands still in an exchange: the operation, the desk's seat before it, the moment that the clock tells, what was
-- printed before and how often printing had failed.
pub record Frame : Type 0 where
  pub ask : Ask
  pub first : Seat
  pub told : Option Moment
  pub start : Option (List ℕ)
  pub before : ℕ

-- What moves in it: the two ends, the desk's seat, what was printed and how often printing failed.
pub record Sides : Type 0 where
  pub client : ClientView
  pub view : streams.View
  pub over : Option Ended
  pub seat : Seat
  pub printed : Option (List ℕ)
  pub faults : ℕ

abbrev pub sides : ClientEnd → ServerEnd → Seat → Option (List ℕ) → ℕ → Sides
sides client server seat printed faults = record {
  client = client_view client;
  view = served_view server;
  over = over_of server;
  seat = seat;
  printed = printed;
  faults = faults;
}

-- The client has given these bytes and taken these, and so has the server, and all that was told is printed.
pub record HasPassed (f : Frame) (given taken : List ℕ) (x : Sides) : Type 0 where
  pub client : HasTaken f.ask taken given x.client
  pub printed : HasPrinted f.start x.printed f.before x.faults (text_for f.ask taken)
  pub server : HasServed f.first x.seat f.told given taken x.view x.over

-- After so many rounds, each of which moved at least one byte, and of either end at most a piece.
pub record HasMade (f : Frame) (piece made : ℕ) (x : Sides) : Type 0 where
  pub given : List ℕ
  pub taken : List ℕ
  pub passed : HasPassed f given taken x
  pub moved : made ≤ length given + length taken
  pub few : (length given ≤ made * piece) × (length taken ≤ made * piece)

-- The server has no byte, and behind its last pop nothing is unread, unless its end is closed.
pub record IsSilent (f : Frame) (given taken : List ℕ) (x : Sides) : Type 0 where
  pub passed : HasPassed f given taken x
  pub empty : x.view.pending ≡ []
  pub dry : DryIf f.first x.seat f.told given taken x.view x.over

-- the client has none, unless the server's end is closed
abbrev pub IsMute : Sides → Type 0
IsMute x = x.over ≡ None → x.client.client.output ≡ []

-- The client gave the server some bytes, at most a piece; or it had none to give; or the server's memory ran out.

pub record HasGiven (f : Frame) (piece : ℕ) (given taken : List ℕ) (x : Sides) : Type 0 where
  pub bytes : List ℕ
  pub some : 0 < length bytes
  pub few : length bytes ≤ piece
  pub passed : HasPassed f (given ++ bytes) taken x

pub record HasBrokenOff (f : Frame) (piece : ℕ) (given taken : List ℕ) (x : Sides) : Type 0 where
  pub bytes : List ℕ
  pub few : length bytes ≤ piece
  pub printed : HasPrinted f.start x.printed f.before x.faults (text_for f.ask taken)
  pub begins : Begins f.ask taken (given ++ bytes)
  pub broken : HasBroken f.first x.seat f.told (given ++ bytes) taken x.view

abbrev pub Gives : Frame → ℕ → List ℕ → List ℕ → Sides → Result Bool Stop → Type 0
Gives f piece given taken x (Ok true) = HasGiven f piece given taken x
Gives f piece given taken x (Ok false) = HasPassed f given taken x × IsMute x
Gives f piece given taken x (Err stops.NoMemory) = HasBrokenOff f piece given taken x
Gives f piece given taken x (Err stop) = ⊥

-- What is left of the server where an end couldn't go on: its steps tell all, and the client took a front of what it said;
-- only where memory ran out it may have broken off.

pub record HasSaid (f : Frame) (given taken : List ℕ) (x : Sides) : Type 0 where
  pub said : List ℕ
  pub served : HasServed f.first x.seat f.told given said x.view x.over
  pub front : IsPrefixOf taken (said ++ x.view.pending)

abbrev pub IsLeft : Frame → List ℕ → List ℕ → Sides → Stop → Type 0
IsLeft f given taken x stops.NoMemory = HasSaid f given taken x ⊎ HasBroken f.first x.seat f.told given taken x.view
IsLeft f given taken x stop = HasSaid f given taken x

-- An end couldn't go on behind these bytes.
pub record HasStuck (f : Frame) (given taken : List ℕ) (x : Sides) (stop : Stop) : Type 0 where
  pub stopped : HasStopped f.ask taken f.start x.printed f.before x.faults stop
  pub begins : Begins f.ask taken given
  pub left : IsLeft f given taken x stop

-- The server gave the client some bytes, at most a piece; or it had none to give; or an end couldn't go on.

pub record HasAnswered (f : Frame) (piece : ℕ) (given taken : List ℕ) (x : Sides) : Type 0 where
  pub bytes : List ℕ
  pub some : 0 < length bytes
  pub few : length bytes ≤ piece
  pub passed : HasPassed f given (taken ++ bytes) x

pub record HasStuckIn (f : Frame) (piece : ℕ) (given taken : List ℕ) (x : Sides) (stop : Stop) : Type 0 where
  pub bytes : List ℕ
  pub few : length bytes ≤ piece
  pub stuck : HasStuck f given (taken ++ bytes) x stop

abbrev pub Answers : Frame → ℕ → List ℕ → List ℕ → Sides → Result Bool Stop → Type 0
Answers f piece given taken x (Ok true) = HasAnswered f piece given taken x
Answers f piece given taken x (Ok false) = IsSilent f given taken x
Answers f piece given taken x (Err stop) = HasStuckIn f piece given taken x stop

-- A round behind so many: a byte passed; or neither end has one; or an end couldn't go on.

pub record IsAtRest (f : Frame) (piece made : ℕ) (x : Sides) : Type 0 where
  pub made_so : HasMade f piece made x
  pub silent : IsSilent f made_so.given made_so.taken x
  pub mute : IsMute x

pub record HasStuckBehind (f : Frame) (piece made : ℕ) (x : Sides) (stop : Stop) : Type 0 where
  pub given : List ℕ
  pub taken : List ℕ
  pub few : (length given ≤ (made + 1) * piece) × (length taken ≤ (made + 1) * piece)
  pub stuck : HasStuck f given taken x stop

abbrev pub Passes : Frame → ℕ → ℕ → Sides → Result Bool Stop → Type 0
Passes f piece made x (Ok true) = HasMade f piece (made + 1) x
Passes f piece made x (Ok false) = IsAtRest f piece made x
Passes f piece made x (Err stop) = HasStuckBehind f piece made x stop
