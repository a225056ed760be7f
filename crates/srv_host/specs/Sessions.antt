-- The sessions of a host: each is one connection, served on a seat of its own.
use Rattle.std.specs.Prelude.{◌≡◌, ℕ, ◌^◌, List, [], map, false, Option, None}
use Rattle.journal_core.specs.Moments.{Moment}
use Rattle.pva_outside.specs.Wire.{Wire, Steadily, Unchanged}
use Rattle.pva_wire.specs.declared.order.Order.{Order}
use Rattle.desk_api.specs.History.{History}
use Rattle.desk_api.specs.declared.mark.Mark.{Mark}
use Rattle.desk_api.specs.declared.mark.Seat.{Seat}
use Rattle.srv_stream.specs.Served.{Served}
use Rattle.srv_stream.specs.declared.ended.Ended.{Ended}

-- One session: the number of its seat, the marks of its calls, and the history that it has seen at its end; its link as
-- it came, as its serving left it, and as it then was closed; and why it ended.
pub record Session : Type 0 where
  pub number : ℕ
  pub log : List Mark
  pub seen : History
  pub start : Wire
  pub end : Wire
  pub closed : Wire
  pub ended : Ended

-- its seat as it began: it had seen this history, and had done nothing
abbrev pub first_seat_of : History → Session → Seat
first_seat_of from session = record { number = session.number; seen = from; log = [] }

-- and as it ended
abbrev pub last_seat_of : Session → Seat
last_seat_of session = record { number = session.number; seen = session.seen; log = session.log }

-- the most calls of its link's read and write
abbrev pub most_calls : ℕ
most_calls = 2 ^ 62

-- It was served in this byte order, from this history on, under a clock that tells this (`Served`). A steady link
-- stayed so. Then its link was closed.
pub record WasServed (from : History) (told : Option Moment) (order : Order) (session : Session) : Type 0 where
  pub served : Served (first_seat_of from session) (last_seat_of session) session.start session.end told order
      most_calls session.ended
  pub steady : Steadily session.start session.end
  pub closes : Unchanged session.end session.closed

-- of no link
abbrev pub no_wire : Wire
no_wire = record { left = None; written = None; faults = 0; idles = 0; ends = 0; steady = false }

-- the log of each, with the number of its seat
abbrev pub logs_of : List Session → List (ℕ × List Mark)
logs_of sessions = map (λ session. (session.number, session.log)) sessions

-- the link of each, as it came
abbrev pub starts_of : List Session → List Wire
starts_of sessions = map (λ session. session.start) sessions

-- the bytes that the link of each tells to be written, as it was closed
abbrev pub written_of : List Session → List (Option (List ℕ))
written_of sessions = map (λ session. session.closed.written) sessions
