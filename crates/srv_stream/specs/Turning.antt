-- One turn of a connection: which call of the link is due, and what it came to.
use Rattle.std.specs.Prelude.{◌≡◌, ℕ, ◌<◌, ◌≤◌, ◌⊎◌, Bool, true, false, List, [], length, take, drop, Option, None, Some, Result, Ok, Err}
use Rattle.pva_outside.specs.Wire.{Wire, Gave, Taken, CameToEnd, Idled, Failed, Unchanged}
use Rattle.pva_frames.specs.Assembled.{rest_of}
use Rattle.desk_api.specs.declared.mark.Seat.{Seat}
use Rattle.journal_core.specs.Moments.{Moment}
use Rattle.srv_stream.specs.Streams.{View, FedOn, FedUpTo, FedPart}
use Rattle.srv_stream.specs.declared.ended.Ended.{Ended}
use Rattle.srv_stream.specs.declared.ended.Ended.TheVariants as ends
use Rattle.srv_stream.specs.declared.serve.Due.{Due}
use Rattle.srv_stream.specs.declared.serve.Due.TheVariants as dues

-- whether the monitors are still to be popped before a connection ends so, or goes on: not behind a fault of the stream
abbrev pub may_pump : Option Ended → Bool
may_pump None = true
may_pump (Some (ends.Bad fault place)) = false
may_pump (Some ended) = true

-- All is written, and the connection ends so. `pumped` says that the monitors were popped until nothing was unread.
pub record EndIsDue (pending : List ℕ) (over : Option Ended) (pumped : Bool) (ended : Ended) : Type 0 where
  pub written : pending ≡ []
  pub over_is : over ≡ Some ended
  pub pumped_out : may_pump over ≡ true → pumped ≡ true

-- All is written, and something may be unread.
pub record PumpIsDue (pending : List ℕ) (over : Option Ended) (pumped : Bool) : Type 0 where
  pub written : pending ≡ []
  pub may : may_pump over ≡ true
  pub pumped_is : pumped ≡ false

-- All is written, nothing is unread that may be sent, and nothing ends the connection yet.
pub record IsOpen (pending : List ℕ) (over : Option Ended) (pumped : Bool) : Type 0 where
  pub written : pending ≡ []
  pub over_is : over ≡ None
  pub pumped_is : pumped ≡ true

-- What is due behind so many calls of the most that may be made, where this is to be written.
abbrev pub IsDue : List ℕ → Option Ended → Bool → ℕ → ℕ → Due → Type 0
IsDue pending over pumped calls turns dues.Write = (0 < length pending) × (calls < turns)
IsDue pending over pumped calls turns dues.Pump = PumpIsDue pending over pumped
IsDue pending over pumped calls turns dues.Read = IsOpen pending over pumped × (calls < turns)
IsDue pending over pumped calls turns (dues.End ended) = EndIsDue pending over pumped ended
IsDue pending over pumped calls turns dues.Spent = (turns ≤ calls) × ((0 < length pending) ⊎ IsOpen pending over pumped)

-- A write.

-- the first bytes of what was pending were taken
pub record Wrote (start end : Wire) (v w : View) : Type 0 where
  pub count : ℕ
  pub taken : Taken start end count v.pending
  pub view : w ≡ record v { pending = drop count v.pending }

-- nothing was taken yet
pub record WroteNothing (start end : Wire) (v w : View) : Type 0 where
  pub idled : Idled start end
  pub view : w ≡ v

-- it failed, or memory ran out, and nothing was taken

pub record WriteFailed (start end : Wire) (v w : View) : Type 0 where
  pub failed : Failed start end
  pub view : w ≡ v

pub record WriteWithout (start end : Wire) (v w : View) : Type 0 where
  pub unchanged : Unchanged start end
  pub view : w ≡ v

abbrev pub WritesSome : Wire → Wire → View → View → Result (Unit {0}) Ended → Type 0
WritesSome start end v w (Ok u) = Wrote start end v w ⊎ WroteNothing start end v w
WritesSome start end v w (Err ends.WriteFault) = WriteFailed start end v w
WritesSome start end v w (Err ends.NoMemory) = WriteWithout start end v w
WritesSome start end v w (Err other) = ⊥

-- A read.

-- a piece of at most 4,096 bytes came
pub record Piece (start end : Wire) : Type 0 where
  pub count : ℕ
  pub buffer : List ℕ
  pub gave : Gave start end count buffer
  pub small : length buffer ≤ 4096

abbrev pub piece_bytes : {start end : Wire} → Piece start end → List ℕ
piece_bytes p = take p.count p.buffer

-- the session and its desk are as before
pub record Untouched (old new : Seat) (v w : View) : Type 0 where
  pub seat : new ≡ old
  pub view : w ≡ v

-- all events of the piece were answered
pub record ReadOn (old new : Seat) (start end : Wire) (told : Option Moment) (v w : View) : Type 0 where
  pub piece : Piece start end
  pub fed : FedOn old new told v w (piece_bytes piece)

-- nothing came yet
pub record ReadNothing (old new : Seat) (start end : Wire) (v w : View) : Type 0 where
  pub idled : Idled start end
  pub untouched : Untouched old new v w

-- the end came, and the stream was left inside of this
pub record ReadEnd (old new : Seat) (start end : Wire) (v w : View) (rest : Option ℕ) : Type 0 where
  pub came : CameToEnd start end
  pub untouched : Untouched old new v w
  pub rest_is : rest_of v.stream.left ≡ rest

-- something in the piece ends the connection so
pub record ReadUpTo (old new : Seat) (start end : Wire) (told : Option Moment) (v w : View)
    (ended : Ended) : Type 0 where
  pub piece : Piece start end
  pub fed : FedUpTo old new told v w (piece_bytes piece) ended

-- the read failed
pub record ReadFailed (old new : Seat) (start end : Wire) (v w : View) : Type 0 where
  pub failed : Failed start end
  pub untouched : Untouched old new v w

-- memory ran out in the read, or while the piece was answered

pub record ReadWithout (old new : Seat) (start end : Wire) (v w : View) : Type 0 where
  pub unchanged : Unchanged start end
  pub untouched : Untouched old new v w

pub record ReadPart (old new : Seat) (start end : Wire) (told : Option Moment) (v w : View) : Type 0 where
  pub piece : Piece start end
  pub fed : FedPart old new told v w (piece_bytes piece)

-- By its answer: none, how the connection ends once all is written, or how it ends at once.
abbrev pub ReadsSome : Seat → Seat → Wire → Wire → Option Moment → View → View → Result (Option Ended) Ended → Type 0
ReadsSome old new start end told v w (Ok None) = ReadOn old new start end told v w ⊎ ReadNothing old new start end v w
ReadsSome old new start end told v w (Ok (Some ends.Closed)) = ReadEnd old new start end v w None
ReadsSome old new start end told v w (Ok (Some (ends.Truncated place))) = ReadEnd old new start end v w (Some place)
ReadsSome old new start end told v w (Ok (Some ended)) = ReadUpTo old new start end told v w ended
ReadsSome old new start end told v w (Err ends.ReadFault) = ReadFailed old new start end v w
ReadsSome old new start end told v w (Err ends.NoMemory) =
    ReadWithout old new start end v w ⊎ ReadPart old new start end told v w
ReadsSome old new start end told v w (Err other) = ⊥

-- how a stream ends that was left inside of this
abbrev pub ended_inside : Option ℕ → Ended
ended_inside None = ends.Closed
ended_inside (Some place) = ends.Truncated place

-- want of memory ends a connection at once, and all else once all is written
abbrev pub over_by : Result (Unit {0}) Ended → Result (Option Ended) Ended
over_by (Ok u) = Ok None
over_by (Err ends.NoMemory) = Err ends.NoMemory
over_by (Err ended) = Ok (Some ended)
