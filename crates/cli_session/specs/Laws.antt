-- What a server reads of the bytes that a client has sent.
use Rattle.std.specs.Prelude.{◌≡◌, ℕ, ◌+◌, ◌<◌, ◌≤◌, ◌^◌, List, [], ◌∷◌, length, drop, None, Some, Ok}
use Rattle.pva_wire.specs.declared.order.Order.{Order}
use Rattle.pva_frames.specs.Laws.{stream, boundary}
use Rattle.pva_frames.specs.Messages.{limit}
use Rattle.pva_frames.specs.declared.event.Event.{Event}
use Rattle.pva_frames.specs.declared.event.Event.TheVariants.{Message, Control}
use Rattle.pvd_codec.specs.Reading.{part_at}
use Rattle.pvd_codec.specs.Written.{CanEach}
use Rattle.pvd_desc.specs.Types.{Types}
use Rattle.pva_messages.specs.Fields.{PartData}
use Rattle.pva_messages.specs.Laws.{IsWritable, request_payload, received, request_part, left_over}
use Rattle.pva_messages.specs.Reading.{request_at}
use Rattle.pva_messages.specs.Requests.{Request, request_command, part_place}
use Rattle.pva_messages.specs.Written.{seen_part}
use Rattle.cli_session.specs.Messages.{Sent, said, control, Written, spelled, written_bytes}

-- What can be sent: a message that says what its row has, with values that fit their types, all of which have a
-- spelling; a control message with a number of 32 bits.
abbrev pub CanSent : ℕ → Sent → Type 0
CanSent segment (said m) = (0 < segment) × IsWritable m
CanSent segment (control command number) = number < 2 ^ 32

abbrev pub CanWrite : Written → Type 0
CanWrite w = CanSent w.segment w.sent

-- its payload is no longer than a payload may be
abbrev pub IsShort : Written → Type 0
IsShort w = (m : Request) → w.sent ≡ said m → length (request_payload w.order m) ≤ limit

-- the event that it is to a server, where it stands at this place
abbrev pub event_at : ℕ → Order → Sent → Event
event_at at order (said m) =
    Message (record { order = order; command = request_command m; payload = request_payload order m; place = at })
event_at at order (control command number) = Control command number

abbrev pub events_at : ℕ → List Written → List Event
events_at at [] = []
events_at at (w ∷ ws) =
    event_at at w.order w.sent ∷ events_at (at + length (spelled w.order w.segment w.sent)) ws

-- The reader of a server makes of it the message that was said, and knows the same types as before. It leaves the part of
-- a put unread, which is then read under the type that the client gave it, with blank leaves where it marks none.
abbrev pub IsHeardAs : Order → Request → Type 0
IsHeardAs order m =
    (types : Types)
    → (request_at order None (request_command m) (request_payload order m, types)
    ≡ Ok (received m, (left_over order (request_part m), types)))
    × ((p : PartData) → request_part m ≡ Some p
    → part_at order p.ty (drop part_place (request_payload order m), types)
    ≡ Ok ((p.mask, (seen_part p).value), ([], types)))

abbrev pub IsHeard : Written → Type 0
IsHeard w = (m : Request) → w.sent ≡ said m → IsHeardAs w.order m

-- The bytes of what was sent are, to a server, these messages one after another, and nothing more, and it reads each as
-- what was said.
pub record Heard (sent : List Written) : Type 0 where
  pub events :
      stream (written_bytes sent)
      ≡ record { events = events_at 0 sent; left = Ok (boundary (length (written_bytes sent))) }
  pub messages : CanEach IsHeard sent

abbrev pub SentIsHeard : Type 0
SentIsHeard = (sent : List Written) → CanEach CanWrite sent → CanEach IsShort sent → Heard sent
