-- The definitions on bytes whose meaning is known: the checker computes each.
use Rattle.std.proofs.Common.{◌≡◌, [], ◌∷◌, None, Some, Ok, Err, refl, true, false}
use Rattle.pva_wire.specs.declared.order.Order.TheVariants.{Little, Big}
use Rattle.pva_frames.specs.Headers.{header_of}
use Rattle.pva_frames.specs.Frames.{cut, cut_in}
use Rattle.pva_frames.specs.Messages.{left_from, events_of, standing_after}
use Rattle.pva_frames.specs.Assembled.{fed, opening}
use Rattle.pva_frames.specs.Spelling.{message_bytes, control_bytes, later_segments, later_in}
use Rattle.pva_frames.specs.declared.event.Event.TheVariants.{Message, Control}
use Rattle.pva_frames.specs.declared.fault.FrameFault.TheVariants.{BadMagic, TooLong, BadSegment}

segments : fed opening (202 ∷ 2 ∷ 0 ∷ 1 ∷ 19 ∷ 0 ∷ 0 ∷ 0 ∷ 0 ∷ 0 ∷ 1 ∷ 0 ∷ 0 ∷ 0 ∷ 0 ∷ 0 ∷ 9 ∷ 97 ∷ 110 ∷ 111 ∷ 110 ∷ 121 ∷ 109 ∷ 111 ∷ 117 ∷ 115 ∷ 255 ∷ 202 ∷ 2 ∷ 16 ∷ 7 ∷ 3 ∷ 0 ∷ 0 ∷ 0 ∷ 1 ∷ 0 ∷ 7 ∷ 202 ∷ 2 ∷ 1 ∷ 3 ∷ 42 ∷ 0 ∷ 0 ∷ 0 ∷ 202 ∷ 2 ∷ 48 ∷ 7 ∷ 3 ∷ 0 ∷ 0 ∷ 0 ∷ 0 ∷ 0 ∷ 0 ∷ 202 ∷ 2 ∷ 32 ∷ 7 ∷ 2 ∷ 0 ∷ 0 ∷ 0 ∷ 1 ∷ 88 ∷ []) ≡ record { events = Message (record { order = Little; command = 1; payload = (0 ∷ 0 ∷ 1 ∷ 0 ∷ 0 ∷ 0 ∷ 0 ∷ 0 ∷ 9 ∷ 97 ∷ 110 ∷ 111 ∷ 110 ∷ 121 ∷ 109 ∷ 111 ∷ 117 ∷ 115 ∷ 255 ∷ []); place = 0 }) ∷ Control 3 42 ∷ Message (record { order = Little; command = 7; payload = (1 ∷ 0 ∷ 7 ∷ 0 ∷ 0 ∷ 0 ∷ 1 ∷ 88 ∷ []); place = 27 }) ∷ []; left = Ok (record { place = 67; run = None; held = [] }) }
unfolding cut cut_in header_of events_of standing_after left_from
segments = refl

last_alone : fed opening (202 ∷ 2 ∷ 0 ∷ 1 ∷ 19 ∷ 0 ∷ 0 ∷ 0 ∷ 0 ∷ 0 ∷ 1 ∷ 0 ∷ 0 ∷ 0 ∷ 0 ∷ 0 ∷ 9 ∷ 97 ∷ 110 ∷ 111 ∷ 110 ∷ 121 ∷ 109 ∷ 111 ∷ 117 ∷ 115 ∷ 255 ∷ 202 ∷ 2 ∷ 32 ∷ 7 ∷ 2 ∷ 0 ∷ 0 ∷ 0 ∷ 1 ∷ 88 ∷ []) ≡ record { events = Message (record { order = Little; command = 1; payload = (0 ∷ 0 ∷ 1 ∷ 0 ∷ 0 ∷ 0 ∷ 0 ∷ 0 ∷ 9 ∷ 97 ∷ 110 ∷ 111 ∷ 110 ∷ 121 ∷ 109 ∷ 111 ∷ 117 ∷ 115 ∷ 255 ∷ []); place = 0 }) ∷ []; left = Err (BadSegment None 7 27) }
unfolding cut cut_in header_of events_of standing_after left_from
last_alone = refl

big : fed opening (202 ∷ 2 ∷ 0 ∷ 1 ∷ 19 ∷ 0 ∷ 0 ∷ 0 ∷ 0 ∷ 0 ∷ 1 ∷ 0 ∷ 0 ∷ 0 ∷ 0 ∷ 0 ∷ 9 ∷ 97 ∷ 110 ∷ 111 ∷ 110 ∷ 121 ∷ 109 ∷ 111 ∷ 117 ∷ 115 ∷ 255 ∷ 202 ∷ 2 ∷ 128 ∷ 7 ∷ 0 ∷ 0 ∷ 0 ∷ 8 ∷ 0 ∷ 1 ∷ 0 ∷ 0 ∷ 0 ∷ 7 ∷ 1 ∷ 88 ∷ []) ≡ record { events = Message (record { order = Little; command = 1; payload = (0 ∷ 0 ∷ 1 ∷ 0 ∷ 0 ∷ 0 ∷ 0 ∷ 0 ∷ 9 ∷ 97 ∷ 110 ∷ 111 ∷ 110 ∷ 121 ∷ 109 ∷ 111 ∷ 117 ∷ 115 ∷ 255 ∷ []); place = 0 }) ∷ Message (record { order = Big; command = 7; payload = (0 ∷ 1 ∷ 0 ∷ 0 ∷ 0 ∷ 7 ∷ 1 ∷ 88 ∷ []); place = 27 }) ∷ []; left = Ok (record { place = 43; run = None; held = [] }) }
unfolding cut cut_in header_of events_of standing_after left_from
big = refl

empty : fed opening [] ≡ record { events = []; left = Ok (record { place = 0; run = None; held = [] }) }
unfolding cut cut_in header_of events_of standing_after left_from
empty = refl

cut_short : fed opening (202 ∷ 2 ∷ 0 ∷ 1 ∷ 19 ∷ 0 ∷ 0 ∷ []) ≡ record { events = []; left = Ok (record { place = 0; run = None; held = (202 ∷ 2 ∷ 0 ∷ 1 ∷ 19 ∷ 0 ∷ 0 ∷ []) }) }
unfolding cut cut_in header_of events_of standing_after left_from
cut_short = refl

bad_magic : fed opening (203 ∷ []) ≡ record { events = []; left = Err (BadMagic 203 0) }
unfolding cut cut_in header_of events_of standing_after left_from
bad_magic = refl

too_long : fed opening (202 ∷ 2 ∷ 0 ∷ 2 ∷ 1 ∷ 0 ∷ 0 ∷ 4 ∷ []) ≡ record { events = []; left = Err (TooLong 67108865 0) }
unfolding cut cut_in header_of events_of standing_after left_from
too_long = refl

control : fed opening (202 ∷ 2 ∷ 65 ∷ 2 ∷ 0 ∷ 0 ∷ 0 ∷ 0 ∷ 202 ∷ 2 ∷ 64 ∷ 1 ∷ 2 ∷ 0 ∷ 0 ∷ 0 ∷ 1 ∷ 2 ∷ []) ≡ record { events = Control 2 0 ∷ Message (record { order = Little; command = 1; payload = (1 ∷ 2 ∷ []); place = 8 }) ∷ []; left = Ok (record { place = 18; run = None; held = [] }) }
unfolding cut cut_in header_of events_of standing_after left_from
control = refl

cut_in_run : fed opening (202 ∷ 2 ∷ 16 ∷ 7 ∷ 3 ∷ 0 ∷ 0 ∷ 0 ∷ 1 ∷ 0 ∷ 7 ∷ 202 ∷ 2 ∷ 1 ∷ 3 ∷ []) ≡ record { events = []; left = Ok (record { place = 11; run = (Some (record { order = Little; command = 7; payload = (1 ∷ 0 ∷ 7 ∷ []); place = 0 })); held = (202 ∷ 2 ∷ 1 ∷ 3 ∷ []) }) }
unfolding cut cut_in header_of events_of standing_after left_from
cut_in_run = refl

written : message_bytes Little true 2 (1 ∷ 2 ∷ 3 ∷ 4 ∷ 5 ∷ 6 ∷ 7 ∷ 8 ∷ []) 4 ≡ (202 ∷ 2 ∷ 80 ∷ 2 ∷ 4 ∷ 0 ∷ 0 ∷ 0 ∷ 1 ∷ 2 ∷ 3 ∷ 4 ∷ 202 ∷ 2 ∷ 96 ∷ 2 ∷ 4 ∷ 0 ∷ 0 ∷ 0 ∷ 5 ∷ 6 ∷ 7 ∷ 8 ∷ [])
unfolding later_segments later_in
written = refl

written_3 : message_bytes Big false 2 (1 ∷ 2 ∷ 3 ∷ 4 ∷ 5 ∷ 6 ∷ 7 ∷ 8 ∷ []) 3 ≡ (202 ∷ 2 ∷ 144 ∷ 2 ∷ 0 ∷ 0 ∷ 0 ∷ 3 ∷ 1 ∷ 2 ∷ 3 ∷ 202 ∷ 2 ∷ 176 ∷ 2 ∷ 0 ∷ 0 ∷ 0 ∷ 3 ∷ 4 ∷ 5 ∷ 6 ∷ 202 ∷ 2 ∷ 160 ∷ 2 ∷ 0 ∷ 0 ∷ 0 ∷ 2 ∷ 7 ∷ 8 ∷ [])
unfolding later_segments later_in
written_3 = refl

set_order : control_bytes Little true 2 0 ≡ (202 ∷ 2 ∷ 65 ∷ 2 ∷ 0 ∷ 0 ∷ 0 ∷ 0 ∷ [])
set_order = refl
