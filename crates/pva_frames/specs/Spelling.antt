-- How frames, messages and control messages are written.
use Rattle.std.specs.Prelude.{◌≡◌, ℕ, zero, suc, ◌+◌, Bool, List, [], ◌∷◌, ◌++◌, length, take, drop, nat_le, if◌then◌else◌}
use Rattle.pva_wire.specs.declared.order.Order.{Order}
use Rattle.pva_wire.specs.declared.order.Order.TheVariants.{Little, Big}
use Rattle.pva_frames.specs.Numbers.{number_bytes}
use Rattle.pva_frames.specs.Headers.{magic}

-- version 2 is written
abbrev pub version : ℕ
version = 2

abbrev pub order_flag : Order → ℕ
order_flag Little = 0
order_flag Big = 128

abbrev pub server_flag : Bool → ℕ
server_flag server = if server then 64 else 0

-- the eight bytes of a header, with bits 0, 4 and 5 of the flags as `kind`
abbrev pub header_bytes : Order → Bool → ℕ → ℕ → ℕ → List ℕ
header_bytes order server kind command number =
    (magic ∷ version ∷ (order_flag order + server_flag server + kind) ∷ command ∷ []) ++ number_bytes order number

-- the room for a header that is still to be written
abbrev pub header_room : List ℕ
header_room = 0 ∷ 0 ∷ 0 ∷ 0 ∷ 0 ∷ 0 ∷ 0 ∷ 0 ∷ []

-- a control message
abbrev pub control_bytes : Order → Bool → ℕ → ℕ → List ℕ
control_bytes order server command number = header_bytes order server 1 command number

-- a frame of an application message: kind 00 whole, 10 (hex) its first segment, 30 a middle one, 20 its last
abbrev pub frame_bytes : Order → Bool → ℕ → ℕ → List ℕ → List ℕ
frame_bytes order server kind command payload = header_bytes order server kind command (length payload) ++ payload

-- There are at most as many segments as bytes, which bounds the recursion.
unfoldable pub later_in : ℕ → Order → Bool → ℕ → ℕ → List ℕ → List ℕ
later_in zero order server command segment payload = frame_bytes order server 32 command payload
later_in (suc n) order server command segment payload =
    if nat_le (length payload) segment
    then frame_bytes order server 32 command payload
    else frame_bytes order server 48 command (take segment payload) ++ later_in n order server command segment (drop segment payload)

-- the segments behind the first: middle ones of the given size, and a last of at most that size
unfoldable pub later_segments : Order → Bool → ℕ → ℕ → List ℕ → List ℕ
later_segments order server command segment payload = later_in (length payload) order server command segment payload

-- one whole message, where the payload is no longer than a segment; else segments of the given size and a last that is
-- shorter or of that size, and never empty
abbrev pub message_bytes : Order → Bool → ℕ → List ℕ → ℕ → List ℕ
message_bytes order server command payload segment =
    if nat_le (length payload) segment
    then frame_bytes order server 0 command payload
    else frame_bytes order server 16 command (take segment payload) ++ later_segments order server command segment (drop segment payload)

-- what stood in a buffer still stands in front
abbrev pub Keeps : List ℕ → List ℕ → Type 0
Keeps old new = take (length old) new ≡ old
