-- The header of a frame: eight bytes (pvAccess Protocol Specification, "Message Header").
use Rattle.std.specs.Prelude.{◌≡◌, ◌≤◌, ℕ, Bool, false, List, length, drop, slice_index, bit_and, ◌==◌, if◌then◌else◌}
use Rattle.pva_wire.specs.declared.order.Order.{Order}
use Rattle.pva_wire.specs.declared.order.Order.TheVariants.{Little, Big}
use Rattle.pva_frames.specs.Numbers.{number_of}
use Rattle.pva_frames.specs.declared.header.Header.{Header}
use Rattle.pva_frames.specs.declared.header.Segment.{Segment}
use Rattle.pva_frames.specs.declared.header.Segment.TheVariants.{Single, First, Middle, Last}

-- the first byte of each header, CA
abbrev pub magic : ℕ
magic = 202

-- bit 7 of the flags: the order of the numbers in the header and in what follows it
abbrev pub order_of : ℕ → Order
order_of flags = if bit_and flags 128 == 0 then Little else Big

-- bit 0 of the flags: a control message, whose number is a datum and which has no payload
abbrev pub is_control : Header → Bool
is_control header = bit_and header.flags 1 == 1

-- bits 4 and 5 of the flags: whether an application message comes whole, or which of its segments this is
abbrev pub segment_of : Header → Segment
segment_of header =
    if bit_and header.flags 48 == 0 then Single
    else if bit_and header.flags 48 == 16 then First
    else if bit_and header.flags 48 == 48 then Middle
    else Last

-- what the eight bytes of a header say: CA, a version that is not looked at, flags, command and number
unfoldable pub header_of : List ℕ → Header
header_of bytes = record {
  order = order_of (slice_index bytes 2);
  flags = slice_index bytes 2;
  command = slice_index bytes 3;
  number = number_of (order_of (slice_index bytes 2)) (drop 4 bytes);
}

-- how many bytes of payload follow a header
abbrev pub payload_size : Header → ℕ
payload_size header = if is_control header then 0 else header.number

-- The bytes begin with the header of an application message that comes whole, in one frame.
pub record IsSingle (bytes : List ℕ) (header : Header) : Type 0 where
  pub long : 8 ≤ length bytes
  pub first : slice_index bytes 0 ≡ magic
  pub is : header ≡ header_of bytes
  pub application : is_control header ≡ false
  pub single : segment_of header ≡ Single
