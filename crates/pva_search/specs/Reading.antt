-- Reading a datagram from left to right.
use Rattle.std.specs.Prelude.{ℕ, zero, suc, ◌+◌, Bool, true, false, not, ◌&&◌, ◌==◌, nat_le, nat_lt, if◌then◌else◌, List, [], ◌∷◌, length, take, drop, slice_index, Option, Some, None, Ok, Err}
use Rattle.pva_wire.specs.declared.order.Order.{Order}
use Rattle.pva_wire.specs.declared.fault.Cause.TheVariants.{Short, Range}
use Rattle.pva_wire.specs.Reading.{Read, ◌>>=◌, number_at, count_at, text_at}
use Rattle.pva_frames.specs.declared.header.Header.{Header}
use Rattle.pva_frames.specs.declared.header.Segment.{Segment}
use Rattle.pva_frames.specs.declared.header.Segment.TheVariants.{Single}
use Rattle.pva_frames.specs.Headers.{magic, header_of, is_control, segment_of}
use Rattle.pva_search.specs.declared.search.Head.{Head}
use Rattle.pva_search.specs.Messages.{Search, Response, search_command, response_command}

abbrev pub is_single : Segment → Bool
is_single Single = true
is_single segment = false

-- the header in front of a datagram
abbrev pub header_in : List ℕ → Header
header_in datagram = header_of (take 8 datagram)

-- whether a datagram begins with a header
abbrev pub has_header : List ℕ → Bool
has_header datagram = nat_le 8 (length datagram) && (slice_index (take 8 datagram) 0 == magic)

-- The header is that of one whole application message of this command, which takes so many bytes.
abbrev pub is_whole : ℕ → ℕ → Header → Bool
is_whole command size header =
    not (is_control header) && is_single (segment_of header) && (header.command == command)
    && (8 + header.number == size)

-- The datagram is one whole application message of this command, and nothing follows it.
abbrev pub is_message : ℕ → List ℕ → Bool
is_message command datagram = has_header datagram && is_whole command (length datagram) (header_in datagram)

-- the order of the message that the datagram is, and its payload
abbrev pub message_in : ℕ → List ℕ → Option (Order × List ℕ)
message_in command datagram =
    if is_message command datagram then Some ((header_in datagram).order, drop 8 datagram) else None

-- so many bytes
unfoldable pub bytes_at : ℕ → List ℕ → Read (List ℕ)
bytes_at n bytes = if nat_lt (length bytes) n then Err (Short, length bytes) else Ok (take n bytes, drop n bytes)

-- items one after another
unfoldable pub each_at : {A : Type 0} → (List ℕ → Read A) → ℕ → List ℕ → Read (List A)
each_at item zero bytes = Ok ([], bytes)
each_at item (suc n) bytes = item bytes >>= λ x. each_at item n x.1 >>= λ xs. Ok (x.0 ∷ xs.0, xs.1)

-- a size that counts, and so many texts
unfoldable pub texts_at : Order → List ℕ → Read (List (List ℕ))
texts_at order bytes = count_at order bytes >>= λ n. each_at (text_at order) n.0 n.1

-- the number of a channel, and its name
unfoldable pub channel_at : Order → List ℕ → Read (ℕ × List ℕ)
channel_at order bytes =
    number_at order 4 bytes >>= λ instance. text_at order instance.1 >>= λ name. Ok ((instance.0, name.0), name.1)

-- a 16-bit count, and so many channels
unfoldable pub channels_at : Order → List ℕ → Read (List (ℕ × List ℕ))
channels_at order bytes = number_at order 2 bytes >>= λ n. each_at (channel_at order) n.0 n.1

-- a 16-bit count, and so many numbers
unfoldable pub instances_at : Order → List ℕ → Read (List ℕ)
instances_at order bytes = number_at order 2 bytes >>= λ n. each_at (number_at order 4) n.0 n.1

-- a boolean is 0 or 1
abbrev pub flag_of : ℕ → ℕ → List ℕ → Read Bool
flag_of left n rest = if n == 0 then Ok (false, rest) else if n == 1 then Ok (true, rest) else Err (Range, left)

unfoldable pub flag_at : Order → List ℕ → Read Bool
flag_at order bytes = number_at order 1 bytes >>= λ n. flag_of (length bytes) n.0 n.1

-- the items of a search before its protocols; three bytes mean nothing
unfoldable pub head_at : Order → List ℕ → Read Head
head_at order payload = do
  sequence ← number_at order 4 payload
  flags ← number_at order 1 sequence.1
  unused ← bytes_at 3 flags.1
  address ← bytes_at 16 unused.1
  port ← number_at order 2 address.1
  Ok (record { sequence = sequence.0; flags = flags.0; address = address.0; port = port.0 }, port.1)

-- the items of a search one after another; what follows them is passed over
unfoldable pub search_at : Order → List ℕ → Read Search
search_at order payload = do
  head ← head_at order payload
  protocols ← texts_at order head.1
  channels ← channels_at order protocols.1
  Ok (record { head = head.0; protocols = protocols.0; channels = channels.0 }, channels.1)

-- the items of a response one after another; what follows them is passed over
unfoldable pub response_at : Order → List ℕ → Read Response
response_at order payload = do
  guid ← bytes_at 12 payload
  sequence ← number_at order 4 guid.1
  address ← bytes_at 16 sequence.1
  port ← number_at order 2 address.1
  protocol ← text_at order port.1
  found ← flag_at order protocol.1
  instances ← instances_at order found.1
  Ok (
    record {
      guid = guid.0;
      sequence = sequence.0;
      address = address.0;
      port = port.0;
      protocol = protocol.0;
      found = found.0;
      instances = instances.0;
    },
    instances.1,
  )

-- what was read, with the order that it was read in
abbrev pub in_order : {A : Type 0} → Order → Read A → Option (Order × A)
in_order order (Ok x) = Some (order, x.0)
in_order order (Err e) = None

abbrev pub read_by : {A : Type 0} → (Order → List ℕ → Read A) → Option (Order × List ℕ) → Option (Order × A)
read_by read None = None
read_by read (Some message) = in_order message.0 (read message.0 message.1)

-- the search that a datagram is
abbrev pub search_in : List ℕ → Option (Order × Search)
search_in datagram = read_by search_at (message_in search_command datagram)

-- the response that a datagram is
abbrev pub response_in : List ℕ → Option (Order × Response)
response_in datagram = read_by response_at (message_in response_command datagram)
