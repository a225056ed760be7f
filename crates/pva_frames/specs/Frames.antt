-- A list of bytes is a list of frames and a rest that is no whole frame.
use Rattle.std.specs.Prelude.{ℕ, zero, suc, ◌+◌, Bool, ◌&&◌, List, [], ◌∷◌, length, take, drop, slice_index, nat_le, ◌==◌, if◌then◌else◌}
use Rattle.pva_frames.specs.Headers.{magic, header_of, payload_size}
use Rattle.pva_frames.specs.declared.header.Header.{Header}

-- a frame: a header and its payload, and the place of its first byte in the stream
pub record Frame : Type 0 where
  pub place : ℕ
  pub bytes : List ℕ

abbrev pub header : Frame → Header
header frame = header_of frame.bytes

abbrev pub payload : Frame → List ℕ
payload frame = drop 8 frame.bytes

-- the size of the frame whose header stands in front
abbrev pub size_of : List ℕ → ℕ
size_of bytes = 8 + payload_size (header_of bytes)

-- a whole frame stands in front: its header, of eight bytes, and its payload
abbrev pub has_frame : List ℕ → Bool
has_frame bytes = (slice_index bytes 0 == magic) && nat_le (size_of bytes) (length bytes)

-- the frame that stands in front
abbrev pub front : ℕ → List ℕ → Frame
front at bytes = record { place = at; bytes = take (size_of bytes) bytes }

-- the frames, the place behind them, and the rest
pub record Cut : Type 0 where
  pub frames : List Frame
  pub place : ℕ
  pub held : List ℕ

-- one more frame before those
abbrev pub with_frame : Frame → Cut → Cut
with_frame frame cut = record { frames = frame ∷ cut.frames; place = cut.place; held = cut.held }

-- no frame
abbrev pub uncut : ℕ → List ℕ → Cut
uncut at bytes = record { frames = []; place = at; held = bytes }

-- The first byte stands at this place of the stream. There are at most as many frames as bytes, which bounds the
-- recursion.
unfoldable pub cut_in : ℕ → ℕ → List ℕ → Cut
cut_in zero at bytes = uncut at bytes
cut_in (suc n) at bytes =
    if has_frame bytes
    then with_frame (front at bytes) (cut_in n (at + size_of bytes) (drop (size_of bytes) bytes))
    else uncut at bytes

-- the frames of bytes that begin at this place
unfoldable pub cut : ℕ → List ℕ → Cut
cut at bytes = cut_in (length bytes) at bytes

abbrev pub frames_from : ℕ → List ℕ → List Frame
frames_from at bytes = (cut at bytes).frames

-- where the unfinished frame begins, or would begin
abbrev pub place_from : ℕ → List ℕ → ℕ
place_from at bytes = (cut at bytes).place

-- its bytes
abbrev pub held_from : ℕ → List ℕ → List ℕ
held_from at bytes = (cut at bytes).held
