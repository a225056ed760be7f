-- What is known of a link over a reader and a writer.
use Rattle.std.specs.Prelude.{List, ℕ, Bool, false, Option}
use Rattle.pva_outside.specs.Wire.{Wire}
use Rattle.pva_outside.specs.declared.streams.StreamLink.{StreamLink}

-- The link tells the bytes that its reader and its writer tell: those of the system tell none.
abbrev pub stream_wire : {R W : Type 0} → (R → Option (List ℕ)) → (W → Option (List ℕ)) → StreamLink R W → Wire
stream_wire remaining contents l = record { left = remaining l.reader; written = contents l.writer; faults = l.faults; idles = l.idles; ends = l.ends; steady = false }

-- over a reader and a writer that tell this, with counts of 0
abbrev pub stream_start : Option (List ℕ) → Option (List ℕ) → Wire
stream_start left written = record { left = left; written = written; faults = 0; idles = 0; ends = 0; steady = false }

-- the link was closed
abbrev pub is_closed : {R W : Type 0} → StreamLink R W → Bool
is_closed l = l.closed
