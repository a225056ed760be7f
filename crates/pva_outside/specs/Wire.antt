-- What is known of a link, and what its calls do to it.
-- A link carries the two streams of bytes of one connection (pvAccess Protocol Specification, "Connection Management").
use Rattle.std.specs.Prelude.{◌≡◌, ℕ, ◌<◌, ◌≤◌, List, length, take, Option, Bool, true}
use Rattle.std.specs.Io.KnownBytes.{Keeps, Appends, Consumes, IsAtEnd}
use Rattle.pva_outside.specs.Count.{Rose}
use Rattle.pva_outside.specs.declared.link.ReadStep.{ReadStep}
use Rattle.pva_outside.specs.declared.link.ReadStep.TheVariants as reads
use Rattle.pva_outside.specs.declared.link.WriteStep.{WriteStep}
use Rattle.pva_outside.specs.declared.link.WriteStep.TheVariants as writes

-- The bytes left and the bytes written, where the link tells them (None: not told), its counts, and whether it is steady.
pub record Wire : Type 0 where
  pub left : Option (List ℕ)
  pub written : Option (List ℕ)
  pub faults : ℕ
  pub idles : ℕ
  pub ends : ℕ
  pub steady : Bool

-- A steady link stays so, and neither its faults nor its idles rise.
pub record StaysSteady (old new : Wire) : Type 0 where
  pub steady : new.steady ≡ true
  pub faults : new.faults ≡ old.faults
  pub idles : new.idles ≡ old.idles

-- Each call of a steady link is such a step.
abbrev pub Steadily : Wire → Wire → Type 0
Steadily old new = old.steady ≡ true → StaysSteady old new

-- No byte moved.
pub record Rests (old new : Wire) : Type 0 where
  pub left : Keeps old.left new.left
  pub written : Keeps old.written new.written

-- The counts are as they were.
pub record SameCounts (old new : Wire) : Type 0 where
  pub faults : new.faults ≡ old.faults
  pub idles : new.idles ≡ old.idles
  pub ends : new.ends ≡ old.ends

-- n bytes came, the first of those left, and stand at the front of the buffer.
pub record Gave (old new : Wire) (n : ℕ) (buffer : List ℕ) : Type 0 where
  pub some : 0 < n
  pub fits : n ≤ length buffer
  pub taken : Consumes old.left new.left (take n buffer)
  pub written : Keeps old.written new.written
  pub counts : SameCounts old new

-- The input ended, which a link that tells its bytes says only where none is left.
pub record CameToEnd (old new : Wire) : Type 0 where
  pub rests : Rests old new
  pub at_end : IsAtEnd old.left
  pub ends : Rose old.ends new.ends
  pub faults : new.faults ≡ old.faults
  pub idles : new.idles ≡ old.idles

-- No byte moved, and the idles rose.
pub record Idled (old new : Wire) : Type 0 where
  pub rests : Rests old new
  pub idles : Rose old.idles new.idles
  pub faults : new.faults ≡ old.faults
  pub ends : new.ends ≡ old.ends

-- No byte moved, and the faults rose.
pub record Failed (old new : Wire) : Type 0 where
  pub rests : Rests old new
  pub faults : Rose old.faults new.faults
  pub idles : new.idles ≡ old.idles
  pub ends : new.ends ≡ old.ends

-- Nothing moved and nothing was counted.
pub record Unchanged (old new : Wire) : Type 0 where
  pub rests : Rests old new
  pub counts : SameCounts old new

-- The first n bytes were taken, and follow those written before.
pub record Taken (old new : Wire) (n : ℕ) (bytes : List ℕ) : Type 0 where
  pub some : 0 < n
  pub fits : n ≤ length bytes
  pub left : Keeps old.left new.left
  pub given : Appends old.written new.written (take n bytes)
  pub counts : SameCounts old new

-- One call of `read`, by its answer and the buffer after it.
abbrev pub Reads : Wire → Wire → ReadStep → List ℕ → Type 0
Reads old new (reads.Got n) buffer = Gave old new n buffer
Reads old new reads.End buffer = CameToEnd old new
Reads old new reads.Idle buffer = Idled old new
Reads old new reads.Failed buffer = Failed old new
Reads old new reads.NoMemory buffer = Unchanged old new

-- One call of `write`, by its answer and the bytes that it was given.
abbrev pub Writes : Wire → Wire → WriteStep → List ℕ → Type 0
Writes old new (writes.Took n) bytes = Taken old new n bytes
Writes old new writes.Idle bytes = Idled old new
Writes old new writes.Failed bytes = Failed old new
Writes old new writes.NoMemory bytes = Unchanged old new
