-- What a link gave and took over many calls.
use Rattle.std.specs.Prelude.{◌≡◌, ℕ, ◌+◌, ◌<◌, ◌≤◌, ◌^◌, List, Option, None, Some, ⊤}
use Rattle.std.specs.Io.KnownBytes.{Appends, Consumes}
use Rattle.pva_outside.specs.Wire.{Wire}

-- it gave the bytes that were read, and took those that were written; where it tells none, these are any
pub record Moves (begin end : Wire) (read written : List ℕ) : Type 0 where
  pub taken : Consumes begin.left end.left read
  pub given : Appends begin.written end.written written

-- all that was to be read, where the link told it
abbrev pub IsAll : Option (List ℕ) → List ℕ → Type 0
IsAll None read = ⊤
IsAll (Some bytes) read = bytes ≡ read

-- A count rose by so many at least. One that has come to 2^64 - 1 stands still, and tells no more.
pub record RoseBy (n old new : ℕ) : Type 0 where
  pub kept : old ≤ new
  pub more : new + 1 < 2 ^ 64 → old + n ≤ new
