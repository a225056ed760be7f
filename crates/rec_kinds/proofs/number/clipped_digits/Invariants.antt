use Rattle.std.proofs.Common.{◌≡◌, ℕ, drop}
use Rattle.rec_kinds.specs.Clipping.{clip}
use Rattle.rec_kinds.specs.Numbers.{spelled_after}
use Rattle.rec_kinds.proofs.number.clipped_digits.Given as goal

abbrev pub invariant-loop-byte : goal.invariant-loop-byte
invariant-loop-byte l =
    (whole : ℕ) × (l.number ≡ clip whole) × (spelled_after l.base whole (drop l.byte-index l.digits) ≡ spelled_after l.base 0 l.digits)
