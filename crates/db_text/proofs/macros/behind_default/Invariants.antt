use Rattle.std.proofs.Common.{◌≤◌, [], length, reverse}
use Rattle.db_text.specs.Macros.{behind_default}
use Rattle.db_text.proofs.Defaults.{Still}
use Rattle.db_text.proofs.macros.behind_default.Given as goal

abbrev pub invariant-loop-byte : goal.invariant-loop-byte
invariant-loop-byte l = record {
  same : Still l.awaited (reverse l.outer.items) l.rest (behind_default (length l.bytes) l.closer [] l.bytes);
  shorter : length l.rest ≤ length l.bytes;
}

abbrev pub decreases-loop-byte : goal.decreases-loop-byte
decreases-loop-byte l = length l.rest
