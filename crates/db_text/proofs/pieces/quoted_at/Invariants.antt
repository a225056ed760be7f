use Rattle.std.proofs.Common.{◌≤◌, length}
use Rattle.db_text.specs.Cutting.{quoted_at}
use Rattle.db_text.proofs.Quotes.{Quotes}
use Rattle.db_text.proofs.pieces.quoted_at.Given as goal

abbrev pub invariant-loop-byte : goal.invariant-loop-byte
invariant-loop-byte l = record {
  same : Quotes l.text.items l.rest (quoted_at (length l.bytes) l.bytes);
  shorter : length l.rest ≤ length l.bytes;
}

abbrev pub decreases-loop-byte : goal.decreases-loop-byte
decreases-loop-byte l = length l.rest
