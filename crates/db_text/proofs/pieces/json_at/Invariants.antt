use Rattle.std.proofs.Common.{◌≤◌, ◌+◌, length, false, [], ◌∷◌}
use Rattle.db_text.specs.Cutting.{put, json_at}
use Rattle.db_text.proofs.JsonTexts.{Braces}
use Rattle.db_text.proofs.pieces.json_at.Given as goal

abbrev pub invariant-loop-byte : goal.invariant-loop-byte
invariant-loop-byte l = record {
  same : Braces l.quoted l.depth l.text.items l.rest (put (123 ∷ []) (json_at (length l.bytes) false 0 l.bytes));
  shorter : l.depth + length l.rest ≤ length l.bytes;
}

abbrev pub decreases-loop-byte : goal.decreases-loop-byte
decreases-loop-byte l = length l.rest
