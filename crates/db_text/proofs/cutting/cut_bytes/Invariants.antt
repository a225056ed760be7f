use Rattle.std.proofs.Common.{◌≤◌, ◌+◌, ◌^◌, length}
use Rattle.db_text.specs.Cutting.{cut}
use Rattle.db_text.proofs.Cuts.{CutGoes}
use Rattle.db_text.proofs.cutting.cut_bytes.Given as goal

abbrev pub invariant-loop-byte : goal.invariant-loop-byte
invariant-loop-byte l = record {
  same : CutGoes (length l.bytes) l.before l.line l.tokens.items l.rest (cut l.bytes);
  lines : l.line + length l.rest ≤ 2 ^ 32;
  shorter : length l.rest ≤ length l.bytes;
}

abbrev pub decreases-loop-byte : goal.decreases-loop-byte
decreases-loop-byte l = length l.rest
