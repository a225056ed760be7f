use Rattle.std.proofs.Common.{◌+◌, ◌≤◌, ◌<◌, ◌^◌, length, vec_len, false}
use Rattle.db_text.specs.Macros.{before}
use Rattle.db_text.specs.Expanding.{expanded_from}
use Rattle.db_text.proofs.Texts.{TextGoes}
use Rattle.db_text.proofs.expanding.expanded_into.Given as goal

abbrev pub invariant-loop-byte : goal.invariant-loop-byte
invariant-loop-byte l = record {
  same : TextGoes l.macros l.quoted l.line l.out.items l.rest (before l.fn.out.items (expanded_from l.macros (length l.text) false 1 l.text));
  small : vec_len l.out < 2 ^ 32;
  lines : l.line + length l.rest ≤ 2 ^ 32;
}

abbrev pub decreases-loop-byte : goal.decreases-loop-byte
decreases-loop-byte l = length l.rest
