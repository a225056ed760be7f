use Rattle.std.proofs.Common.{length, ◌≤◌}
use Rattle.case_files.proofs.quoted.push_unquoted.Given as goal

abbrev pub invariant-loop-byte : goal.invariant-loop-byte
invariant-loop-byte l = length l.rest ≤ length l.text

abbrev pub decreases-loop-byte : goal.decreases-loop-byte
decreases-loop-byte l = length l.rest
