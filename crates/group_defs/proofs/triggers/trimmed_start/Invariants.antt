use Rattle.std.proofs.Common.{◌≡◌, length}
use Rattle.group_defs.specs.Triggers.{trimmed_start}
use Rattle.group_defs.proofs.triggers.trimmed_start.Given as goal

abbrev pub invariant-loop-first : goal.invariant-loop-first
invariant-loop-first l = trimmed_start l.rest ≡ trimmed_start l.text

abbrev pub decreases-loop-first : goal.decreases-loop-first
decreases-loop-first l = length l.rest
