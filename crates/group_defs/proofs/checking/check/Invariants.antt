use Rattle.std.proofs.Common.{◌≡◌, drop, length}
use Rattle.std.specs.List.{enumerate_from}
use Rattle.group_defs.specs.Told.{each}
use Rattle.group_defs.specs.Checking.{fault_of, fault_from}
use Rattle.group_defs.proofs.checking.check.Given as goal

abbrev pub invariant-loop-before : goal.invariant-loop-before
invariant-loop-before l =
    each (λ _ g. fault_of l.texts (length l.groups) g.0 g.1) tt (enumerate_from l.before (drop l.before l.groups)) ≡ fault_from l.texts l.groups
