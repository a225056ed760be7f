use Rattle.std.proofs.Common.{◌≡◌, drop}
use Rattle.group_defs.specs.Checking.{is_taken}
use Rattle.group_defs.proofs.checking.is_taken.Given as goal

abbrev pub invariant-loop-text : goal.invariant-loop-text
invariant-loop-text l = is_taken (drop l.text-index l.texts) l.name ≡ is_taken l.texts l.name
