use Rattle.std.proofs.Common.{◌≡◌, drop}
use Rattle.pvd_type.specs.View.{names_of}
use Rattle.pvd_type.specs.Check.{contains}
use Rattle.pvd_type.proofs.siblings.is_name.Given as goal

abbrev pub invariant-loop-member : goal.invariant-loop-member
invariant-loop-member l = contains l.name (names_of (drop l.member-index l.before)) ≡ contains l.name (names_of l.before)
