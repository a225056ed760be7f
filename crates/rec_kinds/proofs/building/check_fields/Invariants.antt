use Rattle.std.proofs.Common.{◌≡◌, drop}
use Rattle.rec_kinds.specs.Building.{first_fault, build_fault}
use Rattle.rec_kinds.proofs.building.check_fields.Given as goal

abbrev pub invariant-loop-index : goal.invariant-loop-index
invariant-loop-index l = first_fault l.given.kind l.given.fields.now (drop l.index l.given.fields.now) ≡ build_fault l.given.kind l.given.fields.now
