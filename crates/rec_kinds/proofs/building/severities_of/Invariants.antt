use Rattle.std.proofs.Common.{◌≡◌, take, map}
use Rattle.rec_kinds.specs.Given.{severity_told}
use Rattle.rec_kinds.proofs.building.severities_of.Given as goal

abbrev pub invariant-loop-name : goal.invariant-loop-name
invariant-loop-name l =
    l.severities.items ≡ map (severity_told l.given.kind l.given.fields.now) (map (λ name. name.now) (take l.name-index l.names))
