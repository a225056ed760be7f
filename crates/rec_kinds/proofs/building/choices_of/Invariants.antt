use Rattle.std.proofs.Common.{◌≡◌, take, map}
use Rattle.rec_kinds.specs.Given.{text_told}
use Rattle.rec_kinds.proofs.building.choices_of.Given as goal

abbrev pub invariant-loop-name : goal.invariant-loop-name
invariant-loop-name l =
    l.choices.items ≡ map (text_told l.given.kind l.given.fields.now) (map (λ name. name.now) (take l.name-index l.names))
