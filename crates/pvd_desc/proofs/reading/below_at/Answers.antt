use Rattle.std.proofs.Common.{◌≡◌, ◌+◌, refl, arith}
use Rattle.pvd_type.specs.View.{shape_view}
use Rattle.pvd_type.specs.Numbers.{nodes}
use Rattle.pvd_type.proofs.Counts.{nodes_below}
use Rattle.pvd_desc.proofs.Places.{type_is_named}
use Rattle.pvd_desc.proofs.reading.below_at.Goals as goal

pub stand_below-requires-clause-named : goal.stand_below-requires-clause-named
stand_below-requires-clause-named c = type_is_named (shape_view c.args.shape.now) c.requires.checked

pub returns-in-Ok-clause-value : goal.returns-in-Ok-clause-value
returns-in-Ok-clause-value c =
    let t = shape_view c.args.shape.now in
    let none = c.in-Ok.ensures.checks.0 in
    let count : c.args.seen + nodes t ≡ c.in-Ok.count = omega (arith, c.in-Ok.ensures.checks.1, nodes_below c.args.level t) in
    rw (none, count) refl
