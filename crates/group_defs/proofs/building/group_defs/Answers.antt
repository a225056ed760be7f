use Rattle.std.proofs.Common.{◌<◌, ◌≤◌, length, subst, sym, arith}
use Rattle.std.specs.List.{IsDistinct}
use Rattle.std.specs.Str.{bytes_eq}
use Rattle.group_defs.specs.Checking.{names_of}
use Rattle.group_defs.specs.declared.listed.Group.{Group}
use Rattle.group_defs.proofs.Passing.{all_at}
use Rattle.group_defs.proofs.building.group_defs.Goals as goal

pub group_def-requires-clause-fits : goal.group_def-requires-clause-fits
group_def-requires-clause-fits c =
    let g = c.group-item.result in
    let inside : c.loop-group.group-index < length c.args.groups.now = omega arith in
    let few = subst (λ (g : Group). length g.members ≤ 256) (sym c.group-item.is) (all_at (λ (g : Group). length g.members ≤ 256) c.args.groups.now c.loop-group.group-index g c.requires.few inside) in
    omega (arith, few)

pub group_def-requires-clause-distinct : goal.group_def-requires-clause-distinct
group_def-requires-clause-distinct c =
    let g = c.group-item.result in
    let inside : c.loop-group.group-index < length c.args.groups.now = omega arith in
    subst (λ (g : Group). IsDistinct bytes_eq (names_of g.members)) (sym c.group-item.is)
    (all_at (λ (g : Group). IsDistinct bytes_eq (names_of g.members)) c.args.groups.now c.loop-group.group-index g c.requires.distinct inside)
