use Rattle.std.proofs.Common.{◌+◌, ◌<◌, drop, length, sym, ap, ◌∙◌, subst, arith}
use Rattle.std.proofs.lemmas.Result.{err_from_is_err_and}
use Rattle.std.specs.List.{enumerate_from, IsDistinct}
use Rattle.std.specs.Str.{bytes_eq}
use Rattle.group_defs.specs.Told.{each}
use Rattle.group_defs.specs.Checking.{names_of, fault_of}
use Rattle.group_defs.specs.declared.listed.Group.{Group}
use Rattle.group_defs.proofs.Passing.{numbered_from, all_fail, all_go, all_at}
use Rattle.group_defs.proofs.checking.check.Goals as goal

pub returns-in_err-fault_of : goal.returns-in_err-fault_of
returns-in_err-fault_of c =
    let l = c.loop-before in
    let gs = c.args.groups.now in
    let here = numbered_from gs l.before c.index-groups-before.result (omega arith) c.index-groups-before.is in
    let p = err_from_is_err_and c.from_residual.result c.from_residual.ensures.1 in
    rw (p.1, p.2)
    (all_fail (λ _ g. fault_of c.args.texts.now (length gs) g.0 g.1) tt (l.before, c.index-groups-before.result) (enumerate_from (l.before + 1) (drop (l.before + 1) gs)) _
    (sym (ap (each (λ _ g. fault_of c.args.texts.now (length gs) g.0 g.1) tt) here) ∙ l.invariant) _ c.in_err-fault_of.ensures)

pub loop-before-preserved : goal.loop-before-preserved
loop-before-preserved c =
    let l = c.loop-before in
    let gs = c.args.groups.now in
    let here = numbered_from gs l.before c.index-groups-before.result (omega arith) c.index-groups-before.is in
    all_go (λ _ g. fault_of c.args.texts.now (length gs) g.0 g.1) tt (l.before, c.index-groups-before.result) (enumerate_from (l.before + 1) (drop (l.before + 1) gs)) _
    (sym (ap (each (λ _ g. fault_of c.args.texts.now (length gs) g.0 g.1) tt) here) ∙ l.invariant) tt c.in_ok-fault_of.ensures

pub fault_of-requires : goal.fault_of-requires
fault_of-requires c =
    let l = c.loop-before in
    let g = c.index-groups-before.result in
    let gs = c.args.groups.now in
    let inside : l.before < length gs = omega arith in
    subst (λ (g : Group). IsDistinct bytes_eq (names_of g.members)) (sym c.index-groups-before.is)
    (all_at (λ (g : Group). IsDistinct bytes_eq (names_of g.members)) gs l.before g c.requires inside)
