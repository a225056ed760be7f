use Rattle.std.proofs.Common.{◌<◌, ◌∙◌, ap, sym, subst, arith, length, length-set}
use Rattle.histories.specs.History.{Every}
use Rattle.hall_core.specs.Floor.{written}
use Rattle.hall_core.proofs.floor.write_all.Goals as goal

pub index_mut-requires : goal.index_mut-requires
index_mut-requires g c =
    let inside : c.in-Some.cell < length c.loop-cell.cells.items = (subst (Every (λ w. w.0 < length c.loop-cell.cells.items)) c.in-Some.ensures.steps.0 c.loop-cell.invariant.3).0 in
    let long = c.loop-cell.cells.ok in
    omega (arith, inside, long)

pub loop-cell-preserved : goal.loop-cell-preserved
loop-cell-preserved g c = (
  tt,
  tt,
  ap (written c.loop-cell.cells.items) (sym c.in-Some.ensures.steps.0) ∙ c.loop-cell.invariant.2,
  subst (λ n. Every (λ w. w.0 < n) c.next.new.self.rest.items) (sym (length-set c.loop-cell.cells.items c.in-Some.cell c.in-Some.value))
      (subst (Every (λ w. w.0 < length c.loop-cell.cells.items)) c.in-Some.ensures.steps.0 c.loop-cell.invariant.3).1,
)
