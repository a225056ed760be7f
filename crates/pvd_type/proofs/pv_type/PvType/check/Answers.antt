use Rattle.std.proofs.lemmas.Result.{err_from_is_err_and}
use Rattle.pvd_type.specs.View.{shape_view}
use Rattle.pvd_type.proofs.Counts.{fault_known}
use Rattle.pvd_type.proofs.pv_type.PvType.check.Goals as goal

pub returns-in_err-check_below-clause-fault : goal.returns-in_err-check_below-clause-fault
returns-in_err-check_below-clause-fault c =
    let p = err_from_is_err_and c.from_residual.result c.from_residual.ensures.1 in
    rw (p.1, p.2) (fault_known (shape_view c.args.shape) c.in_err-check_below.field-0.0 c.in_err-check_below.ensures.checks)
