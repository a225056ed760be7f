use Rattle.std.proofs.Common.{◌+◌, fold, length, ◌∙◌, sym, ap}
use Rattle.std.specs.FinSet as set
use Rattle.pvd_type.specs.View.{shape_view}
use Rattle.pvd_type.proofs.At.{lone}
use Rattle.pvd_type.proofs.Shapes.{unentered}
use Rattle.pvd_request.specs.Selection.{every}
use Rattle.pvd_request.proofs.Paths.{lone_where}
use Rattle.pvd_request.proofs.selecting.+take.Goals as goal

pub take_all-returns-in_ok-insert-in_default : goal.take_all-returns-in_ok-insert-in_default
take_all-returns-in_ok-insert-in_default t c =
    let tree = shape_view c.args.shape.now in
    let is = unentered c.args.shape.now c.in_default.not-Struct in
    record {
      leaves = c.in_ok-insert-in_default.ensures.ok ∙ ap (fold set.insert c.args.found.now) (sym (lone_where every c.args.number tree is));
      next = ap (λ n. c.args.number + n) (sym (ap length (lone tree is)));
    }
