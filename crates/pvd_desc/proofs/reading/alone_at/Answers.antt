use Rattle.std.proofs.Common.{◌∙◌, ap, sym, Some, Ok}
use Rattle.std.proofs.lemmas.Result.{err_from_is_err_and}
use Rattle.pvd_type.specs.Tree.{Tree}
use Rattle.pvd_desc.specs.Types.{laid}
use Rattle.pvd_desc.proofs.Alone.{alone_fails, alone_unknown, alone_known}
use Rattle.pvd_desc.proofs.reading.alone_at.Goals as goal

pub returns-in_err-id : goal.returns-in_err-id
returns-in_err-id c =
    let p = err_from_is_err_and c.from_residual.result c.from_residual.ensures.1 in
    rw (p.1, p.2) (alone_fails c.args.order (laid c.args.base.now c.args.changed.now) c.args.bytes.now c.in_err-id.field-0.0 c.in_err-id.ensures)

pub returns-in-None : goal.returns-in-None
returns-in-None c = alone_unknown c.args.order (laid c.args.base.now c.args.changed.now) c.args.bytes.now c.in_ok-id.rest.now c.in_ok-id.id c.in_ok-id.ensures (sym c.in-None.ensures)

pub returns-in_ok-clone_in-in-Some : goal.returns-in_ok-clone_in-in-Some
returns-in_ok-clone_in-in-Some c =
    let types = laid c.args.base.now c.args.changed.now in
    alone_known c.args.order types c.args.bytes.now c.in_ok-id.rest.now c.in_ok-id.id c.in-Some.ty.now c.in_ok-id.ensures (sym c.in-Some.ensures) c.shape-tested.ensures.checked
    ∙ ap (λ (t : Tree). Ok (Some t, c.in_ok-id.rest.now, types)) (sym c.in_ok-clone_in-in-Some.ensures)
