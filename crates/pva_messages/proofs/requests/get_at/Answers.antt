use Rattle.std.proofs.Common.{refl}
use Rattle.std.proofs.lemmas.Result.{err_from_is_err_and}
use Rattle.pvd_desc.specs.Types.{laid}
use Rattle.pva_messages.specs.declared.command.Command.TheVariants as command
use Rattle.pva_messages.specs.Requests.{request_of, skipped, get, valued_in}
use Rattle.pva_messages.specs.Rows.{begun_next}
use Rattle.pva_messages.specs.Views.{valued_view}
use Rattle.pva_messages.proofs.Steps.{request_head_fails, request_next_fails, request_is}
use Rattle.pva_messages.proofs.requests.get_at.Goals as goal

pub returns-in_err-sid : goal.returns-in_err-sid
returns-in_err-sid c =
    let before = laid c.args.base.now c.args.changed.now in
    let p = err_from_is_err_and c.from_residual.result c.from_residual.ensures.1 in
    rw (p.1, p.2) (request_head_fails c.args.order (request_of command.Get) (skipped 0) begun_next (c.args.bytes.now, before) c.in_err-sid.field-0.0 (c.in_err-sid.ensures before))

pub returns-in_err-request : goal.returns-in_err-request
returns-in_err-request c =
    let before = laid c.args.base.now c.args.changed.now in
    let p = err_from_is_err_and c.from_residual-in_err-request.result c.from_residual-in_err-request.ensures.1 in
    rw (p.1, p.2) (request_next_fails c.args.order (request_of command.Get) (skipped 0) begun_next (c.args.bytes.now, before) (c.in_ok-sid.rest.now, before) c.in_ok-sid.sid c.in_ok-sid.req c.in_ok-sid.sub
    (c.in_ok-sid.ensures before) valued_in c.in_err-request.field-0.0 c.in_err-request.ensures)

pub returns : goal.returns
returns c =
    let before = laid c.args.base.now c.args.changed.now in
    let got = c.in_ok-sid in
    request_is c.args.order (request_of command.Get) (skipped 0) begun_next (c.args.bytes.now, before) (got.rest.now, before) got.sid got.req got.sub (got.ensures before) valued_in
    (λ x. get got.sid got.req got.sub x) (valued_view c.in_ok-request.request) (c.in_ok-request.rest.now, laid c.args.base.now c.begun_at.new.changed) (λ fields. refl) c.in_ok-request.ensures
