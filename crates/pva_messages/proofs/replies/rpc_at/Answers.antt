use Rattle.std.proofs.Common.{refl}
use Rattle.std.proofs.lemmas.Result.{err_from_is_err_and}
use Rattle.pvd_desc.specs.Types.{laid}
use Rattle.pva_messages.specs.declared.command.Command.TheVariants as command
use Rattle.pva_messages.specs.Replies.{reply_of, skipped, rpc, valued_in}
use Rattle.pva_messages.specs.Rows.{rpc_reply}
use Rattle.pva_messages.specs.Views.{valued_view}
use Rattle.pva_messages.proofs.Steps.{reply_head_fails, reply_next_fails, reply_is}
use Rattle.pva_messages.proofs.replies.rpc_at.Goals as goal

pub returns-in_err-req : goal.returns-in_err-req
returns-in_err-req c =
    let before = laid c.args.base.now c.args.changed.now in
    let p = err_from_is_err_and c.from_residual.result c.from_residual.ensures.1 in
    rw (p.1, p.2) (reply_head_fails c.args.order (reply_of command.Rpc) (skipped 0) rpc_reply (c.args.bytes.now, before) c.in_err-req.field-0.0 (c.in_err-req.ensures before))

pub returns-in_err-result : goal.returns-in_err-result
returns-in_err-result c =
    let before = laid c.args.base.now c.args.changed.now in
    let got = c.in_ok-req in
    let p = err_from_is_err_and c.from_residual-in_err-result.result c.from_residual-in_err-result.ensures.1 in
    rw (p.1, p.2) (reply_next_fails c.args.order (reply_of command.Rpc) (skipped 0) rpc_reply (c.args.bytes.now, before) (got.rest.now, before) got.req got.sub got.status (got.ensures before) valued_in c.in_err-result.field-0.0
    (rw c.carries-brings.ensures at c.in_err-result.ensures))

pub returns : goal.returns
returns c =
    let before = laid c.args.base.now c.args.changed.now in
    let got = c.in_ok-req in
    reply_is c.args.order (reply_of command.Rpc) (skipped 0) rpc_reply (c.args.bytes.now, before) (got.rest.now, before) got.req got.sub got.status (got.ensures before) valued_in (λ x. rpc got.req got.sub got.status x) (valued_view c.in_ok-result.result)
    (c.in_ok-result.rest.now, laid c.args.base.now c.rpc_next_at.new.changed) (λ fields. refl) (rw c.carries-brings.ensures at c.in_ok-result.ensures)
