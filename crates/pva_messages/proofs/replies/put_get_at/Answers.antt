use Rattle.std.proofs.Common.{refl}
use Rattle.std.specs.Option.{option_copied}
use Rattle.std.proofs.lemmas.Result.{err_from_is_err_and}
use Rattle.pvd_desc.specs.Types.{laid}
use Rattle.pva_messages.specs.declared.command.Command.TheVariants as command
use Rattle.pva_messages.specs.Replies.{reply_of, skipped, put_get, put_get_in}
use Rattle.pva_messages.specs.Rows.{put_get_reply}
use Rattle.pva_messages.specs.Views.{part_view}
use Rattle.pva_messages.proofs.Steps.{reply_head_fails, reply_next_fails, reply_is}
use Rattle.pva_messages.proofs.replies.put_get_at.Goals as goal

pub returns-in_err-req : goal.returns-in_err-req
returns-in_err-req c =
    let before = laid c.args.base.now c.args.changed.now in
    let p = err_from_is_err_and c.from_residual.result c.from_residual.ensures.1 in
    rw (p.1, p.2) (reply_head_fails c.args.order (reply_of command.PutGet) (skipped 0) (put_get_reply (option_copied c.args.known)) (c.args.bytes.now, before) c.in_err-req.field-0.0 (c.in_err-req.ensures before))

pub returns-in_err-put_ty : goal.returns-in_err-put_ty
returns-in_err-put_ty c =
    let before = laid c.args.base.now c.args.changed.now in
    let got = c.in_ok-req in
    let p = err_from_is_err_and c.from_residual-in_err-put_ty.result c.from_residual-in_err-put_ty.ensures.1 in
    rw (p.1, p.2) (reply_next_fails c.args.order (reply_of command.PutGet) (skipped 0) (put_get_reply (option_copied c.args.known)) (c.args.bytes.now, before) (got.rest.now, before) got.req got.sub got.status (got.ensures before) put_get_in c.in_err-put_ty.field-0.0
    (rw c.carries-brings.ensures at c.in_err-put_ty.ensures))

pub returns : goal.returns
returns c =
    let before = laid c.args.base.now c.args.changed.now in
    let got = c.in_ok-req in
    reply_is c.args.order (reply_of command.PutGet) (skipped 0) (put_get_reply (option_copied c.args.known)) (c.args.bytes.now, before) (got.rest.now, before) got.req got.sub got.status (got.ensures before) put_get_in (λ x. put_get got.req got.sub got.status x.0 x.1 x.2) (c.in_ok-put_ty.put_ty, c.in_ok-put_ty.get_ty, part_view c.in_ok-put_ty.part)
    (c.in_ok-put_ty.rest.now, laid c.args.base.now c.put_get_next_at.new.changed) (λ fields. refl) (rw c.carries-brings.ensures at c.in_ok-put_ty.ensures)
