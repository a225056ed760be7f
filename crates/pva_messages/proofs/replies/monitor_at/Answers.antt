use Rattle.std.proofs.Common.{◌∙◌, sym}
use Rattle.std.specs.Option.{option_copied}
use Rattle.std.proofs.lemmas.Result.{err_from_is_err_and}
use Rattle.pvd_desc.specs.Types.{laid}
use Rattle.pva_messages.specs.Views.{update_view}
use Rattle.pva_messages.proofs.Monitors.{monitor_head_fails, begun_status_fails, begun_type_fails, begun_is, ended_fails, ended_is, update_fails, update_is}
use Rattle.pva_messages.proofs.replies.monitor_at.Goals as goal

pub returns-in_err-req : goal.returns-in_err-req
returns-in_err-req c =
    let before = laid c.args.base.now c.args.changed.now in
    let p = err_from_is_err_and c.from_residual.result c.from_residual.ensures.1 in
    rw (p.1, p.2) (monitor_head_fails c.args.order (option_copied c.args.known) (c.args.bytes.now, before) c.in_err-req.field-0.0 (c.in_err-req.ensures before))

pub returns-in_err-status : goal.returns-in_err-status
returns-in_err-status c =
    let before = laid c.args.base.now c.args.changed.now in
    let known = option_copied c.args.known in
    let got = c.in_ok-req in
    let p = err_from_is_err_and c.from_residual-in_err-status.result c.from_residual-in_err-status.ensures.1 in
    rw (p.1, p.2) (begun_status_fails c.args.order known (c.args.bytes.now, before) (got.rest.now, before) got.req got.sub (got.ensures before) c.in_err-status.field-0.0 (sym c.begins.ensures ∙ c.if-begins.true) (c.in_err-status.ensures before))

pub returns-in_err-ty : goal.returns-in_err-ty
returns-in_err-ty c =
    let before = laid c.args.base.now c.args.changed.now in
    let known = option_copied c.args.known in
    let got = c.in_ok-req in
    let p = err_from_is_err_and c.from_residual-in_err-ty.result c.from_residual-in_err-ty.ensures.1 in
    rw (p.1, p.2) (begun_type_fails c.args.order known (c.args.bytes.now, before) (got.rest.now, before) got.req got.sub (got.ensures before) c.in_ok-status.status (c.in_ok-status.rest.now, before) (c.in_ok-status.ensures before) c.in_err-ty.field-0.0 (sym c.begins.ensures ∙ c.if-begins.true)
    (rw c.carries-brings.ensures at c.in_err-ty.ensures))

pub returns-then-begins : goal.returns-then-begins
returns-then-begins c =
    let before = laid c.args.base.now c.args.changed.now in
    let known = option_copied c.args.known in
    let got = c.in_ok-req in
    begun_is c.args.order known (c.args.bytes.now, before) (got.rest.now, before) got.req got.sub (got.ensures before) c.in_ok-status.status (c.in_ok-status.rest.now, before) (c.in_ok-status.ensures before) c.in_ok-ty.ty (c.in_ok-ty.rest.now, laid c.args.base.now c.brought_type_at.new.changed) (sym c.begins.ensures ∙ c.if-begins.true)
    (rw c.carries-brings.ensures at c.in_ok-ty.ensures)

pub returns-in_err-status-2 : goal.returns-in_err-status-2
returns-in_err-status-2 c =
    let before = laid c.args.base.now c.args.changed.now in
    let known = option_copied c.args.known in
    let got = c.in_ok-req in
    let p = err_from_is_err_and c.from_residual-in_err-status-2.result c.from_residual-in_err-status-2.ensures.1 in
    rw (p.1, p.2) (ended_fails c.args.order known (c.args.bytes.now, before) (got.rest.now, before) got.req got.sub (got.ensures before) c.in_err-status-2.field-0.0 (sym c.begins.ensures ∙ c.if-begins.false) (sym c.ends.ensures ∙ c.if-ends.true) (c.in_err-status-2.ensures before))

pub returns-then-ends : goal.returns-then-ends
returns-then-ends c =
    let before = laid c.args.base.now c.args.changed.now in
    let known = option_copied c.args.known in
    let got = c.in_ok-req in
    ended_is c.args.order known (c.args.bytes.now, before) (got.rest.now, before) got.req got.sub (got.ensures before) c.in_ok-status-2.status (c.in_ok-status-2.rest.now, before) (c.in_ok-status-2.ensures before) (sym c.begins.ensures ∙ c.if-begins.false) (sym c.ends.ensures ∙ c.if-ends.true)

pub returns-in_err-update : goal.returns-in_err-update
returns-in_err-update c =
    let before = laid c.args.base.now c.args.changed.now in
    let known = option_copied c.args.known in
    let got = c.in_ok-req in
    let p = err_from_is_err_and c.from_residual-in_err-update.result c.from_residual-in_err-update.ensures.1 in
    rw (p.1, p.2) (update_fails c.args.order known (c.args.bytes.now, before) (got.rest.now, before) got.req got.sub (got.ensures before) c.in_err-update.field-0.0 (sym c.begins.ensures ∙ c.if-begins.false) (sym c.ends.ensures ∙ c.if-ends.false) c.in_err-update.ensures)

pub returns : goal.returns
returns c =
    let before = laid c.args.base.now c.args.changed.now in
    let known = option_copied c.args.known in
    let got = c.in_ok-req in
    update_is c.args.order known (c.args.bytes.now, before) (got.rest.now, before) got.req got.sub (got.ensures before) (update_view c.in_ok-update.update) (c.in_ok-update.rest.now, laid c.args.base.now c.update_at.new.changed) (sym c.begins.ensures ∙ c.if-begins.false) (sym c.ends.ensures ∙ c.if-ends.false) c.in_ok-update.ensures
