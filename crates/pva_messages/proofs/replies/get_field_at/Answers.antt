use Rattle.std.proofs.Common.{◌∷◌, [], refl}
use Rattle.std.proofs.lemmas.Result.{err_from_is_err_and}
use Rattle.pvd_desc.specs.Types.{laid}
use Rattle.pva_messages.specs.declared.command.Command.TheVariants as command
use Rattle.pva_messages.specs.Items as item
use Rattle.pva_messages.specs.Fields.{word, status}
use Rattle.pva_messages.specs.Replies.{reply_of, skipped, get_field, type_in}
use Rattle.pva_messages.specs.Rows.{field_next}
use Rattle.pva_messages.specs.Reading.{all_at}
use Rattle.pva_messages.proofs.Steps.{unpicked, head_fails, next_fails, next_picked}
use Rattle.pva_messages.proofs.replies.get_field_at.Goals as goal

pub returns-in_err-req : goal.returns-in_err-req
returns-in_err-req c =
    let before = laid c.args.base.now c.args.changed.now in
    let p = err_from_is_err_and c.from_residual.result c.from_residual.ensures.1 in
    rw (p.1, p.2) (head_fails c.args.order (item.word ∷ item.status ∷ []) (reply_of command.GetField) (skipped 0) (c.args.bytes.now, before) (field_next ∷ []) c.in_err-req.field-0.0 (c.in_err-req.ensures before))

pub returns-in_err-ty : goal.returns-in_err-ty
returns-in_err-ty c =
    let before = laid c.args.base.now c.args.changed.now in
    let got = c.in_ok-req in
    let p = err_from_is_err_and c.from_residual-in_err-ty.result c.from_residual-in_err-ty.ensures.1 in
    rw (p.1, p.2) (next_fails c.args.order (item.word ∷ item.status ∷ []) (reply_of command.GetField) (skipped 0) (c.args.bytes.now, before) field_next (got.rest.now, before) (word got.req ∷ status got.status ∷ []) (got.ensures before)
    c.in_err-ty.field-0.0 (unpicked type_in (all_at c.args.order (field_next (word got.req ∷ status got.status ∷ [])) (got.rest.now, before)) c.in_err-ty.field-0.0 (rw c.carries-brings.ensures at c.in_err-ty.ensures)))

pub returns : goal.returns
returns c =
    let before = laid c.args.base.now c.args.changed.now in
    let got = c.in_ok-req in
    next_picked c.args.order (item.word ∷ item.status ∷ []) (reply_of command.GetField) (skipped 0) (c.args.bytes.now, before) field_next (got.rest.now, before) (word got.req ∷ status got.status ∷ []) (got.ensures before)
    type_in (λ x. get_field got.req got.status x) c.in_ok-ty.ty (c.in_ok-ty.rest.now, laid c.args.base.now c.brought_type_at.new.changed) (λ fields. refl) (rw c.carries-brings.ensures at c.in_ok-ty.ensures)
