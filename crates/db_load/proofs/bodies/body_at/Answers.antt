use Rattle.std.proofs.Common.{◌+◌, refl, arith, length}
use Rattle.std.proofs.lemmas.Result.{err_from_is_err_and}
use Rattle.db_load.proofs.Within.{body_begins, body_fails, body_closes, body_field, body_info}
use Rattle.db_load.proofs.bodies.body_at.Goals as goal

pub loop-infos-init : goal.loop-infos-init
loop-infos-init c = record {
  same = rw (c.new-fields.ensures.items, c.new-infos.ensures.items) (body_begins c.args.kind c.args.tokens.now (length c.args.tokens.now + 1) _ (omega arith) refl);
  shorter = omega arith;
}

pub returns-in_err-item-clause-value : goal.returns-in_err-item-clause-value
returns-in_err-item-clause-value c =
    let p = err_from_is_err_and c.from_residual.result c.from_residual.ensures.1 in
    rw (p.1, p.2) (body_fails c.args.kind c.loop-infos.fields.items c.loop-infos.infos.items c.loop-infos.rest.now _ c.in_err-item.field-0.0 c.in_err-item.ensures.value c.loop-infos.invariant.same)

pub returns-in-Close-clause-value : goal.returns-in-Close-clause-value
returns-in-Close-clause-value c =
    let read = rw c.in-Close.is at c.in_ok-item.ensures.value in
    body_closes c.args.kind c.loop-infos.fields.items c.loop-infos.infos.items c.loop-infos.rest.now _ c.in_ok-item.after.now read c.loop-infos.invariant.same

pub loop-infos-preserved-in-Field : goal.loop-infos-preserved-in-Field
loop-infos-preserved-in-Field c =
    let read = rw c.in-Field.is at c.in_ok-item.ensures.value in
    record {
      same = rw c.in_ok-push-in-Field.ensures.items (body_field c.args.kind c.loop-infos.fields.items c.loop-infos.infos.items c.loop-infos.rest.now _ c.in_ok-item.after.now c.in-Field.field read c.in_ok-item.ensures.shorter
          c.loop-infos.invariant.same);
      shorter = omega (arith, c.in_ok-item.ensures.shorter);
    }

pub loop-infos-preserved : goal.loop-infos-preserved
loop-infos-preserved c =
    let read = rw c.in-Info.is at c.in_ok-item.ensures.value in
    record {
      same = rw c.in_ok-push-in-Info.ensures.items (body_info c.args.kind c.loop-infos.fields.items c.loop-infos.infos.items c.loop-infos.rest.now _ c.in_ok-item.after.now c.in-Info.info read c.in_ok-item.ensures.shorter
          c.loop-infos.invariant.same);
      shorter = omega (arith, c.in_ok-item.ensures.shorter);
    }
