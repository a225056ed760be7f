use Rattle.std.proofs.Common.{◌∙◌, ◌<◌, ◌^◌, length, arith}
use Rattle.db_text.proofs.Whole.{expand_fails, expand_done}
use Rattle.db_text.proofs.expanding.expand.Goals as goal

pub returns-in-Err : goal.returns-in-Err
returns-in-Err c =
    record {
      exact = expand_fails c.args.macros.now c.args.text.now c.as_bytes-bytes.result.now c.in-Err.stopped.stop c.in-Err.stopped.line c.fault_of.result
          c.as_bytes-bytes.ensures.value c.in-Err.ensures.value c.fault_of.ensures;
    }

pub returns-in-Ok : goal.returns-in-Ok
returns-in-Ok c =
    let small : length c.expanded_into.new.out.items < 2 ^ 32 = omega (arith, c.in_default.ensures.small, c.expanded_into.new.out.ok) in
    record {
      exact = expand_done c.args.macros.now c.args.text.now c.as_bytes-bytes.result.now c.new-out.result.items c.expanded_into.new.out.items c.in_ok-of-in-Ok.field-0
          c.as_bytes-bytes.ensures.value c.new-out.ensures.items c.in_default.ensures.value (c.in_ok-of-in-Ok.ensures ∙ c.in-Ok.ensures.cases.0 ∙ c.as_slice.ensures.value) small;
    }
