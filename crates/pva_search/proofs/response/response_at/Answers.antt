use Rattle.std.proofs.Common.{◌%◌, length, Ok, Err, refl, arith}
use Rattle.std.proofs.lemmas.Result.{err_from_is_err_and}
use Rattle.pva_wire.specs.declared.fault.Cause.TheVariants.{Short}
use Rattle.pva_search.proofs.Responding.{Front, enough, too_few, instances_are, with_numbers, is_response, no_response, no_count}
use Rattle.pva_search.proofs.response.response_at.Goals as goal

pub returns-then-instances-count-clause-value : goal.returns-then-instances-count-clause-value
returns-then-instances-count-clause-value c =
    let front : Front c.args.order c.args.payload.now c.in_ok-address.address c.in_ok-port.port c.in_ok-found.found c.in_ok-found.rest.now = record {
      guid = c.in_ok-rest.field-0-0.now;
      behind_guid = c.in_ok-rest.rest.now;
      first = c.in_ok-rest.ensures.value;
      sequence = c.in_ok-rest-2.field-0-0;
      behind_sequence = c.in_ok-rest-2.rest.now;
      second = c.in_ok-rest-2.ensures.value;
      behind_address = c.in_ok-address.rest.now;
      third = c.in_ok-address.ensures.value;
      behind_port = c.in_ok-port.rest.now;
      fourth = c.in_ok-port.ensures.value;
      protocol = c.in_ok-rest-3.field-0-0.now;
      behind_protocol = c.in_ok-rest-3.rest.now;
      fifth = c.in_ok-rest-3.ensures.value;
      sixth = c.in_ok-found.ensures.value;
    } in
    no_response c.args.order c.args.payload.now c.in_ok-address.address c.in_ok-port.port c.in_ok-found.found c.in_ok-found.rest.now front Short (length c.in_ok-count.instances.now % 4)
    (instances_are c.args.order c.in_ok-found.rest.now c.in_ok-count.instances.now c.in_ok-count.count (Err (Short, length c.in_ok-count.instances.now % 4)) c.in_ok-count.ensures.value
    (too_few c.args.order c.in_ok-count.count c.in_ok-count.instances.now (omega (arith, c.if-instances-count.true))))

pub returns-clause-value : goal.returns-clause-value
returns-clause-value c =
    let front : Front c.args.order c.args.payload.now c.in_ok-address.address c.in_ok-port.port c.in_ok-found.found c.in_ok-found.rest.now = record {
      guid = c.in_ok-rest.field-0-0.now;
      behind_guid = c.in_ok-rest.rest.now;
      first = c.in_ok-rest.ensures.value;
      sequence = c.in_ok-rest-2.field-0-0;
      behind_sequence = c.in_ok-rest-2.rest.now;
      second = c.in_ok-rest-2.ensures.value;
      behind_address = c.in_ok-address.rest.now;
      third = c.in_ok-address.ensures.value;
      behind_port = c.in_ok-port.rest.now;
      fourth = c.in_ok-port.ensures.value;
      protocol = c.in_ok-rest-3.field-0-0.now;
      behind_protocol = c.in_ok-rest-3.rest.now;
      fifth = c.in_ok-rest-3.ensures.value;
      sixth = c.in_ok-found.ensures.value;
    } in
    let (ids, after, e) = enough c.args.order c.in_ok-count.count c.in_ok-count.instances.now (omega (arith, c.if-instances-count.false)) in (
      with_numbers c.args.order c.args.payload.now c.in_ok-address.address c.in_ok-port.port c.in_ok-found.found c.in_ok-found.rest.now front ids,
      after,
      is_response c.args.order c.args.payload.now c.in_ok-address.address c.in_ok-port.port c.in_ok-found.found c.in_ok-found.rest.now front ids after
          (instances_are c.args.order c.in_ok-found.rest.now c.in_ok-count.instances.now c.in_ok-count.count (Ok (ids, after)) c.in_ok-count.ensures.value e),
      record { address = refl; port = refl; found = refl; after = after; instances = e },
    )

pub returns-in_err-count-clause-value : goal.returns-in_err-count-clause-value
returns-in_err-count-clause-value c =
    let front : Front c.args.order c.args.payload.now c.in_ok-address.address c.in_ok-port.port c.in_ok-found.found c.in_ok-found.rest.now = record {
      guid = c.in_ok-rest.field-0-0.now;
      behind_guid = c.in_ok-rest.rest.now;
      first = c.in_ok-rest.ensures.value;
      sequence = c.in_ok-rest-2.field-0-0;
      behind_sequence = c.in_ok-rest-2.rest.now;
      second = c.in_ok-rest-2.ensures.value;
      behind_address = c.in_ok-address.rest.now;
      third = c.in_ok-address.ensures.value;
      behind_port = c.in_ok-port.rest.now;
      fourth = c.in_ok-port.ensures.value;
      protocol = c.in_ok-rest-3.field-0-0.now;
      behind_protocol = c.in_ok-rest-3.rest.now;
      fifth = c.in_ok-rest-3.ensures.value;
      sixth = c.in_ok-found.ensures.value;
    } in
    let p = err_from_is_err_and c.from_residual-in_err-count.result c.from_residual-in_err-count.ensures.1 in
    rw (p.1, p.2) (no_count c.args.order c.args.payload.now c.in_ok-address.address c.in_ok-port.port c.in_ok-found.found c.in_ok-found.rest.now front c.in_err-count.field-0.0 c.in_err-count.ensures.value)
