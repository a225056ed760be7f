use Rattle.std.proofs.Common.{◌+◌, ◌∙◌, pos, map, take, get_or}
use Rattle.std.specs.Fmt.{signed_decimal}
use Rattle.rec_kinds.proofs.Rows.{row_step, taken_length, taken_more}
use Rattle.rec_kinds.proofs.port_text.numbers_in_a_row.Goals as goal

pub loop-place-preserved : goal.loop-place-preserved
loop-place-preserved c =
    let numbers = c.args.numbers.now in
    let place = c.loop-place.place in
    row_step (map signed_decimal (take place numbers)) (map signed_decimal (take (place + 1) numbers))
    (signed_decimal (get_or numbers place (pos 0))) _ _ _ place
    (taken_length signed_decimal numbers place c.loop-place-test.true) (taken_more signed_decimal numbers place (pos 0) c.loop-place-test.true)
    c.loop-place.invariant (c.in_ok-append.ensures {u = tt}) (c.as_str.ensures.value ∙ (c.in_ok-number.ensures {u = tt}).ok)
