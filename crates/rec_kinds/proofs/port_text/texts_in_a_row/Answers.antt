use Rattle.std.proofs.Common.{◌≡◌, ◌+◌, ◌∙◌, take, get_or, rules}
use Rattle.std.proofs.lemmas.List.{take_more}
use Rattle.rec_kinds.proofs.Rows.{row_step, front_length}
use Rattle.rec_kinds.proofs.port_text.texts_in_a_row.Goals as goal

pub loop-place-preserved : goal.loop-place-preserved
loop-place-preserved c =
    let texts = c.args.texts.now in
    let place = c.loop-place.place in
    let item = c.index-texts-place.result in
    let is : item ≡ get_or texts place item = search rules in
    row_step (take place texts) (take (place + 1) texts) (get_or texts place item) _ _ _ place
    (front_length texts place c.loop-place-test.true) (take_more texts place item c.loop-place-test.true)
    c.loop-place.invariant (c.in_ok-append.ensures {u = tt}) (c.as_str.ensures.text ∙ is)
