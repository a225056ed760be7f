use Rattle.std.proofs.Common.{◌≡◌, ◌<◌, length, get_or, sym, ap, ◌∙◌, rules, arith}
use Rattle.group_view.specs.Leaves.{leaves_at}
use Rattle.group_view.specs.Puts.{with_writer, writer_of}
use Rattle.group_view.proofs.Reaching.{writers_more, own_at}
use Rattle.group_view.proofs.writer.writers_of.Goals as goal

pub loop-number-preserved : goal.loop-number-preserved
loop-number-preserved c =
    let ms = c.args.members.now in
    let own = c.args.own.now in
    let n = c.loop-number.number in
    let m = c.index-members-number.result in
    let v = c.index-own-number.result in
    let here : get_or ms n m ≡ m = search rules in
    let there : get_or own n v ≡ v = search rules in
    let inside : n < length own = omega (arith, c.loop-number-test.true, c.requires.same) in
    let shows = sym (own_at own n v inside there ∙ sym c.deref.ensures.value) in
    writers_more (leaves_at own) ms n m c.loop-number.found.entries _ _ c.loop-number-test.true here
    (c.in_ok-add_writer.ensures ∙ ap (λ ls. with_writer c.loop-number.found.entries (writer_of n m ls)) shows) c.loop-number.invariant
