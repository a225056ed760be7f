use Rattle.std.proofs.Common.{◌≡◌, ◌<◌, ◌-◌, ◌==◌, suc, false, length, refl, sym, ◌∙◌, arith}
use Rattle.std.proofs.lemmas.List.{take_rest}
use Rattle.std.proofs.lemmas.Bool.Decides.{nat_tests}
use Rattle.group_view.specs.Seen.{slots_seen}
use Rattle.group_view.proofs.Placing.{put_in, on_ok}
use Rattle.group_view.proofs.Walks.{level_is}
use Rattle.group_view.proofs.slots.+put_behind.Goals as goal

pub returns : goal.returns
returns t c =
    let some : (length c.args.path.now == 0) ≡ false = sym c.is_empty.ensures ∙ c.if-is_empty.false in
    let long : 1 < length c.args.path.now = (let other = c.if-path-eq1.false in grind (arith, nat_tests)) in
    let room : c.args.room ≡ suc (c.args.room - 1) = (let other = c.if-room-eq0.false in grind (arith, nat_tests)) in
    on_ok c.push.result
    (put_in c.args.room (c.args.room - 1) c.args.path.now _ _ c.args.entry (slots_seen c.args.slots.now.items) (slots_seen c.take_last.new.slots.items) _
    (slots_seen c.in_ok-id.inner.items) _ c.in_ok-id.id _ _
    room long (take_rest c.args.path.now 1) refl (λ make. c.in_ok-id.ensures make) c.in_ok-put_behind.ensures (level_is c.in_ok-id.id c.put_behind.new.slots))
    c.push.ensures
