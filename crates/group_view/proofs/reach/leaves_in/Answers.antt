use Rattle.std.proofs.Common.{◌≡◌, get_or, ◌<◌, length, fold, sym, ap, ◌∙◌, rules}
use Rattle.std.specs.FinSet as set
use Rattle.group_view.specs.Leaves.{leaves_at}
use Rattle.group_view.proofs.Reaching.{leaves_more, all_more, here_so, own_at}
use Rattle.group_view.proofs.reach.leaves_in.Goals as goal

pub loop-number-preserved : goal.loop-number-preserved
loop-number-preserved c =
    let own = c.args.own.now in
    let ns = c.args.numbers.now in
    let i = c.loop-number.number-index in
    let within = c.loop-number-test.true in
    let v = c.index-own-number.result in
    let there : get_or own (get_or ns i 0) v ≡ v = search rules in
    let inside = here_so (λ n. n < length own) ns i 0 within c.loop-number.invariant.1 in
    let shows = c.deref.ensures.value ∙ sym (own_at own (get_or ns i 0) v inside there) in (
      leaves_more (leaves_at own) ns i c.loop-number.found _ _ within (c.in_ok-add_leaves.ensures ∙ ap (λ ls. fold set.insert c.loop-number.found ls) shows)
          c.loop-number.invariant.0,
      all_more _ c.args.numbers.now c.loop-number.number-index 0 c.loop-number-test.true c.loop-number.invariant.1,
    )
