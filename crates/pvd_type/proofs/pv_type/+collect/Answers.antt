use Rattle.std.proofs.Common.{◌≡◌, ◌+◌, get_or, drop, fold, length, ◌∙◌, sym, ap, arith, rules}
use Rattle.std.specs.FinSet as set
use Rattle.std.proofs.lemmas.List.{length-append}
use Rattle.pvd_type.specs.View.{shape_view, members_view}
use Rattle.pvd_type.specs.Numbers.{numbered, numbered_fields}
use Rattle.pvd_type.proofs.At.{lone, lone_leaf}
use Rattle.pvd_type.proofs.Shapes.{unentered}
use Rattle.pvd_type.proofs.Walks.{members_from}
use Rattle.pvd_type.proofs.Leaves.{collected_more}
use Rattle.pvd_type.proofs.pv_type.+collect.Goals as goal

pub collect_among-loop-member-preserved : goal.collect_among-loop-member-preserved
collect_among-loop-member-preserved t c =
    let ms = c.args.members.now in
    let i = c.loop-member.member-index in
    let m = c.member-item.result in
    let here : get_or ms i m ≡ m = search rules in
    let rest = members_from ms i m c.loop-member-test.true here in
    let left = numbered_fields (members_view (drop (i + 1) ms)) in
    let mine = numbered (shape_view m.shape) in
    record {
      same = rw (c.in_ok-next.ensures.next, c.in_ok-next.ensures.leaves) (sym (collected_more c.loop-member.found c.loop-member.next mine left) ∙ (rw rest at c.loop-member.invariant.same));
      total = omega (arith, c.in_ok-next.ensures.next, (rw rest at c.loop-member.invariant.total), length-append mine left);
    }

pub collect-returns-in_ok-insert-in_default : goal.collect-returns-in_ok-insert-in_default
collect-returns-in_ok-insert-in_default t c =
    let tree = shape_view c.args.shape.now in
    let is = unentered c.args.shape.now c.in_default.not-Struct in
    record {
      leaves = c.in_ok-insert-in_default.ensures.ok ∙ ap (fold set.insert c.args.found.now) (sym (lone_leaf tree c.args.number is));
      next = ap (λ n. c.args.number + n) (sym (ap length (lone tree is)));
    }
