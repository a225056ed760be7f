use Rattle.std.proofs.Common.{◌≡◌, ◌∙◌, ◌+◌, sym, ap, get_or, drop, rules, arith}
use Rattle.std.proofs.Math.ListN.{drop_of_length-le}
use Rattle.pvd_value.specs.Data.{Data, more, end}
use Rattle.pvd_value.specs.View.{row_view}
use Rattle.pvd_type.specs.View.{members_view}
use Rattle.pvd_value.specs.Blank.{blank_row, fixed_bytes_in}
use Rattle.pvd_value.proofs.Rows.{members_from, joined, joined_push, joined_end}
use Rattle.pvd_value.proofs.blanking.+blank.Goals as goal

pub blank_members-returns-clause-value : goal.blank_members-returns-clause-value
blank_members-returns-clause-value t c =
    let ms = c.args.members.now in
    let values = c.loop-member.values.items in
    let over = drop_of_length-le ms c.loop-member-test.false in
    let last : joined (row_view values) (blank_row (members_view (drop c.loop-member.member-index ms))) ≡ joined (row_view values) end = λ j. joined (row_view values) (blank_row (members_view (over j))) in
    sym (joined_end values) ∙ sym last ∙ c.loop-member.invariant.0

pub blank_members-loop-member-preserved : goal.blank_members-loop-member-preserved
blank_members-loop-member-preserved t c =
    let ms = c.args.members.now in
    let i = c.loop-member.member-index in
    let m = c.member-item.result in
    let at_m : get_or ms i m ≡ m = search rules in
    let rest_m = members_from ms i m c.loop-member-test.true at_m in
    let values = c.loop-member.values.items in
    let rest = blank_row (members_view (drop (i + 1) ms)) in
    let inv = rw rest_m at c.loop-member.invariant.0 in
    let spent = rw rest_m at c.loop-member.invariant.1 in (
      rw c.in_ok-push.ensures.items (joined_push values c.in_ok-blank_at.field-0 rest ∙ ap (λ (d : Data). joined (row_view values) (more d rest)) c.in_ok-blank_at.ensures.value ∙ inv),
      omega (arith, c.in_ok-blank_at.ensures.spent, spent),
    )

pub blank_members-returns-clause-spent : goal.blank_members-returns-clause-spent
blank_members-returns-clause-spent t c =
    let ms = c.args.members.now in
    let over = ap (λ l. fixed_bytes_in (members_view l)) (drop_of_length-le ms c.loop-member-test.false) in
    omega (arith, over, c.loop-member.invariant.1)
