use Rattle.std.proofs.Common.{◌≡◌, ◌∙◌, sym, ap, subst, get_or, rules, arith}
use Rattle.pvd_value.specs.View.{row_view}
use Rattle.pvd_value.proofs.Rows.{joined, joined_end}
use Rattle.group_view.specs.Groups.{HasState}
use Rattle.group_view.specs.Seen.{branch_seen, slots_seen}
use Rattle.group_view.specs.Slots.{level, EachShown, EachOfShown}
use Rattle.group_view.specs.Views.{slots_shown}
use Rattle.group_view.proofs.Walks.{slots_over, level_is, size_of, sizes_of, size_within}
use Rattle.group_view.proofs.Viewing.{first_ready, rest_ready, values_more}
use Rattle.group_view.proofs.views.+views.Goals as goal

pub values_of-value_of-requires : goal.values_of-value_of-requires
values_of-value_of-requires t c =
    let ns = c.args.slots.now in
    let n = c.named-item.result in
    let here : get_or ns c.loop-named.named-index n ≡ n = search rules in
    (omega (arith, size_within ns c.loop-named.named-index n c.loop-named-test.true here, c.decreases), first_ready _ ns c.loop-named.named-index n c.loop-named-test.true here c.loop-named.invariant.ready)

pub values_of-loop-named-preserved : goal.values_of-loop-named-preserved
values_of-loop-named-preserved t c =
    let ns = c.args.slots.now in
    let n = c.named-item.result in
    let here : get_or ns c.loop-named.named-index n ≡ n = search rules in
    record {
      values = values_more c.args.states.now ns c.loop-named.named-index n c.loop-named-test.true here c.loop-named.values.items _ c.in_ok-value_of.field-0 _
          c.in_ok-push.ensures.items c.in_ok-value_of.ensures c.loop-named.invariant.values;
      ready = rest_ready _ ns c.loop-named.named-index n c.loop-named-test.true here c.loop-named.invariant.ready;
    }

pub values_of-returns : goal.values_of-returns
values_of-returns t c =
    let values = c.loop-named.values.items in
    sym (joined_end values)
    ∙ sym (ap (λ ss. joined (row_view values) (slots_shown c.args.states.now ss)) (slots_over c.args.slots.now c.loop-named.named-index c.loop-named-test.false))
    ∙ c.loop-named.invariant.values

pub value_of-values_of-requires : goal.value_of-values_of-requires
value_of-values_of-requires t c =
    let ns = c.in-Level.slots.items in
    let is : branch_seen c.args.branch.now ≡ level c.in-Level.field-0 (slots_seen ns) = ap branch_seen c.in-Level.is ∙ level_is c.in-Level.field-0 c.in-Level.slots in
    let same : slots_seen ns ≡ slots_seen c.deref.result.now = sym (ap slots_seen c.deref.ensures.value) in (
      omega (arith, c.decreases, ap size_of is, ap sizes_of same),
      subst (EachOfShown (λ s. HasState c.args.states.now s.link)) same (subst (EachShown (λ s. HasState c.args.states.now s.link)) is c.requires),
    )
