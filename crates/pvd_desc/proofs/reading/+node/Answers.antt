use Rattle.std.proofs.Common.{◌≡◌, ◌∙◌, ◌<◌, ◌-◌, ◌+◌, ap, sym, rules, arith, Ok}
use Rattle.pvd_type.specs.Tree.{Tree}
use Rattle.std.proofs.lemmas.Result.{err_from_is_err_and}
use Rattle.std.proofs.lemmas.List.{map_push}
use Rattle.pvd_type.specs.declared.shape.Member.{Member}
use Rattle.pvd_type.specs.View.{shape_view}
use Rattle.pvd_desc.specs.Types.{laid}
use Rattle.pvd_desc.specs.Code.{element}
use Rattle.pvd_desc.specs.Reading.{fields_below, node_at}
use Rattle.pvd_desc.proofs.Chains.{fields_fails, fields_goes, fields_done, branch_fails, branch_is}
use Rattle.pvd_desc.proofs.Sound.{element_ok, parts_ok, below_ok, type_alone}
use Rattle.pvd_desc.proofs.reading.+node.Goals as goal

pub coded_element_at-defined-requires : goal.coded_element_at-defined-requires
coded_element_at-defined-requires t c =
    let level = 33 - c.args.room in
    let ok = element_ok c.args.order level (fields_below c.args.order c.args.room) (below_ok c.args.order c.args.room (omega (arith, c.requires.room)))
    c.args.element _ _ c.args.seen (laid c.args.base.now c.args.changed.now) c.in_ok-code.code _ _ c.in_ok-shape.ensures.value in
    type_alone level c.args.seen (shape_view c.in_ok-shape.shape) (omega (arith, c.requires.room)) ok.0

pub fields_at-returns-in_err-member-clause-value : goal.fields_at-returns-in_err-member-clause-value
fields_at-returns-in_err-member-clause-value t c =
    let p = err_from_is_err_and c.from_residual-in_err-member.result c.from_residual-in_err-member.ensures.1 in
    let left : 0 < c.args.count - c.loop.counter = omega (arith, c.loop-test.true) in
    let before : c.deref.result.now ≡ c.loop.members.items = search rules in
    let fails = rw before at c.in_err-member.ensures.value in
    rw (p.1, p.2) (fields_fails c.args.order (node_at c.args.order c.args.room) c.loop.members.items c.loop.seen (laid c.args.base.now c.loop.changed) c.loop.rest.now (c.args.count - c.loop.counter) c.in_err-member.field-0.0 _ left fails c.loop.invariant.same)

pub fields_at-loop-preserved : goal.fields_at-loop-preserved
fields_at-loop-preserved t c =
    let left : 0 < c.args.count - c.loop.counter = omega (arith, c.loop-test.true) in
    let before : c.deref.result.now ≡ c.loop.members.items = search rules in
    let member = rw before at c.in_ok-member.ensures.value in
    let next : c.args.count - c.loop.counter - 1 ≡ c.args.count - (c.loop.counter + 1) = omega arith in
    record {
      few = c.in_ok-member.ensures.few;
      known = rw (c.in_ok-push.ensures.items, map_push (λ (x : Member). x.name) c.loop.members.items c.in_ok-member.member) (rw before at c.in_ok-member.ensures.known);
      same = rw (c.in_ok-push.ensures.items, ← next) (fields_goes c.args.order (node_at c.args.order c.args.room) c.loop.members.items c.loop.seen (laid c.args.base.now c.loop.changed) c.loop.rest.now (c.args.count - c.loop.counter) _
          c.in_ok-member.member c.in_ok-member.more c.in_ok-member.after.now (laid c.args.base.now c.member_at.new.changed) left member c.loop.invariant.same);
    }

pub fields_at-returns-clause-value : goal.fields_at-returns-clause-value
fields_at-returns-clause-value t c =
    let none : c.args.count - c.loop.counter ≡ 0 = omega (arith, c.loop-test.false) in
    fields_done c.args.order (node_at c.args.order c.args.room) c.loop.members.items c.loop.seen (laid c.args.base.now c.loop.changed) c.loop.rest.now (c.args.count - c.loop.counter) _ none c.loop.invariant.same

pub branch_at-returns-in_err-members-clause-value : goal.branch_at-returns-in_err-members-clause-value
branch_at-returns-in_err-members-clause-value t c =
    let p = err_from_is_err_and c.from_residual-in_err-members.result c.from_residual-in_err-members.ensures.1 in
    rw (p.1, p.2) (branch_fails (element c.args.kind) c.args.order (33 - c.args.room) c.args.room c.args.seen (laid c.args.base.now c.args.changed.now) c.args.bytes.now _ c.in_ok-count.count _ c.in_ok-count.rest.now c.requires.room.0 c.in_ok-id.ensures c.in_ok-count.ensures
    c.in_err-members.field-0.0 c.in_err-members.ensures.value)

pub branch_at-returns-clause-value : goal.branch_at-returns-clause-value
branch_at-returns-clause-value t c =
    branch_is (element c.args.kind) c.args.order (33 - c.args.room) c.args.room c.args.seen (laid c.args.base.now c.args.changed.now) c.args.bytes.now _ c.in_ok-count.count _ c.in_ok-count.rest.now c.requires.room.0 c.in_ok-id.ensures c.in_ok-count.ensures
    _ _ _ _ c.in_ok-members.ensures.value
    ∙ ap (λ (t : Tree). Ok (t, c.in_ok-members.seen, c.in_ok-members.rest.now, laid c.args.base.now c.fields_at.new.changed)) (sym c.in_ok-branch_of.ensures)

pub coded_at-defined-requires : goal.coded_at-defined-requires
coded_at-defined-requires t c =
    let level = 33 - c.args.room in
    let ok = parts_ok c.args.order level (fields_below c.args.order c.args.room) (below_ok c.args.order c.args.room (omega (arith, c.requires.room)))
    c.in_ok-code.code _ c.args.seen (laid c.args.base.now c.args.changed.now) _ _ c.in_ok-shape.ensures.value in
    type_alone level c.args.seen (shape_view c.in_ok-shape.shape) (omega (arith, c.requires.room)) ok.0
