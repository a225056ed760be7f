use Rattle.std.proofs.Common.{◌≡◌, ◌++◌, ◌∙◌, sym, ap, get_or, rules}
use Rattle.pvd_type.specs.View.{shape_view}
use Rattle.pvd_type.proofs.Shapes.{unentered}
use Rattle.group_view.proofs.Walks.{nodes_more, lone_shown}
use Rattle.group_view.proofs.shapes.+nodes.Goals as goal

pub add_members-loop-part-preserved : goal.add_members-loop-part-preserved
add_members-loop-part-preserved t c =
    let ms = c.args.members.now in
    let m = c.part-item.result in
    let here : get_or ms c.loop-part.part-index m ≡ m = search rules in
    nodes_more c.args.member ms c.loop-part.part-index m c.loop-part.shown.items _ _ c.loop-part-test.true here c.in_ok-add_nodes.ensures c.loop-part.invariant

pub add_nodes-returns-in_ok-push-in_default : goal.add_nodes-returns-in_ok-push-in_default
add_nodes-returns-in_ok-push-in_default t c =
    let tree = shape_view c.args.shape.now in
    c.in_ok-push-in_default.ensures.items
    ∙ ap (λ xs. c.args.shown.now.items ++ xs) (sym (lone_shown c.args.member tree (unentered c.args.shape.now c.in_default.not-Struct)))
