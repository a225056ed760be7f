use Rattle.std.proofs.Common.{◌≡◌, ◌+◌, ◌<◌, length, get_or, drop, ◌∙◌, sym, rules}
use Rattle.std.specs.Str.{bytes_eq}
use Rattle.pvd_type.specs.View.{member_view, members_view}
use Rattle.pvd_type.specs.Same.{same_tree, same_fields}
use Rattle.pvd_type.proofs.Shapes.{other_plain, other_bound_text, other_list, other_struct, other_union, other_struct_list, other_union_list}
use Rattle.pvd_type.proofs.Members.{member_from, unequal_members, same_first, other_first}
use Rattle.pvd_type.proofs.same.+same.Goals as goal

pub same_members-returns-then-a-b : goal.same_members-returns-then-a-b
same_members-returns-then-a-b t c = sym (unequal_members c.args.a.now c.args.b.now c.if-a-b.true)

pub same_members-returns-then-not-same_member : goal.same_members-returns-then-not-same_member
same_members-returns-then-not-same_member t c =
    let xs = c.args.a.now in
    let ys = c.args.b.now in
    let i = c.loop-i.i in
    let x = c.index-a-i.result in
    let y = c.index-b-i.result in
    let in_xs : i < length xs = search rules in
    let in_ys : i < length ys = search rules in
    let at_x : get_or xs i x ≡ x = search rules in
    let at_y : get_or ys i y ≡ y = search rules in
    let rest_x = member_from xs i x in_xs at_x in
    let rest_y = member_from ys i y in_ys at_y in
    let inv = rw (rest_x, rest_y) at c.loop-i.invariant in
    let other = other_first (bytes_eq (member_view x).0 (member_view y).0) (same_tree (member_view x).1 (member_view y).1) (same_fields (members_view (drop (i + 1) xs)) (members_view (drop (i + 1) ys)))
    c.same_member.result c.same_member.ensures c.if-not-same_member.true in
    sym other ∙ inv

pub same_members-loop-i-preserved : goal.same_members-loop-i-preserved
same_members-loop-i-preserved t c =
    let xs = c.args.a.now in
    let ys = c.args.b.now in
    let i = c.loop-i.i in
    let x = c.index-a-i.result in
    let y = c.index-b-i.result in
    let in_xs : i < length xs = search rules in
    let in_ys : i < length ys = search rules in
    let at_x : get_or xs i x ≡ x = search rules in
    let at_y : get_or ys i y ≡ y = search rules in
    let rest_x = member_from xs i x in_xs at_x in
    let rest_y = member_from ys i y in_ys at_y in
    let inv = rw (rest_x, rest_y) at c.loop-i.invariant in
    let same = same_first (bytes_eq (member_view x).0 (member_view y).0) (same_tree (member_view x).1 (member_view y).1) (same_fields (members_view (drop (i + 1) xs)) (members_view (drop (i + 1) ys)))
    c.same_member.result c.same_member.ensures c.if-not-same_member.false in
    sym same ∙ inv

pub same_shape-returns-in_default : goal.same_shape-returns-in_default
same_shape-returns-in_default t c = rw c.in_default.is-0 (other_plain c.in_default.field-0-0 c.args.b.now c.in_default.not-Plain-1)

pub same_shape-returns-in_default-2 : goal.same_shape-returns-in_default-2
same_shape-returns-in_default-2 t c = rw c.in_default.is-0 (other_bound_text c.in_default.field-0-0 c.args.b.now c.in_default.not-BoundText-1)

pub same_shape-returns-in_default-3 : goal.same_shape-returns-in_default-3
same_shape-returns-in_default-3 t c = rw c.in_default.is-0 (other_list c.in_default.field-0-0 c.in_default.field-1-0 c.args.b.now c.in_default.not-List-1)

pub same_shape-returns-in_default-4 : goal.same_shape-returns-in_default-4
same_shape-returns-in_default-4 t c = rw c.in_default.is-0 (other_struct c.in_default.field-0-0 c.args.b.now c.in_default.not-Struct-1)

pub same_shape-returns-in_default-5 : goal.same_shape-returns-in_default-5
same_shape-returns-in_default-5 t c = rw c.in_default.is-0 (other_union c.in_default.field-0-0 c.args.b.now c.in_default.not-Union-1)

pub same_shape-returns-in_default-6 : goal.same_shape-returns-in_default-6
same_shape-returns-in_default-6 t c = rw c.in_default.is-0 (other_struct_list c.in_default.field-0-0 c.args.b.now c.in_default.not-StructList-1)

pub same_shape-returns-in_default-7 : goal.same_shape-returns-in_default-7
same_shape-returns-in_default-7 t c = rw c.in_default.is-0 (other_union_list c.in_default.field-0-0 c.args.b.now c.in_default.not-UnionList-1)
