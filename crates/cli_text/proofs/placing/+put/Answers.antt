use Rattle.std.proofs.Common.{◌≡◌, ◌∙◌, ◌+◌, ◌-◌, ◌*◌, ◌<◌, ◌≤◌, min, List, Result, refl, sym, subst, ap, length, get_or, drop, rules, arith}
use Rattle.std.specs.Vec.{vec_len}
use Rattle.std.proofs.lemmas.List.{take_rest}
use Rattle.pvd_type.proofs.Sizes.{measured_first, measured_inside}
use Rattle.pvd_type.proofs.Counts.{nodes_within}
use Rattle.pvd_type.proofs.Shapes.{unentered}
use Rattle.pvd_type.proofs.Walks.{struct_is}
use Rattle.pvd_type.specs.Tree.{Tree, node, struct}
use Rattle.pvd_type.specs.View.{shape_view, members_view}
use Rattle.pvd_type.specs.Numbers.{numbered, numbered_fields, nodes, nodes_in, IsMeasured}
use Rattle.pvd_type.specs.declared.shape.Member.{Member}
use Rattle.pvd_type.specs.declared.shape.Node.{Node, out-Node}
use Rattle.pvd_value.specs.Data.{Data, members}
use Rattle.pvd_value.specs.View.{view, row_view}
use Rattle.pvd_value.specs.Leaves.{row_in}
use Rattle.pvd_value.proofs.Rows.{members_from, item}
use Rattle.cli_text.specs.declared.fault.Cause.{Cause}
use Rattle.cli_text.specs.Faults.{Makes}
use Rattle.cli_text.specs.Words.{made}
use Rattle.cli_text.specs.Put.{give, put_at, put_among}
use Rattle.cli_text.proofs.PutRows.{put_leaf, made_all, put_past, put_on, put_in}
use Rattle.cli_text.proofs.placing.+put.Goals as goal

pub put_row-split_size-size-requires-clause-within : goal.put_row-split_size-size-requires-clause-within
put_row-split_size-size-requires-clause-within t c =
    let ms = c.args.members.now in
    let i = c.loop-i.i in
    let m = c.index-members-i.result in
    let few : i < min (vec_len c.args.values.now) (length ms) = search rules in
    let at_m : get_or ms i m ≡ m = search rules in
    let rest_m = members_from ms i m (omega (arith, few)) at_m in
    let left = numbered_fields (members_view (drop (i + 1) ms)) in
    let measures = measured_first c.loop-i.sizes.now (shape_view m.shape) left (rw rest_m at c.loop-i.invariant.measured) in
    omega (arith, measures.size, measures.within)

pub put_row-split_size-size-requires-clause-some : goal.put_row-split_size-size-requires-clause-some
put_row-split_size-size-requires-clause-some t c =
    let ms = c.args.members.now in
    let i = c.loop-i.i in
    let m = c.index-members-i.result in
    let few : i < min (vec_len c.args.values.now) (length ms) = search rules in
    let at_m : get_or ms i m ≡ m = search rules in
    let rest_m = members_from ms i m (omega (arith, few)) at_m in
    let left = numbered_fields (members_view (drop (i + 1) ms)) in
    let measures = measured_first c.loop-i.sizes.now (shape_view m.shape) left (rw rest_m at c.loop-i.invariant.measured) in
    measures.some

pub put_row-put_below-requires : goal.put_row-put_below-requires
put_row-put_below-requires t c =
    let ms = c.args.members.now in
    let i = c.loop-i.i in
    let m = c.index-members-i.result in
    let few : i < min (vec_len c.args.values.now) (length ms) = search rules in
    let in_ms : i < length ms = omega (arith, few) in
    let at_m : get_or ms i m ≡ m = search rules in
    let rest_m = members_from ms i m in_ms at_m in
    let left = numbered_fields (members_view (drop (i + 1) ms)) in
    let measures = measured_first c.loop-i.sizes.now (shape_view m.shape) left (rw rest_m at c.loop-i.invariant.measured) in
    (omega (arith, nodes_within ms i m in_ms at_m, c.decreases), measures.here)

pub put_row-loop-i-init : goal.put_row-loop-i-init
put_row-loop-i-init t c = record {
  same = made_all (put_among (give c.args.word.way c.args.word.choices.now c.args.word.first c.args.word.text.now) c.args.number (members_view c.args.members.now) (row_view c.args.values.now.items));
  measured = c.requires;
  kept = refl;
}

pub put_row-loop-i-preserved : goal.put_row-loop-i-preserved
put_row-loop-i-preserved t c =
    let ms = c.args.members.now in
    let vs = c.loop-i.values.items in
    let i = c.loop-i.i in
    let m = c.index-members-i.result in
    let few : i < min (vec_len c.args.values.now) (length ms) = search rules in
    let in_ms : i < length ms = omega (arith, few) in
    let in_vs : i < length vs = omega (arith, few, c.args.values.now.ok, ap length c.loop-i.invariant.kept) in
    let here = item vs i in_vs in
    let at_m : get_or ms i m ≡ m = search rules in
    let rest_m = members_from ms i m in_ms at_m in
    let left = numbered_fields (members_view (drop (i + 1) ms)) in
    let measures = measured_first c.loop-i.sizes.now (shape_view m.shape) left (rw rest_m at c.loop-i.invariant.measured) in
    let size : c.split_size-size.result.0 ≡ length (numbered (shape_view m.shape)) = c.split_size-size.ensures.size ∙ measures.size in
    record {
      same = put_on (give c.args.word.way c.args.word.choices.now c.args.word.first c.args.word.text.now) _ vs ms i c.loop-i.left c.split_size-size.result.0 here.0 m in_vs in_ms here.1 at_m size c.if-left-size.false c.loop-i.invariant.same;
      measured = rw (c.split_size-size.ensures.after, measures.size) measures.after;
      kept = c.loop-i.invariant.kept;
    }

pub put_row-returns-then-left-size : goal.put_row-returns-then-left-size
put_row-returns-then-left-size t c =
    let ms = c.args.members.now in
    let vs = c.loop-i.values.items in
    let i = c.loop-i.i in
    let m = c.index-members-i.result in
    let v = c.index_mut.result.now in
    let few : i < min (vec_len c.args.values.now) (length ms) = search rules in
    let in_ms : i < length ms = omega (arith, few) in
    let in_vs : i < length vs = omega (arith, few, c.args.values.now.ok, ap length c.loop-i.invariant.kept) in
    let at_v : get_or vs i v ≡ v = sym c.index_mut.ensures.value in
    let at_m : get_or ms i m ≡ m = search rules in
    let rest_m = members_from ms i m in_ms at_m in
    let left = numbered_fields (members_view (drop (i + 1) ms)) in
    let measures = measured_first c.loop-i.sizes.now (shape_view m.shape) left (rw rest_m at c.loop-i.invariant.measured) in
    let size : c.split_size-size.result.0 ≡ length (numbered (shape_view m.shape)) = c.split_size-size.ensures.size ∙ measures.size in
    put_in (give c.args.word.way c.args.word.choices.now c.args.word.first c.args.word.text.now) _ vs ms i c.loop-i.left c.split_size-size.result.0 v m c.put_below.new.value c.put_below.result
    in_vs in_ms at_v at_m size c.if-left-size.true c.loop-i.invariant.same c.put_below.ensures

pub put_row-returns : goal.put_row-returns
put_row-returns t c =
    let past : min (vec_len c.args.values.now) (length c.args.members.now) ≤ c.loop-i.i = search rules in
    put_past (give c.args.word.way c.args.word.choices.now c.args.word.first c.args.word.text.now) _ c.loop-i.left c.loop-i.values.items c.args.members.now c.loop-i.i
    (omega (arith, past, c.args.values.now.ok, ap length c.loop-i.invariant.kept)) c.loop-i.invariant.same

pub put_below-returns-in_default : goal.put_below-returns-in_default
put_below-returns-in_default t c =
    let alone = unentered c.args.shape.now c.in_default.not-Struct in
    let f = give c.args.word.way c.args.word.choices.now c.args.word.first c.args.word.text.now in
    let same = put_leaf f c.args.number (shape_view c.args.shape.now) (view c.args.value.now) alone in
    subst (λ (r : Result Data Cause). Makes c.give_leaf.result (view c.give_leaf.new.leaf) r) (sym same) c.give_leaf.ensures

pub put_below-put_members-requires : goal.put_below-put_members-requires
put_below-put_members-requires t c =
    let n = out-Node c.in-Struct.node.value in
    let listed : c.deref-in-Struct.result.now ≡ n.members.items = c.deref-in-Struct.ensures.value ∙ ap (λ (x : Node). (out-Node x).members.items) c.deref.ensures in
    let fs = members_view n.members.items in
    let is : shape_view c.args.shape.now ≡ node struct n.id fs = ap shape_view c.in-Struct.is ∙ struct_is c.in-Struct.node in
    let inside = measured_inside c.args.sizes.now n.id fs (subst (λ (x : Tree). IsMeasured c.args.sizes.now (numbered x)) is c.requires) in
    let fewer : 3 * nodes_in (members_view c.deref-in-Struct.result.now) + 2 < 3 * nodes (shape_view c.args.shape.now) =
    omega (arith, ap nodes is, ap (λ (xs : List Member). nodes_in (members_view xs)) listed) in
    (omega (arith, fewer, c.decreases), rw (listed, take_rest c.args.sizes.now 1) inside)

pub put_below-returns-in-Struct : goal.put_below-returns-in-Struct
put_below-returns-in-Struct t c =
    let n = out-Node c.in-Struct.node.value in
    let listed : c.deref-in-Struct.result.now ≡ n.members.items = c.deref-in-Struct.ensures.value ∙ ap (λ (x : Node). (out-Node x).members.items) c.deref.ensures in
    let fs = members_view n.members.items in
    let is : shape_view c.args.shape.now ≡ node struct n.id fs = ap shape_view c.in-Struct.is ∙ struct_is c.in-Struct.node in
    let f = give c.args.word.way c.args.word.choices.now c.args.word.first c.args.word.text.now in
    let v = view c.args.value.now in
    let below : c.saturating_sub.result ≡ c.args.number - 1 = c.saturating_sub.ensures in
    let same : made members (put_among f c.saturating_sub.result (members_view c.deref-in-Struct.result.now) (row_in v)) ≡ put_at f c.args.number (shape_view c.args.shape.now) v =
    (λ j. made members (put_among f (below j) (members_view (listed j)) (row_in v))) ∙ sym (ap (λ (x : Tree). put_at f c.args.number x v) is) in
    subst (λ (r : Result Data Cause). Makes c.put_members.result (view c.put_members.new.value) r) same c.put_members.ensures
