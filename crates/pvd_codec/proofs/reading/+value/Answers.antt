use Rattle.std.proofs.Common.{◌≡◌, ◌<◌, ◌+◌, ◌∙◌, List, get_or, drop, map, sym, ap, arith, rules, Some, None, Ok, option_map}
use Rattle.std.proofs.lemmas.Result.{err_from_is_err_and}
use Rattle.std.proofs.lemmas.List.{map_push}
use Rattle.pva_wire.specs.Reading.{size_at}
use Rattle.pvd_type.specs.Tree.{Tree, leaf, variant_list, node, struct_list, union_list}
use Rattle.pvd_type.specs.declared.shape.Node.{Node, out-Node}
use Rattle.pvd_type.specs.declared.shape.Member.{Member}
use Rattle.pvd_type.specs.View.{shape_view, members_view}
use Rattle.pvd_type.proofs.Counts.{nodes_within}
use Rattle.pvd_type.proofs.Shapes.{struct_list_is, union_list_is, variant_list_is}
use Rattle.pvd_type.proofs.Walks.{members_from}
use Rattle.pvd_value.specs.Data.{Data, selected, carried}
use Rattle.pvd_value.specs.View.{view, row_view, boxed_view, parcel_view}
use Rattle.pvd_value.proofs.Rows.{view_selected, view_carried, view_structs, view_unions, view_variants}
use Rattle.pvd_desc.specs.Types.{laid}
use Rattle.pvd_desc.specs.Reading.{desc_at}
use Rattle.pvd_codec.specs.Reading.{State, Parcel, described_stop, items_at, flagged, row_at, element_at, pair_view, parcel_at}
use Rattle.pvd_codec.proofs.Loop.{goes_on, ends, is_done}
use Rattle.pvd_codec.proofs.Steps.{nodes_at, row_ends, row_goes, row_push, row_done, none_left, described_fails, structs_fail, structs_are, unions_fail, unions_are, variants_are, variant_is, union_bad, union_fails, union_is, parcel_none, parcel_fails, parcel_null, parcel_value_fails, parcel_is}
use Rattle.pvd_codec.proofs.reading.+value.Goals as goal

pub elements_at-returns-in_err-value : goal.elements_at-returns-in_err-value
elements_at-returns-in_err-value t c =
    let item = element_at c.args.left c.args.order c.args.element (members_view c.args.members.now) in
    let p = err_from_is_err_and c.from_residual-in_err-value.result c.from_residual-in_err-value.ensures.1 in
    rw (p.1, p.2) (ends item c.in_err-value.field-0.0 (map (option_map boxed_view) c.loop.values.items) c.args.count c.loop.counter (c.loop.rest.now, laid c.args.base.now c.loop.changed)
    (items_at item c.args.count (c.args.bytes.now, laid c.args.base.now c.args.changed.now)) c.loop-test.true c.in_err-value.ensures c.loop.invariant)

pub elements_at-loop-preserved : goal.elements_at-loop-preserved
elements_at-loop-preserved t c =
    let item = element_at c.args.left c.args.order c.args.element (members_view c.args.members.now) in
    rw (c.in_ok-push.ensures.items, map_push (option_map boxed_view) c.loop.values.items c.in_ok-value.value)
    (goes_on item (map (option_map boxed_view) c.loop.values.items) c.args.count c.loop.counter (c.loop.rest.now, laid c.args.base.now c.loop.changed) (option_map boxed_view c.in_ok-value.value)
    (c.in_ok-value.after.now, laid c.args.base.now c.element_at.new.changed) (items_at item c.args.count (c.args.bytes.now, laid c.args.base.now c.args.changed.now)) c.loop-test.true c.in_ok-value.ensures c.loop.invariant)

pub elements_at-returns : goal.elements_at-returns
elements_at-returns t c =
    let item = element_at c.args.left c.args.order c.args.element (members_view c.args.members.now) in
    is_done item (map (option_map boxed_view) c.loop.values.items) c.args.count c.loop.counter (c.loop.rest.now, laid c.args.base.now c.loop.changed)
    (items_at item c.args.count (c.args.bytes.now, laid c.args.base.now c.args.changed.now)) c.loop-test.false c.loop.invariant

pub parcels_at-returns-in_err-value : goal.parcels_at-returns-in_err-value
parcels_at-returns-in_err-value t c =
    let item = flagged (parcel_at c.args.left c.args.order) in
    let p = err_from_is_err_and c.from_residual-in_err-value.result c.from_residual-in_err-value.ensures.1 in
    rw (p.1, p.2) (ends item c.in_err-value.field-0.0 (map (option_map parcel_view) c.loop.values.items) c.args.count c.loop.counter (c.loop.rest.now, laid c.args.base.now c.loop.changed)
    (items_at item c.args.count (c.args.bytes.now, laid c.args.base.now c.args.changed.now)) c.loop-test.true c.in_err-value.ensures c.loop.invariant)

pub parcels_at-loop-preserved : goal.parcels_at-loop-preserved
parcels_at-loop-preserved t c =
    let item = flagged (parcel_at c.args.left c.args.order) in
    rw (c.in_ok-push.ensures.items, map_push (option_map parcel_view) c.loop.values.items c.in_ok-value.value)
    (goes_on item (map (option_map parcel_view) c.loop.values.items) c.args.count c.loop.counter (c.loop.rest.now, laid c.args.base.now c.loop.changed) (option_map parcel_view c.in_ok-value.value)
    (c.in_ok-value.after.now, laid c.args.base.now c.flagged_at.new.changed) (items_at item c.args.count (c.args.bytes.now, laid c.args.base.now c.args.changed.now)) c.loop-test.true c.in_ok-value.ensures c.loop.invariant)

pub parcels_at-returns : goal.parcels_at-returns
parcels_at-returns t c =
    let item = flagged (parcel_at c.args.left c.args.order) in
    is_done item (map (option_map parcel_view) c.loop.values.items) c.args.count c.loop.counter (c.loop.rest.now, laid c.args.base.now c.loop.changed)
    (items_at item c.args.count (c.args.bytes.now, laid c.args.base.now c.args.changed.now)) c.loop-test.false c.loop.invariant

pub row_at-value_at-requires : goal.row_at-value_at-requires
row_at-value_at-requires t c =
    let ms = c.args.members.now in
    let m = c.member-item.result in
    let here : get_or ms c.loop-member.member-index m ≡ m = search rules in
    let small = nodes_within ms c.loop-member.member-index m c.loop-member-test.true here in
    (omega (arith, small, c.decreases), omega (arith, small, c.requires))

pub row_at-returns-in_err-value : goal.row_at-returns-in_err-value
row_at-returns-in_err-value t c =
    let ms = c.args.members.now in
    let i = c.loop-member.member-index in
    let m = c.member-item.result in
    let here : get_or ms i m ≡ m = search rules in
    let rest = members_from ms i m c.loop-member-test.true here in
    let p = err_from_is_err_and c.from_residual-in_err-value.result c.from_residual-in_err-value.ensures.1 in
    rw (p.1, p.2) (row_ends c.args.order (parcel_at c.args.left c.args.order) (row_view c.loop-member.values.items) m.name (shape_view m.shape) (members_view (drop (i + 1) ms)) (c.loop-member.rest.now, laid c.args.base.now c.loop-member.changed)
    c.in_err-value.field-0.0 (row_at c.args.left c.args.order (members_view ms) (c.args.bytes.now, laid c.args.base.now c.args.changed.now)) c.in_err-value.ensures (rw rest at c.loop-member.invariant))

pub row_at-loop-member-preserved : goal.row_at-loop-member-preserved
row_at-loop-member-preserved t c =
    let ms = c.args.members.now in
    let i = c.loop-member.member-index in
    let m = c.member-item.result in
    let here : get_or ms i m ≡ m = search rules in
    let rest = members_from ms i m c.loop-member-test.true here in
    let after = laid c.args.base.now c.value_at.new.changed in
    rw c.in_ok-push.ensures.items (row_push c.loop-member.values.items c.in_ok-value.value (row_at c.args.left c.args.order (members_view (drop (i + 1) ms)) (c.in_ok-value.after.now, after))
    ∙ row_goes c.args.order (parcel_at c.args.left c.args.order) (row_view c.loop-member.values.items) m.name (shape_view m.shape) (members_view (drop (i + 1) ms)) (c.loop-member.rest.now, laid c.args.base.now c.loop-member.changed)
    (view c.in_ok-value.value) (c.in_ok-value.after.now, after) (row_at c.args.left c.args.order (members_view ms) (c.args.bytes.now, laid c.args.base.now c.args.changed.now)) c.in_ok-value.ensures (rw rest at c.loop-member.invariant))

pub row_at-returns : goal.row_at-returns
row_at-returns t c =
    let ms = c.args.members.now in
    let over = none_left ms c.loop-member.member-index c.loop-member-test.false in
    row_done c.args.order (parcel_at c.args.left c.args.order) c.loop-member.values.items (c.loop-member.rest.now, laid c.args.base.now c.loop-member.changed)
    (row_at c.args.left c.args.order (members_view ms) (c.args.bytes.now, laid c.args.base.now c.args.changed.now)) (rw over at c.loop-member.invariant)

pub union_at-value_at-requires : goal.union_at-value_at-requires
union_at-value_at-requires t c =
    let small = nodes_at (members_view c.args.members.now) c.in-Some.selector (shape_view c.in-Some-member_shape.shape.now) (sym c.in-Some-member_shape.ensures) in
    (omega (arith, small, c.decreases), omega (arith, small, c.requires))

pub union_at-returns-in_err-value-in-Some-member_shape : goal.union_at-returns-in_err-value-in-Some-member_shape
union_at-returns-in_err-value-in-Some-member_shape t c =
    let p = err_from_is_err_and c.from_residual-in_err-value-in-Some-member_shape.result c.from_residual-in_err-value-in-Some-member_shape.ensures.1 in
    let size : size_at c.args.order c.args.bytes.now ≡ Ok (Some c.in-Some.selector, c.in_ok-size.rest.now) = rw (← c.in-Some.is) c.in_ok-size.ensures.value in
    rw (p.1, p.2) (union_fails c.args.order (parcel_at c.args.left c.args.order) (members_view c.args.members.now) c.args.bytes.now c.in_ok-size.rest.now (laid c.args.base.now c.args.changed.now) c.in-Some.selector size
    c.in_err-value-in-Some-member_shape.field-0.0 (shape_view c.in-Some-member_shape.shape.now) (sym c.in-Some-member_shape.ensures) c.in_err-value-in-Some-member_shape.ensures)

pub union_at-returns-in-None : goal.union_at-returns-in-None
union_at-returns-in-None t c =
    let size : size_at c.args.order c.args.bytes.now ≡ Ok (Some c.in-Some.selector, c.in_ok-size.rest.now) = rw (← c.in-Some.is) c.in_ok-size.ensures.value in
    union_bad c.args.order (parcel_at c.args.left c.args.order) (members_view c.args.members.now) c.args.bytes.now c.in_ok-size.rest.now (laid c.args.base.now c.args.changed.now) c.in-Some.selector size (sym c.in-None.ensures)

pub union_at-returns-in_ok-value-in-Some-member_shape-2 : goal.union_at-returns-in_ok-value-in-Some-member_shape-2
union_at-returns-in_ok-value-in-Some-member_shape-2 t c =
    let n = c.in-Some.selector in
    let made = c.in_ok-value-in-Some-member_shape-2.value in
    let after : State = (c.in_ok-value-in-Some-member_shape.rest.now, laid c.args.base.now c.value_at.new.changed) in
    let size : size_at c.args.order c.args.bytes.now ≡ Ok (Some n, c.in_ok-size.rest.now) = rw (← c.in-Some.is) c.in_ok-size.ensures.value in
    let shown : view c.in_ok-value-in-Some-member_shape.value ≡ view made.value = ap view (sym c.in_ok-value-in-Some-member_shape-2.ensures.ok) in
    union_is c.args.order (parcel_at c.args.left c.args.order) (members_view c.args.members.now) c.args.bytes.now c.in_ok-size.rest.now (laid c.args.base.now c.args.changed.now) n size
    (shape_view c.in-Some-member_shape.shape.now) (view c.in_ok-value-in-Some-member_shape.value) after (sym c.in-Some-member_shape.ensures) c.in_ok-value-in-Some-member_shape.ensures
    ∙ ap (λ (d : Data). Ok (d, after)) (ap (selected n) shown ∙ sym (view_selected n made))

pub parcel_at-returns-then-left-eq0 : goal.parcel_at-returns-then-left-eq0
parcel_at-returns-then-left-eq0 t c = parcel_none c.args.order c.args.left (c.args.bytes.now, laid c.args.base.now c.args.changed.now) c.if-left-eq0.true

pub parcel_at-returns-in_err-ty : goal.parcel_at-returns-in_err-ty
parcel_at-returns-in_err-ty t c =
    let p = err_from_is_err_and c.from_residual.result c.from_residual.ensures.1 in
    let above : 0 < c.args.left = search rules in
    let before = laid c.args.base.now c.args.changed.now in
    rw (p.1, p.2) (parcel_fails c.args.order (described_stop c.in_err-ty.field-0.0) c.args.left (c.args.bytes.now, before) above
    (described_fails c.in_err-ty.field-0.0 (desc_at c.args.order before c.args.bytes.now) c.in_err-ty.ensures))

pub parcel_at-returns-in_default : goal.parcel_at-returns-in_default
parcel_at-returns-in_default t c =
    let above : 0 < c.args.left = search rules in
    let desc : desc_at c.args.order (laid c.args.base.now c.args.changed.now) c.args.bytes.now ≡ Ok (None, c.in_ok-ty.rest.now, laid c.args.base.now c.desc_within.new.changed) = rw (← c.in_default.is) c.in_ok-ty.ensures in
    parcel_null c.args.order c.args.left (c.args.bytes.now, laid c.args.base.now c.args.changed.now) c.in_ok-ty.rest.now (laid c.args.base.now c.desc_within.new.changed) above desc

pub parcel_at-returns-in_err-value : goal.parcel_at-returns-in_err-value
parcel_at-returns-in_err-value t c =
    let p = err_from_is_err_and c.from_residual-in_err-value.result c.from_residual-in_err-value.ensures.1 in
    let above : 0 < c.args.left = search rules in
    let ty : Tree = c.in-Some.ty in
    let desc : desc_at c.args.order (laid c.args.base.now c.args.changed.now) c.args.bytes.now ≡ Ok (Some ty, c.in_ok-ty.rest.now, laid c.args.base.now c.desc_within.new.changed) = rw (← c.in-Some.is) c.in_ok-ty.ensures in
    let fails = rw c.shape.ensures.tree at c.in_err-value.ensures in
    rw (p.1, p.2) (parcel_value_fails c.args.order c.args.left (c.args.bytes.now, laid c.args.base.now c.args.changed.now) c.in_ok-ty.rest.now (laid c.args.base.now c.desc_within.new.changed) c.in_err-value.field-0.0 ty above desc fails)

pub parcel_at-returns : goal.parcel_at-returns
parcel_at-returns t c =
    let above : 0 < c.args.left = search rules in
    let ty : Tree = c.in-Some.ty in
    let desc : desc_at c.args.order (laid c.args.base.now c.args.changed.now) c.args.bytes.now ≡ Ok (Some ty, c.in_ok-ty.rest.now, laid c.args.base.now c.desc_within.new.changed) = rw (← c.in-Some.is) c.in_ok-ty.ensures in
    let value = rw c.shape.ensures.tree at c.in_ok-value.ensures in
    parcel_is c.args.order c.args.left (c.args.bytes.now, laid c.args.base.now c.args.changed.now) c.in_ok-ty.rest.now (laid c.args.base.now c.desc_within.new.changed) ty (view c.in_ok-value.value)
    (c.in_ok-value.rest.now, laid c.args.base.now c.value_at.new.changed) above desc value

pub variant_at-returns : goal.variant_at-returns
variant_at-returns t c =
    let ty : Tree = c.in-Some.ty in
    let made = c.in_ok-value.value in
    let after : State = (c.in_ok-parcel.rest.now, laid c.args.base.now c.parcel_at.new.changed) in
    let pair : option_map pair_view c.in_ok-parcel.parcel ≡ Some (ty, view c.in-Some.value) = search rules in
    let parcel : parcel_at c.args.left c.args.order (c.args.bytes.now, laid c.args.base.now c.args.changed.now) ≡ Ok (Some (ty, view c.in-Some.value), after) = c.in_ok-parcel.ensures ∙ ap (λ (o : Parcel). Ok (o, after)) pair in
    let shown : view c.in-Some.value ≡ view made.value = ap view (sym c.in_ok-value.ensures.ok) in
    variant_is c.args.order (parcel_at c.args.left c.args.order) (c.args.bytes.now, laid c.args.base.now c.args.changed.now) ty (view c.in-Some.value) after parcel
    ∙ ap (λ (d : Data). Ok (d, after)) (ap (carried ty) shown ∙ sym (view_carried ty made))

pub shaped_at-returns-in_err-values-in-StructList : goal.shaped_at-returns-in_err-values-in-StructList
shaped_at-returns-in_err-values-in-StructList t c =
    let p = err_from_is_err_and c.from_residual-in_err-values-in-StructList.result c.from_residual-in_err-values-in-StructList.ensures.1 in
    let listed : c.deref-in-StructList-2.result.now ≡ (out-Node c.in-StructList.node.value).members.items = c.deref-in-StructList-2.ensures.value ∙ ap (λ (n : Node). (out-Node n).members.items) c.deref-in-StructList.ensures in
    let fs = members_view c.deref-in-StructList-2.result.now in
    let tree : shape_view c.args.shape.now ≡ node struct_list (out-Node c.in-StructList.node.value).id fs = ap shape_view c.in-StructList.is ∙ struct_list_is c.in-StructList.node ∙ ap (λ (ms : List Member). node struct_list (out-Node c.in-StructList.node.value).id (members_view ms)) (sym listed) in
    rw (p.1, p.2, tree) (structs_fail c.args.order (parcel_at c.args.left c.args.order) (out-Node c.in-StructList.node.value).id fs (c.args.bytes.now, laid c.args.base.now c.args.changed.now) c.in_err-values-in-StructList.field-0.0 c.in_err-values-in-StructList.ensures)

pub shaped_at-returns-in_err-values-in-UnionList : goal.shaped_at-returns-in_err-values-in-UnionList
shaped_at-returns-in_err-values-in-UnionList t c =
    let p = err_from_is_err_and c.from_residual-in_err-values-in-UnionList.result c.from_residual-in_err-values-in-UnionList.ensures.1 in
    let listed : c.deref-in-UnionList-2.result.now ≡ (out-Node c.in-UnionList.node.value).members.items = c.deref-in-UnionList-2.ensures.value ∙ ap (λ (n : Node). (out-Node n).members.items) c.deref-in-UnionList.ensures in
    let fs = members_view c.deref-in-UnionList-2.result.now in
    let tree : shape_view c.args.shape.now ≡ node union_list (out-Node c.in-UnionList.node.value).id fs = ap shape_view c.in-UnionList.is ∙ union_list_is c.in-UnionList.node ∙ ap (λ (ms : List Member). node union_list (out-Node c.in-UnionList.node.value).id (members_view ms)) (sym listed) in
    rw (p.1, p.2, tree) (unions_fail c.args.order (parcel_at c.args.left c.args.order) (out-Node c.in-UnionList.node.value).id fs (c.args.bytes.now, laid c.args.base.now c.args.changed.now) c.in_err-values-in-UnionList.field-0.0 c.in_err-values-in-UnionList.ensures)

pub shaped_at-returns-in_ok-values-in-StructList : goal.shaped_at-returns-in_ok-values-in-StructList
shaped_at-returns-in_ok-values-in-StructList t c =
    let listed : c.deref-in-StructList-2.result.now ≡ (out-Node c.in-StructList.node.value).members.items = c.deref-in-StructList-2.ensures.value ∙ ap (λ (n : Node). (out-Node n).members.items) c.deref-in-StructList.ensures in
    let fs = members_view c.deref-in-StructList-2.result.now in
    let tree : shape_view c.args.shape.now ≡ node struct_list (out-Node c.in-StructList.node.value).id fs = ap shape_view c.in-StructList.is ∙ struct_list_is c.in-StructList.node ∙ ap (λ (ms : List Member). node struct_list (out-Node c.in-StructList.node.value).id (members_view ms)) (sym listed) in
    let after : State = (c.in_ok-values-in-StructList.rest.now, laid c.args.base.now c.listed_at.new.changed) in
    rw tree (structs_are c.args.order (parcel_at c.args.left c.args.order) (out-Node c.in-StructList.node.value).id fs (c.args.bytes.now, laid c.args.base.now c.args.changed.now) (map (option_map boxed_view) c.in_ok-values-in-StructList.values.items) after c.in_ok-values-in-StructList.ensures
    ∙ ap (λ (d : Data). Ok (d, after)) (sym (view_structs c.in_ok-values-in-StructList.values)))

pub shaped_at-returns-in_ok-values-in-UnionList : goal.shaped_at-returns-in_ok-values-in-UnionList
shaped_at-returns-in_ok-values-in-UnionList t c =
    let listed : c.deref-in-UnionList-2.result.now ≡ (out-Node c.in-UnionList.node.value).members.items = c.deref-in-UnionList-2.ensures.value ∙ ap (λ (n : Node). (out-Node n).members.items) c.deref-in-UnionList.ensures in
    let fs = members_view c.deref-in-UnionList-2.result.now in
    let tree : shape_view c.args.shape.now ≡ node union_list (out-Node c.in-UnionList.node.value).id fs = ap shape_view c.in-UnionList.is ∙ union_list_is c.in-UnionList.node ∙ ap (λ (ms : List Member). node union_list (out-Node c.in-UnionList.node.value).id (members_view ms)) (sym listed) in
    let after : State = (c.in_ok-values-in-UnionList.rest.now, laid c.args.base.now c.listed_at-in-UnionList.new.changed) in
    rw tree (unions_are c.args.order (parcel_at c.args.left c.args.order) (out-Node c.in-UnionList.node.value).id fs (c.args.bytes.now, laid c.args.base.now c.args.changed.now) (map (option_map boxed_view) c.in_ok-values-in-UnionList.values.items) after c.in_ok-values-in-UnionList.ensures
    ∙ ap (λ (d : Data). Ok (d, after)) (sym (view_unions c.in_ok-values-in-UnionList.values)))

pub shaped_at-returns-in_ok-values-in-VariantList : goal.shaped_at-returns-in_ok-values-in-VariantList
shaped_at-returns-in_ok-values-in-VariantList t c =
    let tree : shape_view c.args.shape.now ≡ leaf variant_list = ap shape_view c.in-VariantList.is ∙ variant_list_is in
    let after : State = (c.in_ok-values-in-VariantList.rest.now, laid c.args.base.now c.variants_at.new.changed) in
    rw tree (variants_are c.args.order (parcel_at c.args.left c.args.order) (c.args.bytes.now, laid c.args.base.now c.args.changed.now) (map (option_map parcel_view) c.in_ok-values-in-VariantList.values.items) after c.in_ok-values-in-VariantList.ensures
    ∙ ap (λ (d : Data). Ok (d, after)) (sym (view_variants c.in_ok-values-in-VariantList.values)))
