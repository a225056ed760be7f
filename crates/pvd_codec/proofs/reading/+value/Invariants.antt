use Rattle.std.proofs.Common.{◌≡◌, ◌+◌, ◌-◌, ◌*◌, drop, map, option_map}
use Rattle.pvd_type.specs.View.{shape_view, members_view}
use Rattle.pvd_type.specs.Numbers.{nodes, nodes_in}
use Rattle.pvd_value.specs.View.{row_view, boxed_view, parcel_view}
use Rattle.pvd_value.proofs.Rows.{joined}
use Rattle.pvd_desc.specs.Types.{laid}
use Rattle.pvd_codec.specs.Reading.{items_at, flagged, row_at, element_at, parcel_at}
use Rattle.pvd_codec.proofs.Loop.{with_front}
use Rattle.pvd_codec.proofs.Steps.{with_row}
use Rattle.pvd_codec.proofs.reading.+value.Given as goal

abbrev pub decreases-value_at : goal.decreases-value_at
decreases-value_at f = 32768 * f.left + (8 * nodes (shape_view f.shape.now) + 1)

abbrev pub decreases-shaped_at : goal.decreases-shaped_at
decreases-shaped_at f = 32768 * f.left + 8 * nodes (shape_view f.shape.now)

abbrev pub decreases-listed_at : goal.decreases-listed_at
decreases-listed_at f = 32768 * f.left + (8 * nodes_in (members_view f.members.now) + 7)

abbrev pub decreases-elements_at : goal.decreases-elements_at
decreases-elements_at f = 32768 * f.left + (8 * nodes_in (members_view f.members.now) + 6)

abbrev pub decreases-element_at : goal.decreases-element_at
decreases-element_at f = 32768 * f.left + (8 * nodes_in (members_view f.members.now) + 5)

abbrev pub decreases-row_at : goal.decreases-row_at
decreases-row_at f = 32768 * f.left + (8 * nodes_in (members_view f.members.now) + 2)

abbrev pub decreases-union_at : goal.decreases-union_at
decreases-union_at f = 32768 * f.left + (8 * nodes_in (members_view f.members.now) + 2)

abbrev pub decreases-variants_at : goal.decreases-variants_at
decreases-variants_at f = 32768 * f.left + 7

abbrev pub decreases-parcels_at : goal.decreases-parcels_at
decreases-parcels_at f = 32768 * f.left + 6

abbrev pub decreases-flagged_at : goal.decreases-flagged_at
decreases-flagged_at f = 32768 * f.left + 5

abbrev pub decreases-variant_at : goal.decreases-variant_at
decreases-variant_at f = 32768 * f.left + 4

abbrev pub decreases-parcel_at : goal.decreases-parcel_at
decreases-parcel_at f = 32768 * f.left + 3

abbrev pub invariant-row_at-loop-member : goal.invariant-row_at-loop-member
invariant-row_at-loop-member l =
    with_row (joined (row_view l.values.items)) (row_at l.left l.order (members_view (drop l.member-index l.members)) (l.rest, laid l.base l.changed))
    ≡ row_at l.left l.order (members_view l.members) (l.bytes, laid l.base l.fn.changed)

abbrev pub invariant-elements_at-loop : goal.invariant-elements_at-loop
invariant-elements_at-loop l =
    with_front (map (option_map boxed_view) l.values.items) (items_at (element_at l.left l.order l.element (members_view l.members)) (l.count - l.counter) (l.rest, laid l.base l.changed))
    ≡ items_at (element_at l.left l.order l.element (members_view l.members)) l.count (l.bytes, laid l.base l.fn.changed)

abbrev pub invariant-parcels_at-loop : goal.invariant-parcels_at-loop
invariant-parcels_at-loop l =
    with_front (map (option_map parcel_view) l.values.items) (items_at (flagged (parcel_at l.left l.order)) (l.count - l.counter) (l.rest, laid l.base l.changed))
    ≡ items_at (flagged (parcel_at l.left l.order)) l.count (l.bytes, laid l.base l.fn.changed)
