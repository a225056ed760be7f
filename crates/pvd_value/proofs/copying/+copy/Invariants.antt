use Rattle.std.proofs.Common.{◌≡◌, take, map, option_map}
use Rattle.pvd_value.specs.View.{view, boxed_view, parcel_view}
use Rattle.pvd_value.proofs.copying.+copy.Given as goal

abbrev pub invariant-copy_row-loop-value : goal.invariant-copy_row-loop-value
invariant-copy_row-loop-value l = map view l.copies.items ≡ map view (take l.value-index l.values)

abbrev pub invariant-copy_optional-loop-value : goal.invariant-copy_optional-loop-value
invariant-copy_optional-loop-value l = map (option_map boxed_view) l.copies.items ≡ map (option_map boxed_view) (take l.value-index l.values)

abbrev pub invariant-copy_variants-loop-value : goal.invariant-copy_variants-loop-value
invariant-copy_variants-loop-value l =
    map (option_map parcel_view) l.copies.items ≡ map (option_map parcel_view) (take l.value-index l.values)
