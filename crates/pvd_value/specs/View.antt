-- The data that a value stands for.
use Rattle.std.specs.Prelude.{List, [], ◌∷◌, map, Option, Some, None, option_map}
use Rattle.std.specs.Global.{Box}
use Rattle.pvd_type.specs.Tree.{Tree}
use Rattle.pvd_value.specs.Data.{Data, boolean, byte, short, int, long, ubyte, ushort, uint, ulong, float, double, text, Many, booleans, bytes, shorts, ints, longs, ubytes, ushorts, uints, ulongs, floats, doubles, texts, single, many, members, unset, selected, empty, carried, structs, unions, variants, Row, end, more, gap}
use Rattle.pvd_value.specs.declared.value.Items.{Items}
use Rattle.pvd_value.specs.declared.value.Items.TheVariants as list
use Rattle.pvd_value.specs.declared.value.PvValue.{PvValue, fold-PvValue}
use Rattle.pvd_value.specs.declared.value.PvValue.TheOpen.{PvValue-F}

abbrev pub row_of : List Data → Row
row_of [] = end
row_of (d ∷ ds) = more d (row_of ds)

-- the elements of a list, of which some may be null
abbrev pub gaps_of : List (Option Data) → Row
gaps_of [] = end
gaps_of (None ∷ ds) = gap (gaps_of ds)
gaps_of (Some d ∷ ds) = more d (gaps_of ds)

abbrev pub parcels_of : List (Option (Tree × Data)) → Row
parcels_of [] = end
parcels_of (None ∷ ps) = gap (parcels_of ps)
parcels_of (Some p ∷ ps) = more (carried p.0 p.1) (parcels_of ps)

abbrev pub items_view : Items → Many
items_view (list.Bool v) = booleans v.items
items_view (list.I8 v) = bytes v.items
items_view (list.I16 v) = shorts v.items
items_view (list.I32 v) = ints v.items
items_view (list.I64 v) = longs v.items
items_view (list.U8 v) = ubytes v.items
items_view (list.U16 v) = ushorts v.items
items_view (list.U32 v) = uints v.items
items_view (list.U64 v) = ulongs v.items
items_view (list.F32 v) = floats v.items
items_view (list.F64 v) = doubles v.items
items_view (list.Text v) = texts v.items

-- one level, with each value inside already seen as its data
abbrev pub view_step : PvValue-F Data → Data
view_step (PvValue-F.Bool x) = single (boolean x)
view_step (PvValue-F.I8 x) = single (byte x)
view_step (PvValue-F.I16 x) = single (short x)
view_step (PvValue-F.I32 x) = single (int x)
view_step (PvValue-F.I64 x) = single (long x)
view_step (PvValue-F.U8 x) = single (ubyte x)
view_step (PvValue-F.U16 x) = single (ushort x)
view_step (PvValue-F.U32 x) = single (uint x)
view_step (PvValue-F.U64 x) = single (ulong x)
view_step (PvValue-F.F32 x) = single (float x)
view_step (PvValue-F.F64 x) = single (double x)
view_step (PvValue-F.Text x) = single (text x)
view_step (PvValue-F.List items) = many (items_view items)
view_step (PvValue-F.Struct v) = members (row_of v.items)
view_step (PvValue-F.Union None) = unset
view_step (PvValue-F.Union (Some p)) = selected p.0 p.1.value
view_step (PvValue-F.Variant None) = empty
view_step (PvValue-F.Variant (Some p)) = carried p.0 p.1.value
view_step (PvValue-F.StructList v) = structs (gaps_of (map (option_map (λ b. b.value)) v.items))
view_step (PvValue-F.UnionList v) = unions (gaps_of (map (option_map (λ b. b.value)) v.items))
view_step (PvValue-F.VariantList v) = variants (parcels_of (map (option_map (λ b. b.value)) v.items))

abbrev pub view : PvValue → Data
view = fold-PvValue Data view_step

-- values side by side, as in a structure
abbrev pub row_view : List PvValue → Row
row_view vs = row_of (map view vs)

-- the elements of a list of structures or unions, and of a list of variants
abbrev pub boxed_view : Box PvValue → Data
boxed_view b = view b.value

abbrev pub optional_view : List (Option (Box PvValue)) → Row
optional_view vs = gaps_of (map (option_map boxed_view) vs)

abbrev pub parcel_view : Box (Tree × PvValue) → Tree × Data
parcel_view b = (b.value.0, view b.value.1)

abbrev pub carried_view : List (Option (Box (Tree × PvValue))) → Row
carried_view vs = parcels_of (map (option_map parcel_view) vs)
