-- What is written is in the grammar.
use Rattle.std.proofs.Common.{◌≡◌, ℕ, ◌-◌, ◌<◌, ◌%◌, true, false, List, [], ◌∷◌, ◌++◌, length, Option, Some, None, refl, sym, ap, arith, inl, nat_lt}
use Rattle.std.specs.List.{flat_map}
use Rattle.std.specs.Int.{w8, w16, w32, w64, cast_unsigned}
use Rattle.std.proofs.lemmas.Int.{to_z-of_z}
use Rattle.std.proofs.Math.Facts.{Fits-of_z, Fits-lt-pow}
use Rattle.std.proofs.lemmas.Bool.{false≢true, ltb-true, leb-true, eqb-true}
use Rattle.pva_wire.specs.declared.order.Order.{Order}
use Rattle.pva_wire.specs.declared.order.Order.TheVariants.{Little, Big}
use Rattle.pva_wire.specs.Spelling.{IsSize, number_bytes, SpellsSize, canonical_size}
use Rattle.pva_wire.proofs.OneReading.{canonical_spells, canonical_text_spells}
use Rattle.pvd_type.specs.declared.shape.Scalar.{Scalar}
use Rattle.pvd_type.specs.declared.shape.Extent.{Extent}
use Rattle.pvd_type.specs.declared.shape.Extent.TheVariants.{Variable, Bounded, Fixed}
use Rattle.pvd_type.specs.Tree.{Tree, leaf, node, plain, bound_text, list, variant, variant_list, struct, union, struct_list, union_list, Fields, no_fields, field}
use Rattle.pvd_type.specs.Same.{same_scalar}
use Rattle.pvd_type.specs.SameLaws.{both, same_tree-Decides}
use Rattle.pvd_value.specs.Data as value
use Rattle.pvd_value.specs.Data.{Data, Single, Many, single, many, members, unset, selected, empty, carried, structs, unions, variants, Row, end, more, gap}
use Rattle.pvd_value.specs.Fits.{scalar_of, element_of, count_of, allows, within_text, member_at, some_and, fits_of, row_fits, all_fit}
use Rattle.pvd_desc.specs.Types.{Types}
use Rattle.pvd_desc.specs.Grammar.{canonical_desc}
use Rattle.pvd_desc.proofs.Back.{node_written}
use Rattle.pvd_codec.specs.Grammar.{flag, SpellsSingle, SpellsItems, SpellsMany, Counted, SpellsList, SpellsBoundText, on_some, row_length, SpellsGap, Spells, SpellsRow, SpellsElements}
use Rattle.pvd_codec.specs.Written.{canonical_single, canonical_items, canonical_list, canonical_selected, canonical_value, canonical_row, canonical_elements, CanSingle, CanEach, CanItems, CanList, CanSelected, CanValue, CanRow, CanElements}

-- two scalar types that test as the same are the same
pub scalar_is : (s t : Scalar) → same_scalar s t ≡ true → s ≡ t
scalar_is s t h = let e : leaf (plain s) ≡ leaf (plain t) = (same_tree-Decides (leaf (plain s)) (leaf (plain t))).0 h in cc

-- a byte is a number of one byte
byte_is : (o : Order) (x : ℕ) → x < 256 → x ∷ [] ≡ number_bytes o 1 x
byte_is Little x h = let e : x ≡ x % 256 = omega arith in ap (λ (y : ℕ). y ∷ []) e
byte_is Big x h = let e : x ≡ x % 256 = omega arith in ap (λ (y : ℕ). y ∷ []) e

pub single_written : (o : Order) (x : Single) → CanSingle x → SpellsSingle o (canonical_single o x) x
single_written o (value.boolean b) h = refl
single_written o (value.byte z) h = (cast_unsigned w8 z, (Fits-lt-pow (Fits-of_z h), byte_is o (cast_unsigned w8 z) (Fits-lt-pow (Fits-of_z h))), sym (to_z-of_z w8 z h))
single_written o (value.short z) h = (cast_unsigned w16 z, (Fits-lt-pow (Fits-of_z h), refl), sym (to_z-of_z w16 z h))
single_written o (value.int z) h = (cast_unsigned w32 z, (Fits-lt-pow (Fits-of_z h), refl), sym (to_z-of_z w32 z h))
single_written o (value.long z) h = (cast_unsigned w64 z, (Fits-lt-pow (Fits-of_z h), refl), sym (to_z-of_z w64 z h))
single_written o (value.ubyte n) h = (h, byte_is o n h)
single_written o (value.ushort n) h = (h, refl)
single_written o (value.uint n) h = (h, refl)
single_written o (value.ulong n) h = (h, refl)
single_written o (value.float n) h = (h, refl)
single_written o (value.double n) h = (h, refl)
single_written o (value.text t) h = canonical_text_spells o t h.1 h.0

items_written : {A : Type 0} (Spells : List ℕ → A → Type 0) (bytes : A → List ℕ) (Can : A → Type 0) → ((x : A) → Can x → Spells (bytes x) x) → (xs : List A) → CanEach Can xs → SpellsItems Spells (flat_map bytes xs) xs
items_written Spells bytes Can each [] h = refl
items_written Spells bytes Can each (x ∷ xs) h = (bytes x, flat_map bytes xs, each x h.0, items_written Spells bytes Can each xs h.1, refl)

many_written : (o : Order) (xs : Many) → CanItems xs → SpellsMany o (canonical_items o xs) xs
many_written o (value.booleans xs) h = items_written (λ b x. SpellsSingle o b (value.boolean x)) (λ x. canonical_single o (value.boolean x)) (λ x. CanSingle (value.boolean x)) (λ x. single_written o (value.boolean x)) xs h
many_written o (value.bytes xs) h = items_written (λ b x. SpellsSingle o b (value.byte x)) (λ x. canonical_single o (value.byte x)) (λ x. CanSingle (value.byte x)) (λ x. single_written o (value.byte x)) xs h
many_written o (value.shorts xs) h = items_written (λ b x. SpellsSingle o b (value.short x)) (λ x. canonical_single o (value.short x)) (λ x. CanSingle (value.short x)) (λ x. single_written o (value.short x)) xs h
many_written o (value.ints xs) h = items_written (λ b x. SpellsSingle o b (value.int x)) (λ x. canonical_single o (value.int x)) (λ x. CanSingle (value.int x)) (λ x. single_written o (value.int x)) xs h
many_written o (value.longs xs) h = items_written (λ b x. SpellsSingle o b (value.long x)) (λ x. canonical_single o (value.long x)) (λ x. CanSingle (value.long x)) (λ x. single_written o (value.long x)) xs h
many_written o (value.ubytes xs) h = items_written (λ b x. SpellsSingle o b (value.ubyte x)) (λ x. canonical_single o (value.ubyte x)) (λ x. CanSingle (value.ubyte x)) (λ x. single_written o (value.ubyte x)) xs h
many_written o (value.ushorts xs) h = items_written (λ b x. SpellsSingle o b (value.ushort x)) (λ x. canonical_single o (value.ushort x)) (λ x. CanSingle (value.ushort x)) (λ x. single_written o (value.ushort x)) xs h
many_written o (value.uints xs) h = items_written (λ b x. SpellsSingle o b (value.uint x)) (λ x. canonical_single o (value.uint x)) (λ x. CanSingle (value.uint x)) (λ x. single_written o (value.uint x)) xs h
many_written o (value.ulongs xs) h = items_written (λ b x. SpellsSingle o b (value.ulong x)) (λ x. canonical_single o (value.ulong x)) (λ x. CanSingle (value.ulong x)) (λ x. single_written o (value.ulong x)) xs h
many_written o (value.floats xs) h = items_written (λ b x. SpellsSingle o b (value.float x)) (λ x. canonical_single o (value.float x)) (λ x. CanSingle (value.float x)) (λ x. single_written o (value.float x)) xs h
many_written o (value.doubles xs) h = items_written (λ b x. SpellsSingle o b (value.double x)) (λ x. canonical_single o (value.double x)) (λ x. CanSingle (value.double x)) (λ x. single_written o (value.double x)) xs h
many_written o (value.texts xs) h = items_written (λ b x. SpellsSingle o b (value.text x)) (λ x. canonical_single o (value.text x)) (λ x. CanSingle (value.text x)) (λ x. single_written o (value.text x)) xs h

counted : (o : Order) (n : ℕ) (Elements : List ℕ → Type 0) (tail : List ℕ) → IsSize n → Elements tail → Counted o n Elements (canonical_size o n ++ tail)
counted o n Elements tail can h = (canonical_size o n, tail, canonical_spells o n can, h, refl)

list_written : (o : Order) (e : Extent) (xs : Many) → allows e (count_of xs) ≡ true → CanList e xs → SpellsList o e (canonical_list o e xs) xs
list_written o Variable xs h can = counted o (count_of xs) (λ tail. SpellsMany o tail xs) (canonical_items o xs) can.0 (many_written o xs can.1)
list_written o (Bounded bound) xs h can = (leb-true (count_of xs) bound h, counted o (count_of xs) (λ tail. SpellsMany o tail xs) (canonical_items o xs) can.0 (many_written o xs can.1))
list_written o (Fixed size) xs h can = (eqb-true (count_of xs) size h, many_written o xs can.1)

bound_written : (o : Order) (bound : ℕ) (x : Single) → within_text x bound ≡ true → CanSingle x → SpellsBoundText o bound (canonical_single o x) x
bound_written o bound (value.text t) h can = (leb-true (length t) bound h, canonical_text_spells o t can.1 can.0)
bound_written o bound _ h can = absurd (false≢true h)

gap_written : (left : ℕ) (o : Order) (t : Tree) (before : Types) → SpellsGap left o t before (flag false ∷ []) before
gap_written left o (leaf variant) before = inl (refl, refl)
gap_written left o _ before = (refl, refl)

-- a member that a union selects, where what follows its place is spelled for any type
selected_written : (o : Order) (n left : ℕ) (v : Data) (before : Types) (m : Option Tree) → ((t : Tree) → fits_of left v t ≡ true → CanValue v t → Spells left o v t before (canonical_value o v t) before)
    → some_and (fits_of left v) m ≡ true → CanSelected n (CanValue v) m
    → (head : List ℕ) × (tail : List ℕ) × SpellsSize o head (Some n) × on_some (λ t. Spells left o v t before tail before) m × (canonical_selected o n (canonical_value o v) m ≡ head ++ tail)
selected_written o n left v before None each h can = absurd (false≢true h)
selected_written o n left v before (Some t) each h can = (canonical_size o n, canonical_value o v t, canonical_spells o n can.0, each t h can.1, refl)

module _ (o : Order) (before : Types) where
  mutual
    pub value_written : (left : ℕ) (v : Data) (t : Tree) → fits_of left v t ≡ true → CanValue v t → Spells left o v t before (canonical_value o v t) before
    value_written left (single x) (leaf (plain s)) h can = (scalar_is (scalar_of x) s h, single_written o x can, refl)
    value_written left (single x) (leaf (bound_text bound)) h can = (bound_written o bound x h can, refl)
    value_written left (many xs) (leaf (list s e)) h can =
        let p = both (same_scalar (element_of xs) s) (allows e (count_of xs)) h in
        (scalar_is (element_of xs) s p.0, list_written o e xs p.1 can, refl)
    value_written left (members vs) (node struct id fs) h can = row_written left vs fs h can
    value_written left unset (node union id fs) h can = (refl, refl)
    value_written left (selected n v) (node union id fs) h can = selected_written o n left v before (member_at n fs) (λ t. value_written left v t) h can
    value_written left empty (leaf variant) h can = (ltb-true 0 left h, (refl, refl))
    value_written left (carried t v) (leaf variant) h can =
        let p = both (nat_lt 0 left) (fits_of (left - 1) v t) h in
        (canonical_desc o (Some t), canonical_value o v t, before, ltb-true 0 left p.0, (node_written o before t can.0.0, can.0.1), value_written (left - 1) v t p.1 can.1, refl)
    value_written left (structs vs) (node struct_list id fs) h can =
        counted o (row_length vs) (λ tail. SpellsElements left o vs (node struct id fs) before tail before) (canonical_elements o vs (node struct id fs)) can.0 (elements_written left vs (node struct id fs) h can.1)
    value_written left (unions vs) (node union_list id fs) h can =
        counted o (row_length vs) (λ tail. SpellsElements left o vs (node union id fs) before tail before) (canonical_elements o vs (node union id fs)) can.0 (elements_written left vs (node union id fs) h can.1)
    value_written left (variants vs) (leaf variant_list) h can =
        counted o (row_length vs) (λ tail. SpellsElements left o vs (leaf variant) before tail before) (canonical_elements o vs (leaf variant)) can.0 (elements_written left vs (leaf variant) h can.1)
    value_written left _ _ h can = absurd (false≢true h)

    pub row_written : (left : ℕ) (vs : Row) (fs : Fields) → row_fits left vs fs ≡ true → CanRow vs fs → SpellsRow left o vs fs before (canonical_row o vs fs) before
    row_written left end no_fields h can = (refl, refl)
    row_written left (more v vs) (field name t fs) h can =
        let p = both (fits_of left v t) (row_fits left vs fs) h in
        (canonical_value o v t, canonical_row o vs fs, before, value_written left v t p.0 can.0, row_written left vs fs p.1 can.1, refl)
    row_written left _ _ h can = absurd (false≢true h)

    pub elements_written : (left : ℕ) (vs : Row) (t : Tree) → all_fit left vs t ≡ true → CanElements vs t → SpellsElements left o vs t before (canonical_elements o vs t) before
    elements_written left end t h can = (refl, refl)
    elements_written left (gap vs) t h can = (flag false ∷ [], canonical_elements o vs t, before, gap_written left o t before, elements_written left vs t h can, refl)
    elements_written left (more v vs) t h can =
        let p = both (fits_of left v t) (all_fit left vs t) h in
        (canonical_value o v t, canonical_elements o vs t, before, can.0, value_written left v t p.0 can.1, elements_written left vs t p.1 can.2, refl)
