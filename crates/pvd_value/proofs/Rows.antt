-- Rows of values and of members, place by place.
use Rattle.std.proofs.Common.{◌≡◌, ℕ, zero, suc, ◌+◌, ◌<◌, ◌≤◌, Bool, true, false, ◌&&◌, List, [], ◌∷◌, ◌++◌, length, get_or, drop, Option, Some, None, option_map, refl, sym, ap, ◌∙◌, arith, rules, add-one, map}
use Rattle.std.proofs.lemmas.List.{map_push}
use Rattle.std.proofs.Math.Seq.{drop-cons}
use Rattle.std.proofs.Math.ListN.{drop_of_length-le}
use Rattle.std.proofs.lemmas.Bool.{false≢true}
use Rattle.pvd_type.specs.SameLaws.{both}
use Rattle.std.specs.Global.{Box, Vec}
use Rattle.pvd_type.specs.Tree.{Tree, Fields, no_fields, field}
use Rattle.pvd_type.specs.View.{shape_view, shape_step, member_step, node_step, member_view, members_view}
use Rattle.pvd_type.specs.declared.shape.Member.{Member, fold_out-Member}
use Rattle.pvd_value.specs.Data.{Data, selected, carried, structs, unions, variants, Row, end, more, gap}
use Rattle.pvd_value.specs.View.{view, row_of, gaps_of, parcels_of, row_view, boxed_view, parcel_view, optional_view, carried_view}
use Rattle.pvd_value.specs.Fits.{fits_of, row_fits, member_at}
use Rattle.pvd_value.specs.Same.{same_row}
use Rattle.pvd_value.specs.declared.value.PvValue.TheShapes.{former-PvValue-StructList-0-at-2, former-PvValue-VariantList-0-at-4}
use Rattle.pvd_value.specs.declared.value.PvValue.{PvValue, Union, Variant, StructList, UnionList, VariantList, the_lemmas}

pub view_selected : (n : ℕ) (b : Box PvValue) → view (Union (Some (n, b))) ≡ selected n (view b.value)
view_selected n b = search (rules, the_lemmas)

pub view_carried : (t : Tree) (b : Box PvValue) → view (Variant (Some (t, b))) ≡ carried t (view b.value)
view_carried t b = search (rules, the_lemmas)

optional : (vs : List (Option (Box PvValue))) → map (option_map (λ (b : Box Data). b.value)) (map (former-PvValue-StructList-0-at-2.map PvValue Data view) vs) ≡ map (option_map boxed_view) vs
optional [] = refl
optional (None ∷ vs) = ap (λ (xs : List (Option Data)). None ∷ xs) (optional vs)
optional (Some b ∷ vs) = ap (λ (xs : List (Option Data)). Some (view b.value) ∷ xs) (optional vs)

pub view_structs : (v : Vec (Option (Box PvValue))) → view (StructList v) ≡ structs (optional_view v.items)
view_structs v =
    let opened : view (StructList v) ≡ structs (gaps_of (map (option_map (λ (b : Box Data). b.value)) (map (former-PvValue-StructList-0-at-2.map PvValue Data view) v.items))) = search (rules, the_lemmas) in
    opened ∙ ap (λ (xs : List (Option Data)). structs (gaps_of xs)) (optional v.items)

pub view_unions : (v : Vec (Option (Box PvValue))) → view (UnionList v) ≡ unions (optional_view v.items)
view_unions v =
    let opened : view (UnionList v) ≡ unions (gaps_of (map (option_map (λ (b : Box Data). b.value)) (map (former-PvValue-StructList-0-at-2.map PvValue Data view) v.items))) = search (rules, the_lemmas) in
    opened ∙ ap (λ (xs : List (Option Data)). unions (gaps_of xs)) (optional v.items)

parcels : (vs : List (Option (Box (Tree × PvValue)))) → map (option_map (λ (b : Box (Tree × Data)). b.value)) (map (former-PvValue-VariantList-0-at-4.map PvValue Data view) vs) ≡ map (option_map parcel_view) vs
parcels [] = refl
parcels (None ∷ vs) = ap (λ (xs : List (Option (Tree × Data))). None ∷ xs) (parcels vs)
parcels (Some b ∷ vs) = ap (λ (xs : List (Option (Tree × Data))). Some (b.value.0, view b.value.1) ∷ xs) (parcels vs)

pub view_variants : (v : Vec (Option (Box (Tree × PvValue)))) → view (VariantList v) ≡ variants (carried_view v.items)
view_variants v =
    let opened : view (VariantList v) ≡ variants (parcels_of (map (option_map (λ (b : Box (Tree × Data)). b.value)) (map (former-PvValue-VariantList-0-at-4.map PvValue Data view) v.items))) = search (rules, the_lemmas) in
    opened ∙ ap (λ (xs : List (Option (Tree × Data))). variants (parcels_of xs)) (parcels v.items)

pub row_from : (vs : List PvValue) (i : ℕ) (v : PvValue) → i < length vs → get_or vs i v ≡ v → row_view (drop i vs) ≡ more (view v) (row_view (drop (i + 1) vs))
row_from vs i v within here = rw (drop-cons vs i v within, add-one, here) refl

-- the elements of a list from place i on, where o stands at i
pub optional_from : (vs : List (Option (Box PvValue))) (i : ℕ) (o : Option (Box PvValue)) → i < length vs → get_or vs i o ≡ o
    → optional_view (drop i vs) ≡ gaps_of (option_map boxed_view o ∷ map (option_map boxed_view) (drop (i + 1) vs))
optional_from vs i o within here = rw (drop-cons vs i o within, add-one, here) refl

pub carried_from : (vs : List (Option (Box (Tree × PvValue)))) (i : ℕ) (o : Option (Box (Tree × PvValue))) → i < length vs → get_or vs i o ≡ o
    → carried_view (drop i vs) ≡ parcels_of (option_map parcel_view o ∷ map (option_map parcel_view) (drop (i + 1) vs))
carried_from vs i o within here = rw (drop-cons vs i o within, add-one, here) refl

no_and : (b : Bool) → (b && false) ≡ false
no_and true = refl
no_and false = refl

pub unequal_rows : (left : ℕ) (vs : List PvValue) (ms : List Member) → (length vs ≡ length ms → ⊥) → row_fits left (row_view vs) (members_view ms) ≡ false
unequal_rows left [] [] h = absurd (h refl)
unequal_rows left [] (m ∷ ms) h = refl
unequal_rows left (v ∷ vs) [] h = refl
unequal_rows left (v ∷ vs) (m ∷ ms) h = rw (unequal_rows left vs ms (λ e. h (ap suc e))) (no_and _)

pub member_is : (m : Member) → member_view m ≡ (m.name, shape_view m.shape)
member_is m = fold_out-Member Tree (List ℕ × Tree) (List ℕ × Fields) shape_step member_step node_step m

pub members_from : (ms : List Member) (i : ℕ) (m : Member) → i < length ms → get_or ms i m ≡ m → members_view (drop i ms) ≡ field m.name (shape_view m.shape) (members_view (drop (i + 1) ms))
members_from ms i m within here = rw (drop-cons ms i m within, add-one, here, member_is m) refl

pub member_within : (ms : List Member) (n : ℕ) (d : Member) → n < length ms → member_at n (members_view ms) ≡ Some (shape_view (get_or ms n d).shape)
member_within [] n d h = absurd (omega arith)
member_within (m ∷ ms) zero d h = rw (member_is m) refl
member_within (m ∷ ms) (suc n) d h = member_within ms n d (omega arith)

pub member_past : (ms : List Member) (n : ℕ) → length ms ≤ n → member_at n (members_view ms) ≡ None
member_past [] n h = refl
member_past (m ∷ ms) zero h = absurd (omega arith)
member_past (m ∷ ms) (suc n) h = member_past ms n (omega arith)

-- one row after another
abbrev pub joined : Row → Row → Row
joined end r = r
joined (more d ds) r = more d (joined ds r)
joined (gap ds) r = gap (joined ds r)

joined_more : (xs : List Data) (x : Data) (r : Row) → joined (row_of (xs ++ x ∷ [])) r ≡ joined (row_of xs) (more x r)
joined_more [] x r = refl
joined_more (y ∷ ys) x r = ap (more y) (joined_more ys x r)

pub joined_push : (vs : List PvValue) (v : PvValue) (r : Row) → joined (row_view (vs ++ v ∷ [])) r ≡ joined (row_view vs) (more (view v) r)
joined_push vs v r = ap (λ (ds : List Data). joined (row_of ds) r) (map_push view vs v) ∙ joined_more (map view vs) (view v) r

pub joined_end : (vs : List PvValue) → joined (row_view vs) end ≡ row_view vs
joined_end [] = refl
joined_end (v ∷ vs) = ap (more (view v)) (joined_end vs)

-- what stands in a place
pub item : (vs : List PvValue) (i : ℕ) → i < length vs → (v : PvValue) × (get_or vs i v ≡ v)
item [] i h = absurd (omega arith)
item (v ∷ vs) zero h = (v, refl)
item (v ∷ vs) (suc i) h = item vs i (omega arith)

-- values that fit members are as many
pub rows_length : (left : ℕ) (vs : List PvValue) (ms : List Member) → row_fits left (row_view vs) (members_view ms) ≡ true → length vs ≡ length ms
rows_length left [] [] h = refl
rows_length left [] (m ∷ ms) h = absurd (false≢true h)
rows_length left (v ∷ vs) [] h = absurd (false≢true h)
rows_length left (v ∷ vs) (m ∷ ms) h = ap suc (rows_length left vs ms (both (fits_of left (view v) (member_view m).1) (row_fits left (row_view vs) (members_view ms)) h).1)

-- the value in place i fits, and so do those after it
pub rows_split : (left : ℕ) (vs : List PvValue) (ms : List Member) (i : ℕ) (v : PvValue) (m : Member) → i < length vs → i < length ms → get_or vs i v ≡ v → get_or ms i m ≡ m
    → row_fits left (row_view (drop i vs)) (members_view (drop i ms)) ≡ true
    → (fits_of left (view v) (shape_view m.shape) ≡ true) × (row_fits left (row_view (drop (i + 1) vs)) (members_view (drop (i + 1) ms)) ≡ true)
rows_split left vs ms i v m in_vs in_ms at_v at_m h =
    let split : row_fits left (more (view v) (row_view (drop (i + 1) vs))) (field m.name (shape_view m.shape) (members_view (drop (i + 1) ms))) ≡ true =
    (λ j. row_fits left (sym (row_from vs i v in_vs at_v) j) (sym (members_from ms i m in_ms at_m) j)) ∙ h in
    both (fits_of left (view v) (shape_view m.shape)) (row_fits left (row_view (drop (i + 1) vs)) (members_view (drop (i + 1) ms))) split

-- past the last member there is nothing
pub rows_over : (vs : List PvValue) (ms : List Member) (i : ℕ) → length vs ≡ length ms → length ms ≤ i → (row_view (drop i vs) ≡ end) × (members_view (drop i ms) ≡ no_fields)
rows_over vs ms i same past = (ap row_view (drop_of_length-le vs (omega arith)), ap members_view (drop_of_length-le ms past))

-- rows of different lengths are not the same
pub rows_differ : (xs ys : List PvValue) → (length xs ≡ length ys → ⊥) → same_row (row_view xs) (row_view ys) ≡ false
rows_differ [] [] h = absurd (h refl)
rows_differ [] (y ∷ ys) h = refl
rows_differ (x ∷ xs) [] h = refl
rows_differ (x ∷ xs) (y ∷ ys) h = rw (rows_differ xs ys (λ e. h (ap suc e))) (no_and _)

pub optional_differ : (xs ys : List (Option (Box PvValue))) → (length xs ≡ length ys → ⊥) → same_row (optional_view xs) (optional_view ys) ≡ false
optional_differ [] [] h = absurd (h refl)
optional_differ [] (None ∷ ys) h = refl
optional_differ [] (Some y ∷ ys) h = refl
optional_differ (None ∷ xs) [] h = refl
optional_differ (Some x ∷ xs) [] h = refl
optional_differ (None ∷ xs) (None ∷ ys) h = optional_differ xs ys (λ e. h (ap suc e))
optional_differ (None ∷ xs) (Some y ∷ ys) h = refl
optional_differ (Some x ∷ xs) (None ∷ ys) h = refl
optional_differ (Some x ∷ xs) (Some y ∷ ys) h = rw (optional_differ xs ys (λ e. h (ap suc e))) (no_and _)

pub carried_differ : (xs ys : List (Option (Box (Tree × PvValue)))) → (length xs ≡ length ys → ⊥) → same_row (carried_view xs) (carried_view ys) ≡ false
carried_differ [] [] h = absurd (h refl)
carried_differ [] (None ∷ ys) h = refl
carried_differ [] (Some y ∷ ys) h = refl
carried_differ (None ∷ xs) [] h = refl
carried_differ (Some x ∷ xs) [] h = refl
carried_differ (None ∷ xs) (None ∷ ys) h = carried_differ xs ys (λ e. h (ap suc e))
carried_differ (None ∷ xs) (Some y ∷ ys) h = refl
carried_differ (Some x ∷ xs) (None ∷ ys) h = refl
carried_differ (Some x ∷ xs) (Some y ∷ ys) h = rw (carried_differ xs ys (λ e. h (ap suc e))) (no_and _)
