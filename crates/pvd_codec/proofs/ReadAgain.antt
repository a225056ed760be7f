-- What spells a value is read as it, whatever follows.
use Rattle.std.proofs.Common.{◌≡◌, ◌∙◌, ℕ, zero, suc, ◌+◌, ◌-◌, ◌*◌, ◌<◌, ◌≤◌, ℤ, Bool, true, false, List, [], ◌∷◌, ◌++◌, length, Option, Some, None, Ok, refl, sym, ap, arith, inl, inr, append_assoc}
use Rattle.std.specs.Int.{Width, w8, w16, w32, w64, cast_signed}
use Rattle.std.proofs.lemmas.Bool.{le-ltb}
use Rattle.std.proofs.lemmas.List.{length-append}
use Rattle.std.proofs.Math.Nat.{suc-mul}
use Rattle.pva_wire.specs.declared.order.Order.{Order}
use Rattle.pva_wire.specs.Spelling.{SpellsNumber, SpellsSize, SpellsText}
use Rattle.pva_wire.specs.Reading.{size_at, text_at, count_at, counted_at}
use Rattle.pva_wire.proofs.Digits.{number_len, number_at_again}
use Rattle.pva_wire.proofs.Sizes.{size_again}
use Rattle.pva_wire.proofs.Texts.{text_again}
use Rattle.pvd_type.specs.declared.shape.Scalar.{Scalar}
use Rattle.pvd_type.specs.declared.shape.Extent.{Extent}
use Rattle.pvd_type.specs.declared.shape.Extent.TheVariants.{Variable, Bounded, Fixed}
use Rattle.pvd_type.specs.Tree.{Tree, leaf, node, plain, bound_text, list, variant, variant_list, Kind, struct, union, struct_list, union_list, Fields, no_fields, field}
use Rattle.pvd_value.specs.Data as value
use Rattle.pvd_value.specs.Data.{Data, Single, Many, single, many, members, unset, selected, empty, carried, structs, unions, variants, Row, end, more, gap}
use Rattle.pvd_value.specs.View.{gaps_of, parcels_of}
use Rattle.pvd_value.specs.Fits.{scalar_of, element_of, count_of, member_at}
use Rattle.pvd_desc.specs.Types.{Types}
use Rattle.pvd_desc.specs.Grammar.{Desc}
use Rattle.pvd_desc.proofs.OnlyThis.{only_this}
use Rattle.pvd_codec.specs.Grammar.{flag, SpellsBool, SpellsSigned, SpellsSingle, SpellsItems, SpellsMany, SpellsList, SpellsBoundText, on_some, row_length, SpellsNone, SpellsGap, Spells, SpellsRow, SpellsElements}
use Rattle.pvd_codec.specs.Reading.{Read, State, Parcel, lifted, steady, bool_at, valued, scalar_at, bound_text_at, width_of, extent_at, items_at, elements_at, list_at, flagged, listed, present, value_with, row_with, member_with, parcel_at, value_at}

bool_again : (b : Bool) (rest : List ℕ) → bool_at (flag b ∷ rest) ≡ Ok (b, rest)
unfolding bool_at
bool_again true rest = refl
bool_again false rest = refl

valued_again : {X : Type 0} (meaning : ℕ → X) (o : Order) (n : ℕ) (bytes rest : List ℕ) (x : ℕ) → SpellsNumber o n bytes x → valued meaning o n (bytes ++ rest) ≡ Ok (meaning x, rest)
unfolding valued
valued_again meaning o n bytes rest x h = rw (number_at_again o n bytes rest x h) refl

signed_again : (o : Order) (w : Width) (n : ℕ) (bytes rest : List ℕ) (z : ℤ) → SpellsSigned o w n bytes z → valued (cast_signed w) o n (bytes ++ rest) ≡ Ok (z, rest)
signed_again o w n bytes rest z (x, h, same) = valued_again (cast_signed w) o n bytes rest x h ∙ (λ i. Ok (sym same i, rest))

flag_again : (b : Bool) (bytes rest : List ℕ) → SpellsBool bytes b → bool_at (bytes ++ rest) ≡ Ok (b, rest)
flag_again b bytes rest h = ap (λ (s : List ℕ). bool_at (s ++ rest)) h ∙ bool_again b rest

scalar_again : (o : Order) (x : Single) (bytes rest : List ℕ) → SpellsSingle o bytes x → scalar_at o (scalar_of x) (bytes ++ rest) ≡ Ok (single x, rest)
unfolding scalar_at
scalar_again o (value.boolean b) bytes rest h = rw (flag_again b bytes rest h) refl
scalar_again o (value.byte z) bytes rest h = rw (signed_again o w8 1 bytes rest z h) refl
scalar_again o (value.short z) bytes rest h = rw (signed_again o w16 2 bytes rest z h) refl
scalar_again o (value.int z) bytes rest h = rw (signed_again o w32 4 bytes rest z h) refl
scalar_again o (value.long z) bytes rest h = rw (signed_again o w64 8 bytes rest z h) refl
scalar_again o (value.ubyte n) bytes rest h = rw (valued_again (λ n. n) o 1 bytes rest n h) refl
scalar_again o (value.ushort n) bytes rest h = rw (valued_again (λ n. n) o 2 bytes rest n h) refl
scalar_again o (value.uint n) bytes rest h = rw (valued_again (λ n. n) o 4 bytes rest n h) refl
scalar_again o (value.ulong n) bytes rest h = rw (valued_again (λ n. n) o 8 bytes rest n h) refl
scalar_again o (value.float n) bytes rest h = rw (valued_again (λ n. n) o 4 bytes rest n h) refl
scalar_again o (value.double n) bytes rest h = rw (valued_again (λ n. n) o 8 bytes rest n h) refl
scalar_again o (value.text t) bytes rest h = rw (text_again o bytes t rest h) refl

-- a size above the bound is none that was spelled
text_judged : (o : Order) (bound : ℕ) (t bytes rest : List ℕ) → length t ≤ bound → SpellsText o bytes t → bound_text_at o bound (bytes ++ rest) ≡ Ok (single (value.text t), rest)
unfolding bound_text_at
text_judged o bound t bytes rest small (inl h) = rw (size_again o bytes rest None h.0, text_again o bytes t rest (inl h)) refl
text_judged o bound t bytes rest small (inr (size, is, valid, parts)) =
    let s : size_at o (bytes ++ rest) ≡ Ok (Some (length t), t ++ rest) =
    ap (λ (b : List ℕ). size_at o (b ++ rest)) parts ∙ ap (size_at o) (append_assoc size t rest) ∙ size_again o size (t ++ rest) (Some (length t)) is in
    rw (s, le-ltb bound (length t) small, text_again o bytes t rest (inr (size, is, valid, parts))) refl

bound_again : (o : Order) (bound : ℕ) (x : Single) (bytes rest : List ℕ) → SpellsBoundText o bound bytes x → bound_text_at o bound (bytes ++ rest) ≡ Ok (single x, rest)
bound_again o bound (value.text t) bytes rest h = text_judged o bound t bytes rest h.0 h.1
bound_again o bound _ bytes rest h = absurd h

items_again : {A : Type 0} (item : List ℕ → Read (List ℕ) A) (Spell : List ℕ → A → Type 0) → ((bytes rest : List ℕ) (x : A) → Spell bytes x → item (bytes ++ rest) ≡ Ok (x, rest))
    → (xs : List A) (bytes rest : List ℕ) → SpellsItems Spell bytes xs → items_at item (length xs) (bytes ++ rest) ≡ Ok (xs, rest)
unfolding items_at
items_again {A} item Spell each [] bytes rest h = ap (λ (b : List ℕ). Ok ([], b ++ rest)) h
items_again {A} item Spell each (x ∷ xs) bytes rest (head, tail, one, others, parts) =
    ap (λ (b : List ℕ). items_at item (suc (length xs)) (b ++ rest)) parts
    ∙ ap (items_at item (suc (length xs))) (append_assoc head tail rest)
    ∙ rw (each head (tail ++ rest) x one, items_again item Spell each xs tail rest others) refl

items_long : {A : Type 0} (w : ℕ) (Spell : List ℕ → A → Type 0) → ((bytes : List ℕ) (x : A) → Spell bytes x → w ≤ length bytes) → (xs : List A) (bytes : List ℕ) → SpellsItems Spell bytes xs → length xs * w ≤ length bytes
items_long w Spell each [] bytes h = omega arith
items_long w Spell each (x ∷ xs) bytes (head, tail, one, others, parts) =
    omega (arith, suc-mul (length xs) w, ap length parts, length-append head tail, each head x one, items_long w Spell each xs tail others)

number_long : (o : Order) (n : ℕ) (bytes : List ℕ) (x : ℕ) → SpellsNumber o n bytes x → n ≤ length bytes
number_long o n bytes x h = omega (arith, ap length h.1, number_len o n x)

signed_long : (o : Order) (w : Width) (n : ℕ) (bytes : List ℕ) (z : ℤ) → SpellsSigned o w n bytes z → n ≤ length bytes
signed_long o w n bytes z (x, h, same) = number_long o n bytes x h

bool_long : (bytes : List ℕ) (b : Bool) → SpellsBool bytes b → 1 ≤ length bytes
bool_long bytes b h = omega (arith, ap length h)

size_long : (o : Order) (bytes : List ℕ) (n : ℕ) → SpellsSize o bytes (Some n) → 1 ≤ length bytes
size_long o bytes n (inl h) = omega (arith, ap length h.1)
size_long o bytes n (inr h) = omega (arith, ap length h.1)

text_long : (o : Order) (bytes text : List ℕ) → SpellsText o bytes text → 1 ≤ length bytes
text_long o bytes text (inl h) = omega (arith, ap length h.0)
text_long o bytes text (inr (size, is, valid, parts)) = omega (arith, ap length parts, length-append size text, size_long o size (length text) is)

many_again : (o : Order) (xs : Many) (bytes rest : List ℕ) → SpellsMany o bytes xs → elements_at o (element_of xs) (count_of xs) (bytes ++ rest) ≡ Ok (many xs, rest)
unfolding elements_at
many_again o (value.booleans xs) bytes rest h = rw (items_again bool_at SpellsBool (λ b r x. flag_again x b r) xs bytes rest h) refl
many_again o (value.bytes xs) bytes rest h = rw (items_again (valued (cast_signed w8) o 1) (SpellsSigned o w8 1) (signed_again o w8 1) xs bytes rest h) refl
many_again o (value.shorts xs) bytes rest h = rw (items_again (valued (cast_signed w16) o 2) (SpellsSigned o w16 2) (signed_again o w16 2) xs bytes rest h) refl
many_again o (value.ints xs) bytes rest h = rw (items_again (valued (cast_signed w32) o 4) (SpellsSigned o w32 4) (signed_again o w32 4) xs bytes rest h) refl
many_again o (value.longs xs) bytes rest h = rw (items_again (valued (cast_signed w64) o 8) (SpellsSigned o w64 8) (signed_again o w64 8) xs bytes rest h) refl
many_again o (value.ubytes xs) bytes rest h = rw (items_again (valued (λ n. n) o 1) (SpellsNumber o 1) (valued_again (λ n. n) o 1) xs bytes rest h) refl
many_again o (value.ushorts xs) bytes rest h = rw (items_again (valued (λ n. n) o 2) (SpellsNumber o 2) (valued_again (λ n. n) o 2) xs bytes rest h) refl
many_again o (value.uints xs) bytes rest h = rw (items_again (valued (λ n. n) o 4) (SpellsNumber o 4) (valued_again (λ n. n) o 4) xs bytes rest h) refl
many_again o (value.ulongs xs) bytes rest h = rw (items_again (valued (λ n. n) o 8) (SpellsNumber o 8) (valued_again (λ n. n) o 8) xs bytes rest h) refl
many_again o (value.floats xs) bytes rest h = rw (items_again (valued (λ n. n) o 4) (SpellsNumber o 4) (valued_again (λ n. n) o 4) xs bytes rest h) refl
many_again o (value.doubles xs) bytes rest h = rw (items_again (valued (λ n. n) o 8) (SpellsNumber o 8) (valued_again (λ n. n) o 8) xs bytes rest h) refl
many_again o (value.texts xs) bytes rest h = rw (items_again (λ b. lifted (text_at o b)) (SpellsText o) (λ b r x s. ap lifted (text_again o b x r s)) xs bytes rest h) refl

many_long : (o : Order) (xs : Many) (bytes : List ℕ) → SpellsMany o bytes xs → count_of xs * width_of (element_of xs) ≤ length bytes
many_long o (value.booleans xs) bytes h = items_long 1 SpellsBool bool_long xs bytes h
many_long o (value.bytes xs) bytes h = items_long 1 (SpellsSigned o w8 1) (signed_long o w8 1) xs bytes h
many_long o (value.shorts xs) bytes h = items_long 2 (SpellsSigned o w16 2) (signed_long o w16 2) xs bytes h
many_long o (value.ints xs) bytes h = items_long 4 (SpellsSigned o w32 4) (signed_long o w32 4) xs bytes h
many_long o (value.longs xs) bytes h = items_long 8 (SpellsSigned o w64 8) (signed_long o w64 8) xs bytes h
many_long o (value.ubytes xs) bytes h = items_long 1 (SpellsNumber o 1) (number_long o 1) xs bytes h
many_long o (value.ushorts xs) bytes h = items_long 2 (SpellsNumber o 2) (number_long o 2) xs bytes h
many_long o (value.uints xs) bytes h = items_long 4 (SpellsNumber o 4) (number_long o 4) xs bytes h
many_long o (value.ulongs xs) bytes h = items_long 8 (SpellsNumber o 8) (number_long o 8) xs bytes h
many_long o (value.floats xs) bytes h = items_long 4 (SpellsNumber o 4) (number_long o 4) xs bytes h
many_long o (value.doubles xs) bytes h = items_long 8 (SpellsNumber o 8) (number_long o 8) xs bytes h
many_long o (value.texts xs) bytes h = items_long 1 (SpellsText o) (text_long o) xs bytes h

count_again : (o : Order) (n : ℕ) (head rest : List ℕ) → SpellsSize o head (Some n) → lifted (count_at o (head ++ rest)) ≡ Ok (n, rest)
unfolding count_at
count_again o n head rest h = rw (size_again o head rest (Some n) h) refl

pub counted_again : (o : Order) (w n : ℕ) (head rest : List ℕ) → SpellsSize o head (Some n) → n * w ≤ length rest → lifted (counted_at o w (head ++ rest)) ≡ Ok (n, rest)
unfolding counted_at count_at
counted_again o w n head rest h room = rw (size_again o head rest (Some n) h, le-ltb (length rest) (n * w) room) refl

list_again : (o : Order) (e : Extent) (xs : Many) (bytes rest : List ℕ) → SpellsList o e bytes xs → list_at o (element_of xs) e (bytes ++ rest) ≡ Ok (many xs, rest)
unfolding list_at extent_at
list_again o Variable xs bytes rest (head, tail, size, items, parts) =
    let room : count_of xs * width_of (element_of xs) ≤ length (tail ++ rest) = omega (arith, length-append tail rest, many_long o xs tail items) in
    ap (λ (b : List ℕ). list_at o (element_of xs) Variable (b ++ rest)) parts
    ∙ ap (list_at o (element_of xs) Variable) (append_assoc head tail rest)
    ∙ rw (counted_again o (width_of (element_of xs)) (count_of xs) head (tail ++ rest) size room) (many_again o xs tail rest items)
list_again o (Bounded bound) xs bytes rest (few, (head, tail, size, items, parts)) =
    let room : count_of xs * width_of (element_of xs) ≤ length (tail ++ rest) = omega (arith, length-append tail rest, many_long o xs tail items) in
    ap (λ (b : List ℕ). list_at o (element_of xs) (Bounded bound) (b ++ rest)) parts
    ∙ ap (list_at o (element_of xs) (Bounded bound)) (append_assoc head tail rest)
    ∙ rw (count_again o (count_of xs) head (tail ++ rest) size, le-ltb bound (count_of xs) few, counted_again o (width_of (element_of xs)) (count_of xs) head (tail ++ rest) size room)
    (many_again o xs tail rest items)
list_again o (Fixed n) xs bytes rest (same, items) =
    let room : count_of xs * width_of (element_of xs) ≤ length (bytes ++ rest) = omega (arith, length-append bytes rest, many_long o xs bytes items) in
    ap (λ (k : ℕ). list_at o (element_of xs) (Fixed k) (bytes ++ rest)) (sym same)
    ∙ rw (le-ltb (length (bytes ++ rest)) (count_of xs * width_of (element_of xs)) room) (many_again o xs bytes rest items)

on_some_map : {A : Type 0} (P Q : A → Type 0) → ((x : A) → P x → Q x) → (m : Option A) → on_some P m → on_some Q m
on_some_map P Q f None h = h
on_some_map P Q f (Some x) h = f x h

-- how many elements there are at most
elements_long : (left : ℕ) (o : Order) (vs : Row) (t : Tree) (before : Types) (bytes : List ℕ) (after : Types) → SpellsElements left o vs t before bytes after → row_length vs * 1 ≤ length bytes
elements_long left o end t before bytes after h = omega arith
elements_long left o (gap vs) t before bytes after (head, tail, mid, one, others, parts) =
    omega (arith, ap length parts, length-append head tail, gap_long left o t before head mid one, elements_long left o vs t mid tail after others)
  where
    none_long : (before : Types) (bytes : List ℕ) (after : Types) → SpellsNone before bytes after → 1 ≤ length bytes
    none_long before bytes after h = omega (arith, ap length h.0)

    gap_long : (left : ℕ) (o : Order) (t : Tree) (before : Types) (bytes : List ℕ) (after : Types) → SpellsGap left o t before bytes after → 1 ≤ length bytes
    gap_long left o (leaf variant) before bytes after (inl h) = none_long before bytes after h
    gap_long left o (leaf variant) before bytes after (inr (desc, some, is, parts)) = omega (arith, ap length parts)
    gap_long left o _ before bytes after h = none_long before bytes after h
elements_long left o (more v vs) t before bytes after (head, tail, mid, is, one, others, parts) =
    omega (arith, ap length parts, length-append head tail, elements_long left o vs t mid tail after others)

-- what stands in a variant
parcel_none : (o : Order) (left : ℕ) (before : Types) (desc rest : List ℕ) (after : Types) → 0 < left → Desc o before None desc after → parcel_at left o (desc ++ rest, before) ≡ Ok (None, (rest, after))
unfolding parcel_at
parcel_none o zero before desc rest after some h = absurd (omega arith)
parcel_none o (suc left) before desc rest after some h = rw (only_this o before desc rest None after h) refl

parcel_some : (o : Order) (left : ℕ) (t : Tree) (v : Data) (before : Types) (head tail rest : List ℕ) (mid after : Types) → 0 < left → Desc o before (Some t) head mid
    → value_at (left - 1) o t (tail ++ rest, mid) ≡ Ok (v, (rest, after)) → parcel_at left o ((head ++ tail) ++ rest, before) ≡ Ok (Some (t, v), (rest, after))
unfolding parcel_at
parcel_some o zero t v before head tail rest mid after some h is = absurd (omega arith)
parcel_some o (suc left) t v before head tail rest mid after some h is =
    let e : suc left - 1 ≡ left = omega arith in
    let inner : value_at left o t (tail ++ rest, mid) ≡ Ok (v, (rest, after)) = ap (λ (k : ℕ). value_at k o t (tail ++ rest, mid)) (sym e) ∙ is in
    ap (λ (b : List ℕ). parcel_at (suc left) o (b, before)) (append_assoc head tail rest)
    ∙ rw (only_this o before head (tail ++ rest) (Some t) mid h, inner) refl

-- the member that a union selects
member_read : (o : Order) (parcel : State → Read State Parcel) (fs : Fields) (n place left : ℕ) (st : State) (v : Data) (after : State)
    → on_some (λ t. value_with o parcel t st ≡ Ok (v, after)) (member_at place fs) → member_with o parcel fs n place left st ≡ Ok (selected n v, after)
unfolding value_with
member_read o parcel no_fields n place left st v after h = absurd h
member_read o parcel (field name t fs) n zero left st v after h = rw h refl
member_read o parcel (field name t fs) n (suc place) left st v after h = member_read o parcel fs n place left st v after h

flagged_none : {A : Type 0} (one : State → Read State (Option A)) (rest : List ℕ) (types : Types) → flagged one (flag false ∷ rest, types) ≡ Ok (None, (rest, types))
unfolding flagged bool_at
flagged_none one rest types = refl

flagged_some : {A : Type 0} (one : State → Read State (Option A)) (rest : List ℕ) (types : Types) → flagged one (flag true ∷ rest, types) ≡ one (rest, types)
unfolding flagged bool_at
flagged_some one rest types = refl

-- elements that are read one after another, of which the first is this one
one_more : {A : Type 0} (one : State → Read State (Option A)) (x : Option A) (xs : List (Option A)) (n : ℕ) (st mid after : State)
    → flagged one st ≡ Ok (x, mid) → items_at (flagged one) n mid ≡ Ok (xs, after) → items_at (flagged one) (n + 1) st ≡ Ok (x ∷ xs, after)
unfolding items_at
one_more one x xs n st mid after first others = let e : n + 1 ≡ suc n = omega arith in ap (λ (k : ℕ). items_at (flagged one) k st) e ∙ rw (first, others) refl

module _ (o : Order) where
  -- the elements of a list, as they are read by the function given
  abbrev Listed : {A : Type 0} → (State → Read State (Option A)) → (List (Option A) → Row) → Row → State → State → Type 0
  Listed {A} one row vs st after = (xs : List (Option A)) × (row xs ≡ vs) × (items_at (flagged one) (row_length vs) st ≡ Ok (xs, after))

  abbrev one_of : ℕ → Tree → State → Read State (Option Data)
  one_of left t st = present (value_at left o t st)

  mutual
    unfolding value_with listed items_at

    pub value_again : (left : ℕ) (v : Data) (t : Tree) (before : Types) (bytes : List ℕ) (after : Types) → Spells left o v t before bytes after → (rest : List ℕ) → value_at left o t (bytes ++ rest, before) ≡ Ok (v, (rest, after))
    value_again left (single x) (leaf (plain s)) before bytes after (is, one, same) rest =
        ap (λ (k : Scalar). steady before (scalar_at o k (bytes ++ rest))) (sym is) ∙ rw (scalar_again o x bytes rest one) (λ i. Ok (single x, (rest, sym same i)))
    value_again left (single x) (leaf (bound_text bound)) before bytes after (one, same) rest = rw (bound_again o bound x bytes rest one) (λ i. Ok (single x, (rest, sym same i)))
    value_again left (many xs) (leaf (list s e)) before bytes after (is, items, same) rest =
        ap (λ (k : Scalar). steady before (list_at o k e (bytes ++ rest))) (sym is) ∙ rw (list_again o e xs bytes rest items) (λ i. Ok (many xs, (rest, sym same i)))
    value_again left (members vs) (node struct id fs) before bytes after h rest = rw (row_again left vs fs before bytes after h rest) refl
    value_again left unset (node union id fs) before bytes after (size, same) rest = rw (size_again o bytes rest None size) (λ i. Ok (unset, (rest, sym same i)))
    value_again left (selected n v) (node union id fs) before bytes after (head, tail, size, some, parts) rest =
        let each = λ (t : Tree) (h : Spells left o v t before tail after). value_again left v t before tail after h rest in
        ap (λ (b : List ℕ). value_at left o (node union id fs) (b ++ rest, before)) parts
        ∙ ap (λ (b : List ℕ). value_at left o (node union id fs) (b, before)) (append_assoc head tail rest)
        ∙ rw (size_again o head (tail ++ rest) (Some n) size)
        (member_read o (parcel_at left o) fs n n (length (head ++ (tail ++ rest))) (tail ++ rest, before) v (rest, after)
        (on_some_map (λ t. Spells left o v t before tail after) (λ t. value_at left o t (tail ++ rest, before) ≡ Ok (v, (rest, after))) each (member_at n fs) some))
    value_again left empty (leaf variant) before bytes after (some, desc) rest = rw (parcel_none o left before bytes rest after some desc) refl
    value_again left (carried t v) (leaf variant) before bytes after (head, tail, mid, some, desc, inner, parts) rest =
        ap (λ (b : List ℕ). value_at left o (leaf variant) (b ++ rest, before)) parts
        ∙ rw (parcel_some o left t v before head tail rest mid after some desc (value_again (left - 1) v t mid tail after inner rest)) refl
    value_again left (structs vs) (node struct_list id fs) before bytes after (head, tail, size, elements, parts) rest =
        let (xs, is, read) = gaps_again left vs struct id fs before tail after elements rest in
        let room : row_length vs * 1 ≤ length (tail ++ rest) = omega (arith, length-append tail rest, elements_long left o vs (node struct id fs) before tail after elements) in
        ap (λ (b : List ℕ). value_at left o (node struct_list id fs) (b ++ rest, before)) parts
        ∙ ap (λ (b : List ℕ). value_at left o (node struct_list id fs) (b, before)) (append_assoc head tail rest)
        ∙ rw (counted_again o 1 (row_length vs) head (tail ++ rest) size room, read) (λ i. Ok (structs (is i), (rest, after)))
    value_again left (unions vs) (node union_list id fs) before bytes after (head, tail, size, elements, parts) rest =
        let (xs, is, read) = gaps_again left vs union id fs before tail after elements rest in
        let room : row_length vs * 1 ≤ length (tail ++ rest) = omega (arith, length-append tail rest, elements_long left o vs (node union id fs) before tail after elements) in
        ap (λ (b : List ℕ). value_at left o (node union_list id fs) (b ++ rest, before)) parts
        ∙ ap (λ (b : List ℕ). value_at left o (node union_list id fs) (b, before)) (append_assoc head tail rest)
        ∙ rw (counted_again o 1 (row_length vs) head (tail ++ rest) size room, read) (λ i. Ok (unions (is i), (rest, after)))
    value_again left (variants vs) (leaf variant_list) before bytes after (head, tail, size, elements, parts) rest =
        let (xs, is, read) = parcels_again left vs before tail after elements rest in
        let room : row_length vs * 1 ≤ length (tail ++ rest) = omega (arith, length-append tail rest, elements_long left o vs (leaf variant) before tail after elements) in
        ap (λ (b : List ℕ). value_at left o (leaf variant_list) (b ++ rest, before)) parts
        ∙ ap (λ (b : List ℕ). value_at left o (leaf variant_list) (b, before)) (append_assoc head tail rest)
        ∙ rw (counted_again o 1 (row_length vs) head (tail ++ rest) size room, read) (λ i. Ok (variants (is i), (rest, after)))
    value_again left _ _ before bytes after h rest = absurd h

    pub row_again : (left : ℕ) (vs : Row) (fs : Fields) (before : Types) (bytes : List ℕ) (after : Types) → SpellsRow left o vs fs before bytes after → (rest : List ℕ)
        → row_with o (parcel_at left o) fs (bytes ++ rest, before) ≡ Ok (vs, (rest, after))
    row_again left end no_fields before bytes after (none, same) rest = λ i. Ok (end, (none i ++ rest, sym same i))
    row_again left (more v vs) (field name t fs) before bytes after (head, tail, mid, one, others, parts) rest =
        ap (λ (b : List ℕ). row_with o (parcel_at left o) (field name t fs) (b ++ rest, before)) parts
        ∙ ap (λ (b : List ℕ). row_with o (parcel_at left o) (field name t fs) (b, before)) (append_assoc head tail rest)
        ∙ rw (value_again left v t before head mid one (tail ++ rest), row_again left vs fs mid tail after others rest) refl
    row_again left _ _ before bytes after h rest = absurd h

    gaps_again : (left : ℕ) (vs : Row) (k : Kind) (id : List ℕ) (fs : Fields) (before : Types) (bytes : List ℕ) (after : Types) → SpellsElements left o vs (node k id fs) before bytes after → (rest : List ℕ)
        → Listed (one_of left (node k id fs)) gaps_of vs (bytes ++ rest, before) (rest, after)
    gaps_again left end k id fs before bytes after (none, same) rest = ([], refl, λ i. Ok ([], (none i ++ rest, sym same i)))
    gaps_again left (gap vs) k id fs before bytes after (head, tail, mid, (none, same), others, parts) rest =
        let (xs, is, read) = gaps_again left vs k id fs mid tail after others rest in
        let one = one_of left (node k id fs) in
        let first : flagged one (bytes ++ rest, before) ≡ Ok (None, (tail ++ rest, mid)) =
        ap (λ (b : List ℕ). flagged one (b ++ rest, before)) (parts ∙ ap (λ (b : List ℕ). b ++ tail) none) ∙ flagged_none one (tail ++ rest) before ∙ (λ i. Ok (None, (tail ++ rest, sym same i))) in
        (None ∷ xs, ap gap is, one_more one None xs (row_length vs) (bytes ++ rest, before) (tail ++ rest, mid) (rest, after) first read)
    gaps_again left (more v vs) k id fs before bytes after (head, tail, mid, elem, value_is, others, parts) rest =
        let (xs, is, read) = gaps_again left vs k id fs mid tail after others rest in
        let one = one_of left (node k id fs) in
        let here = value_again left v (node k id fs) before head mid value_is (tail ++ rest) in
        let first : flagged one (bytes ++ rest, before) ≡ Ok (Some v, (tail ++ rest, mid)) =
        ap (λ (b : List ℕ). flagged one (b ++ rest, before)) parts ∙ flagged_some one ((head ++ tail) ++ rest) before
        ∙ ap (λ (b : List ℕ). one (b, before)) (append_assoc head tail rest) ∙ ap present here in
        (Some v ∷ xs, ap (more v) is, one_more one (Some v) xs (row_length vs) (bytes ++ rest, before) (tail ++ rest, mid) (rest, after) first read)

    parcels_again : (left : ℕ) (vs : Row) (before : Types) (bytes : List ℕ) (after : Types) → SpellsElements left o vs (leaf variant) before bytes after → (rest : List ℕ)
        → Listed (parcel_at left o) parcels_of vs (bytes ++ rest, before) (rest, after)
    parcels_again left end before bytes after (none, same) rest = ([], refl, λ i. Ok ([], (none i ++ rest, sym same i)))
    parcels_again left (gap vs) before bytes after (head, tail, mid, inl (none, same), others, parts) rest =
        let (xs, is, read) = parcels_again left vs mid tail after others rest in
        let one = parcel_at left o in
        let first : flagged one (bytes ++ rest, before) ≡ Ok (None, (tail ++ rest, mid)) =
        ap (λ (b : List ℕ). flagged one (b ++ rest, before)) (parts ∙ ap (λ (b : List ℕ). b ++ tail) none) ∙ flagged_none one (tail ++ rest) before ∙ (λ i. Ok (None, (tail ++ rest, sym same i))) in
        (None ∷ xs, ap gap is, one_more one None xs (row_length vs) (bytes ++ rest, before) (tail ++ rest, mid) (rest, after) first read)
    parcels_again left (gap vs) before bytes after (head, tail, mid, inr (desc, some, none, flagged_desc), others, parts) rest =
        let (xs, is, read) = parcels_again left vs mid tail after others rest in
        let one = parcel_at left o in
        let first : flagged one (bytes ++ rest, before) ≡ Ok (None, (tail ++ rest, mid)) =
        ap (λ (b : List ℕ). flagged one (b ++ rest, before)) (parts ∙ ap (λ (b : List ℕ). b ++ tail) flagged_desc) ∙ flagged_some one ((desc ++ tail) ++ rest) before
        ∙ ap (λ (b : List ℕ). one (b, before)) (append_assoc desc tail rest) ∙ parcel_none o left before desc (tail ++ rest) mid some none in
        (None ∷ xs, ap gap is, one_more one None xs (row_length vs) (bytes ++ rest, before) (tail ++ rest, mid) (rest, after) first read)
    parcels_again left (more empty vs) before bytes after (head, tail, mid, elem, value_is, others, parts) rest = absurd elem
    parcels_again left (more (carried t v) vs) before bytes after (head, tail, mid, elem, (name, inside, between, some, desc, inner, joined), others, parts) rest =
        let (xs, is, read) = parcels_again left vs mid tail after others rest in
        let one = parcel_at left o in
        let here = parcel_some o left t v before name inside (tail ++ rest) between mid some desc (value_again (left - 1) v t between inside mid inner (tail ++ rest)) in
        let first : flagged one (bytes ++ rest, before) ≡ Ok (Some (t, v), (tail ++ rest, mid)) =
        ap (λ (b : List ℕ). flagged one (b ++ rest, before)) (parts ∙ ap (λ (b : List ℕ). flag true ∷ (b ++ tail)) joined) ∙ flagged_some one (((name ++ inside) ++ tail) ++ rest) before
        ∙ ap (λ (b : List ℕ). one (b, before)) (append_assoc (name ++ inside) tail rest) ∙ here in
        (Some (t, v) ∷ xs, ap (more (carried t v)) is, one_more one (Some (t, v)) xs (row_length vs) (bytes ++ rest, before) (tail ++ rest, mid) (rest, after) first read)
    parcels_again left (more _ vs) before bytes after (head, tail, mid, elem, value_is, others, parts) rest = absurd value_is
