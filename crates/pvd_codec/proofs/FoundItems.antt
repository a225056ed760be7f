-- The scalars and lists of scalars that were read are spelled at the front.
use Rattle.std.proofs.Common.{◌≡◌, ℕ, zero, suc, ◌*◌, ◌≤◌, Bool as Truth, true, false, cond, ltb, eqb, List, [], ◌∷◌, ◌++◌, length, Option, Some, None, Result, Ok, Err, refl, sym, ap, subst, ◌∙◌, arith, inl, inr, append_assoc}
use Rattle.std.specs.Int.{Width, w8, w16, w32, w64, cast_signed}
use Rattle.std.proofs.lemmas.Bool.{ltb-false, eqb-true}
use Rattle.pva_wire.specs.declared.order.Order.{Order}
use Rattle.pva_wire.specs.declared.fault.Cause.{Cause}
use Rattle.pva_wire.specs.declared.fault.Cause.TheVariants.{Short}
use Rattle.pva_wire.specs.Spelling.{IsBytes, SpellsNumber, SpellsSize, SpellsText}
use Rattle.pva_wire.specs.Reading.{◌>>=◌, number_at, size_at, count_at, counted_at, text_at}
use Rattle.pva_wire.proofs.Takes.{Takes, IsBytes-rest, chosen, ok_is, bind_ok}
use Rattle.pva_wire.proofs.Digits.{number_takes}
use Rattle.pva_wire.proofs.Sizes.{size_again}
use Rattle.pva_wire.proofs.Texts.{text_takes}
use Rattle.pvd_type.specs.declared.shape.Scalar.{Scalar}
use Rattle.pvd_type.specs.declared.shape.Scalar.TheVariants.{Bool, I8, I16, I32, I64, U8, U16, U32, U64, F32, F64, Text}
use Rattle.pvd_type.specs.declared.shape.Extent.{Extent}
use Rattle.pvd_type.specs.declared.shape.Extent.TheVariants.{Variable, Bounded, Fixed}
use Rattle.pvd_value.specs.Data as value
use Rattle.pvd_value.specs.Data.{Data, Single, Many, single, many}
use Rattle.pvd_value.specs.Fits.{scalar_of, element_of, count_of}
use Rattle.pvd_desc.specs.Reading as desc_reads
use Rattle.pvd_desc.proofs.Parts.{joined, counted_takes}
use Rattle.pvd_codec.specs.declared.fault.ValueCause.{ValueCause}
use Rattle.pvd_codec.specs.declared.fault.ValueCause.TheVariants.{Wire, BadBool, OverBound}
use Rattle.pvd_codec.specs.Reading.{Read, lifted, bool_at, valued, scalar_at, judged, bound_text_at, width_of, extent_at, items_at, elements_at, list_at}
use Rattle.pvd_codec.specs.Grammar.{SpellsBool, SpellsSigned, SpellsSingle, SpellsItems, SpellsMany, Counted, SpellsList, SpellsBoundText}

pub unlifted : {A : Type 0} (r : Result A (Cause × ℕ)) (x : A) → lifted r ≡ Ok x → r ≡ Ok x
unlifted (Ok y) x h = cc
unlifted (Err e) x h = absurd cc

-- an item that was taken from the front
abbrev pub Taken : {A : Type 0} → (List ℕ → A → Type 0) → List ℕ → A × List ℕ → Type 0
Taken Spells bytes x = (text : List ℕ) × Spells text x.0 × Takes bytes text x.1

pub bool_takes : (bytes : List ℕ) (x : Truth × List ℕ) → IsBytes bytes → bool_at bytes ≡ Ok x → Taken SpellsBool bytes x
unfolding bool_at
bool_takes [] x fits h = absurd cc
bool_takes (b ∷ rest) x fits h =
    elim (chosen (eqb b 0) (Ok (false, rest)) (cond (eqb b 1) (Ok (true, rest)) (Err (BadBool b, suc (length rest)))) (Ok x) h) [
      | inl a ↦ subst (Taken SpellsBool (b ∷ rest)) (ok_is (false, rest) x a.1)
          (0 ∷ [], refl, record { parts = ap (λ (n : ℕ). n ∷ rest) (eqb-true b 0 a.0); rest_fits = IsBytes-rest b rest fits })
      | inr a ↦ elim (chosen (eqb b 1) (Ok (true, rest)) (Err (BadBool b, suc (length rest))) (Ok x) a.1) [
        | inl c ↦ subst (Taken SpellsBool (b ∷ rest)) (ok_is (true, rest) x c.1)
            (1 ∷ [], refl, record { parts = ap (λ (n : ℕ). n ∷ rest) (eqb-true b 1 c.0); rest_fits = IsBytes-rest b rest fits })
        | inr c ↦ absurd cc
      ]
    ]

-- a number and what it stands for
abbrev SpellsValued : {X : Type 0} → (ℕ → X) → Order → ℕ → List ℕ → X → Type 0
SpellsValued meaning o n text z = (k : ℕ) × SpellsNumber o n text k × (z ≡ meaning k)

valued_takes : {X : Type 0} (meaning : ℕ → X) (o : Order) (n : ℕ) (bytes : List ℕ) (x : X × List ℕ) → IsBytes bytes → valued meaning o n bytes ≡ Ok x → Taken (SpellsValued meaning o n) bytes x
unfolding valued
valued_takes meaning o n bytes x fits h =
    let b = bind_ok (lifted (number_at o n bytes)) (λ k. Ok (meaning k.0, k.1)) x h in
    let t = number_takes o n bytes b.0 fits (unlifted (number_at o n bytes) b.0 b.1) in
    subst (Taken (SpellsValued meaning o n) bytes) (ok_is (meaning b.0.0, b.0.1) x b.2) (t.0, (b.0.0, t.1, refl), t.2)

number_is : (o : Order) (n : ℕ) (bytes : List ℕ) (x : ℕ × List ℕ) → IsBytes bytes → valued (λ k. k) o n bytes ≡ Ok x → Taken (SpellsNumber o n) bytes x
number_is o n bytes x fits h =
    let (text, (k, spelled, same), took) = valued_takes (λ k. k) o n bytes x fits h in
    (text, subst (SpellsNumber o n text) (sym same) spelled, took)

signed_takes : (o : Order) (w : Width) (n : ℕ) (bytes : List ℕ) (x : _) → IsBytes bytes → valued (cast_signed w) o n bytes ≡ Ok x → Taken (SpellsSigned o w n) bytes x
signed_takes o w n bytes x fits h = valued_takes (cast_signed w) o n bytes x fits h

text_is : (o : Order) (bytes : List ℕ) (x : List ℕ × List ℕ) → IsBytes bytes → lifted (text_at o bytes) ≡ Ok x → Taken (SpellsText o) bytes x
text_is o bytes x fits h = text_takes o bytes x fits (unlifted (text_at o bytes) x h)

-- one scalar
abbrev pub ScalarTaken : Order → Scalar → List ℕ → Data × List ℕ → Type 0
ScalarTaken o s bytes x = (text : List ℕ) × (y : Single) × (x.0 ≡ single y) × (scalar_of y ≡ s) × SpellsSingle o text y × Takes bytes text x.1

single_taken : {A : Type 0} (o : Order) (s : Scalar) (make : A → Single) (read : Read (List ℕ) A) (bytes : List ℕ) (x : Data × List ℕ) → ((a : A) → scalar_of (make a) ≡ s)
    → ((a : A × List ℕ) → read ≡ Ok a → Taken (λ text y. SpellsSingle o text (make y)) bytes a) → (read >>= λ a. Ok (single (make a.0), a.1)) ≡ Ok x → ScalarTaken o s bytes x
single_taken o s make read bytes x kind takes h =
    let b = bind_ok read (λ a. Ok (single (make a.0), a.1)) x h in
    let t = takes b.0 b.1 in
    subst (ScalarTaken o s bytes) (ok_is (single (make b.0.0), b.0.1) x b.2) (t.0, make b.0.0, refl, kind b.0.0, t.1, t.2)

pub scalar_takes : (o : Order) (s : Scalar) (bytes : List ℕ) (x : Data × List ℕ) → IsBytes bytes → scalar_at o s bytes ≡ Ok x → ScalarTaken o s bytes x
unfolding scalar_at
scalar_takes o Bool bytes x fits h = single_taken o Bool value.boolean (bool_at bytes) bytes x (λ a. refl) (λ a e. bool_takes bytes a fits e) h
scalar_takes o I8 bytes x fits h = single_taken o I8 value.byte (valued (cast_signed w8) o 1 bytes) bytes x (λ a. refl) (λ a e. signed_takes o w8 1 bytes a fits e) h
scalar_takes o I16 bytes x fits h = single_taken o I16 value.short (valued (cast_signed w16) o 2 bytes) bytes x (λ a. refl) (λ a e. signed_takes o w16 2 bytes a fits e) h
scalar_takes o I32 bytes x fits h = single_taken o I32 value.int (valued (cast_signed w32) o 4 bytes) bytes x (λ a. refl) (λ a e. signed_takes o w32 4 bytes a fits e) h
scalar_takes o I64 bytes x fits h = single_taken o I64 value.long (valued (cast_signed w64) o 8 bytes) bytes x (λ a. refl) (λ a e. signed_takes o w64 8 bytes a fits e) h
scalar_takes o U8 bytes x fits h = single_taken o U8 value.ubyte (valued (λ n. n) o 1 bytes) bytes x (λ a. refl) (λ a e. number_is o 1 bytes a fits e) h
scalar_takes o U16 bytes x fits h = single_taken o U16 value.ushort (valued (λ n. n) o 2 bytes) bytes x (λ a. refl) (λ a e. number_is o 2 bytes a fits e) h
scalar_takes o U32 bytes x fits h = single_taken o U32 value.uint (valued (λ n. n) o 4 bytes) bytes x (λ a. refl) (λ a e. number_is o 4 bytes a fits e) h
scalar_takes o U64 bytes x fits h = single_taken o U64 value.ulong (valued (λ n. n) o 8 bytes) bytes x (λ a. refl) (λ a e. number_is o 8 bytes a fits e) h
scalar_takes o F32 bytes x fits h = single_taken o F32 value.float (valued (λ n. n) o 4 bytes) bytes x (λ a. refl) (λ a e. number_is o 4 bytes a fits e) h
scalar_takes o F64 bytes x fits h = single_taken o F64 value.double (valued (λ n. n) o 8 bytes) bytes x (λ a. refl) (λ a e. number_is o 8 bytes a fits e) h
scalar_takes o Text bytes x fits h = single_taken o Text value.text (lifted (text_at o bytes)) bytes x (λ a. refl) (λ a e. text_is o bytes a fits e) h

-- items, one after another
abbrev ItemsTaken : {A : Type 0} → (List ℕ → A → Type 0) → ℕ → List ℕ → List A × List ℕ → Type 0
ItemsTaken Spells n bytes xs = (text : List ℕ) × SpellsItems Spells text xs.0 × (length xs.0 ≡ n) × Takes bytes text xs.1

items_take : {A : Type 0} (Spells : List ℕ → A → Type 0) (item : List ℕ → Read (List ℕ) A) → ((bytes : List ℕ) (x : A × List ℕ) → IsBytes bytes → item bytes ≡ Ok x → Taken Spells bytes x)
    → (n : ℕ) (bytes : List ℕ) (xs : List A × List ℕ) → IsBytes bytes → items_at item n bytes ≡ Ok xs → ItemsTaken Spells n bytes xs
unfolding items_at
items_take Spells item takes zero bytes xs fits h = subst (ItemsTaken Spells 0 bytes) (ok_is ([], bytes) xs h) ([], refl, refl, record { parts = refl; rest_fits = fits })
items_take Spells item takes (suc n) bytes xs fits h =
    let x = bind_ok (item bytes) (λ x. items_at item n x.1 >>= λ ys. Ok (x.0 ∷ ys.0, ys.1)) xs h in
    let first = takes bytes x.0 fits x.1 in
    let ys = bind_ok (items_at item n x.0.1) (λ ys. Ok (x.0.0 ∷ ys.0, ys.1)) xs x.2 in
    let others = items_take Spells item takes n x.0.1 ys.0 first.2.rest_fits ys.1 in
    subst (ItemsTaken Spells (suc n) bytes) (ok_is (x.0.0 ∷ ys.0.0, ys.0.1) xs ys.2)
    (first.0 ++ others.0, (first.0, others.0, first.1, others.1, refl), ap suc others.2, joined bytes first.0 others.0 x.0.1 ys.0.1 first.2 others.3)

-- the elements of a list of scalars
abbrev ElementsTaken : Order → Scalar → ℕ → List ℕ → Data × List ℕ → Type 0
ElementsTaken o s n bytes x = (text : List ℕ) × (ys : Many) × (x.0 ≡ many ys) × (element_of ys ≡ s) × (count_of ys ≡ n) × SpellsMany o text ys × Takes bytes text x.1

many_taken : {A : Type 0} (o : Order) (s : Scalar) (n : ℕ) (make : List A → Many) (Spells : List ℕ → A → Type 0) (read : Read (List ℕ) (List A)) (bytes : List ℕ) (x : Data × List ℕ) → ((xs : List A) → element_of (make xs) ≡ s)
    → ((xs : List A) → count_of (make xs) ≡ length xs) → ((text : List ℕ) (xs : List A) → SpellsItems Spells text xs → SpellsMany o text (make xs))
    → ((xs : List A × List ℕ) → read ≡ Ok xs → ItemsTaken Spells n bytes xs) → (read >>= λ a. Ok (many (make a.0), a.1)) ≡ Ok x → ElementsTaken o s n bytes x
many_taken o s n make Spells read bytes x kind count spells takes h =
    let b = bind_ok read (λ a. Ok (many (make a.0), a.1)) x h in
    let t = takes b.0 b.1 in
    subst (ElementsTaken o s n bytes) (ok_is (many (make b.0.0), b.0.1) x b.2) (t.0, make b.0.0, refl, kind b.0.0, count b.0.0 ∙ t.2, spells t.0 b.0.0 t.1, t.3)

elements_take : (o : Order) (s : Scalar) (n : ℕ) (bytes : List ℕ) (x : Data × List ℕ) → IsBytes bytes → elements_at o s n bytes ≡ Ok x → ElementsTaken o s n bytes x
unfolding elements_at
elements_take o Bool n bytes x fits h = many_taken o Bool n value.booleans SpellsBool (items_at bool_at n bytes) bytes x (λ a. refl) (λ a. refl) (λ t a e. e) (λ a e. items_take SpellsBool bool_at bool_takes n bytes a fits e) h
elements_take o I8 n bytes x fits h = many_taken o I8 n value.bytes (SpellsSigned o w8 1) (items_at (valued (cast_signed w8) o 1) n bytes) bytes x (λ a. refl) (λ a. refl) (λ t a e. e) (λ a e. items_take (SpellsSigned o w8 1) (valued (cast_signed w8) o 1) (signed_takes o w8 1) n bytes a fits e) h
elements_take o I16 n bytes x fits h = many_taken o I16 n value.shorts (SpellsSigned o w16 2) (items_at (valued (cast_signed w16) o 2) n bytes) bytes x (λ a. refl) (λ a. refl) (λ t a e. e) (λ a e. items_take (SpellsSigned o w16 2) (valued (cast_signed w16) o 2) (signed_takes o w16 2) n bytes a fits e) h
elements_take o I32 n bytes x fits h = many_taken o I32 n value.ints (SpellsSigned o w32 4) (items_at (valued (cast_signed w32) o 4) n bytes) bytes x (λ a. refl) (λ a. refl) (λ t a e. e) (λ a e. items_take (SpellsSigned o w32 4) (valued (cast_signed w32) o 4) (signed_takes o w32 4) n bytes a fits e) h
elements_take o I64 n bytes x fits h = many_taken o I64 n value.longs (SpellsSigned o w64 8) (items_at (valued (cast_signed w64) o 8) n bytes) bytes x (λ a. refl) (λ a. refl) (λ t a e. e) (λ a e. items_take (SpellsSigned o w64 8) (valued (cast_signed w64) o 8) (signed_takes o w64 8) n bytes a fits e) h
elements_take o U8 n bytes x fits h = many_taken o U8 n value.ubytes (SpellsNumber o 1) (items_at (valued (λ k. k) o 1) n bytes) bytes x (λ a. refl) (λ a. refl) (λ t a e. e) (λ a e. items_take (SpellsNumber o 1) (valued (λ k. k) o 1) (number_is o 1) n bytes a fits e) h
elements_take o U16 n bytes x fits h = many_taken o U16 n value.ushorts (SpellsNumber o 2) (items_at (valued (λ k. k) o 2) n bytes) bytes x (λ a. refl) (λ a. refl) (λ t a e. e) (λ a e. items_take (SpellsNumber o 2) (valued (λ k. k) o 2) (number_is o 2) n bytes a fits e) h
elements_take o U32 n bytes x fits h = many_taken o U32 n value.uints (SpellsNumber o 4) (items_at (valued (λ k. k) o 4) n bytes) bytes x (λ a. refl) (λ a. refl) (λ t a e. e) (λ a e. items_take (SpellsNumber o 4) (valued (λ k. k) o 4) (number_is o 4) n bytes a fits e) h
elements_take o U64 n bytes x fits h = many_taken o U64 n value.ulongs (SpellsNumber o 8) (items_at (valued (λ k. k) o 8) n bytes) bytes x (λ a. refl) (λ a. refl) (λ t a e. e) (λ a e. items_take (SpellsNumber o 8) (valued (λ k. k) o 8) (number_is o 8) n bytes a fits e) h
elements_take o F32 n bytes x fits h = many_taken o F32 n value.floats (SpellsNumber o 4) (items_at (valued (λ k. k) o 4) n bytes) bytes x (λ a. refl) (λ a. refl) (λ t a e. e) (λ a e. items_take (SpellsNumber o 4) (valued (λ k. k) o 4) (number_is o 4) n bytes a fits e) h
elements_take o F64 n bytes x fits h = many_taken o F64 n value.doubles (SpellsNumber o 8) (items_at (valued (λ k. k) o 8) n bytes) bytes x (λ a. refl) (λ a. refl) (λ t a e. e) (λ a e. items_take (SpellsNumber o 8) (valued (λ k. k) o 8) (number_is o 8) n bytes a fits e) h
elements_take o Text n bytes x fits h = many_taken o Text n value.texts (SpellsText o) (items_at (λ b. lifted (text_at o b)) n bytes) bytes x (λ a. refl) (λ a. refl) (λ t a e. e) (λ a e. items_take (SpellsText o) (λ b. lifted (text_at o b)) (text_is o) n bytes a fits e) h

-- a count
pub count_taken : (o : Order) (width : ℕ) (bytes : List ℕ) (x : ℕ × List ℕ) → IsBytes bytes → counted_at o width bytes ≡ Ok x → (text : List ℕ) × SpellsSize o text (Some x.0) × Takes bytes text x.1
count_taken o width bytes x fits h = counted_takes o width bytes x fits (ap desc_reads.lifted h)

pub err_ok : {A E : Type 0} (e : E) (x : A) → ◌≡◌ {A = Result A E} (Err e) (Ok x) → ⊥
err_ok e x h = absurd cc

-- the count of a list is the one that was judged
same_count : (o : Order) (width : ℕ) (bytes : List ℕ) (n x : ℕ × List ℕ) → count_at o bytes ≡ Ok n → counted_at o width bytes ≡ Ok x → n ≡ x
unfolding counted_at
same_count o width bytes n x count h =
    let after : cond (ltb (length n.1) (n.0 * width)) (Err (Short, length bytes)) (Ok (n.0, n.1)) ≡ Ok x = sym (rw count refl) ∙ h in
    elim (chosen (ltb (length n.1) (n.0 * width)) (Err (Short, length bytes)) (Ok (n.0, n.1)) (Ok x) after) [
      | inl short ↦ absurd (err_ok (Short, length bytes) x short.1)
      | inr enough ↦ ok_is (n.0, n.1) x enough.1
    ]

judged_ok : {A : Type 0} (bound n left : ℕ) (read : Result A (ValueCause × ℕ)) (x : A) → judged bound (Some n) left read ≡ Ok x → (n ≤ bound) × (read ≡ Ok x)
judged_ok bound n left read x h =
    elim (chosen (ltb bound n) (Err (OverBound n, left)) read (Ok x) h) [
      | inl over ↦ absurd cc
      | inr within ↦ (ltb-false bound n within.0, within.1)
    ]

-- a list
abbrev pub ListTaken : Order → Scalar → Extent → List ℕ → Data × List ℕ → Type 0
ListTaken o s e bytes x = (text : List ℕ) × (ys : Many) × (x.0 ≡ many ys) × (element_of ys ≡ s) × SpellsList o e text ys × Takes bytes text x.1

counted_list : (o : Order) (s : Scalar) (bytes : List ℕ) (n : ℕ × List ℕ) (x : Data × List ℕ) → IsBytes bytes → counted_at o (width_of s) bytes ≡ Ok n → elements_at o s n.0 n.1 ≡ Ok x
    → (text : List ℕ) × (ys : Many) × (x.0 ≡ many ys) × (element_of ys ≡ s) × (count_of ys ≡ n.0) × Counted o (count_of ys) (λ tail. SpellsMany o tail ys) text × Takes bytes text x.1
counted_list o s bytes n x fits count h =
    let (head, size, took) = count_taken o (width_of s) bytes n fits count in
    let (tail, ys, is, kind, as_many, spelled, others) = elements_take o s n.0 n.1 x took.rest_fits h in
    (head ++ tail, ys, is, kind, as_many, (head, tail, subst (λ (k : ℕ). SpellsSize o head (Some k)) (sym as_many) size, spelled, refl), joined bytes head tail n.1 x.1 took others)

pub list_takes : (o : Order) (s : Scalar) (e : Extent) (bytes : List ℕ) (x : Data × List ℕ) → IsBytes bytes → list_at o s e bytes ≡ Ok x → ListTaken o s e bytes x
unfolding list_at extent_at
list_takes o s Variable bytes x fits h =
    let n = bind_ok (lifted (counted_at o (width_of s) bytes)) (λ n. elements_at o s n.0 n.1) x h in
    let (text, ys, is, kind, as_many, spelled, took) = counted_list o s bytes n.0 x fits (unlifted (counted_at o (width_of s) bytes) n.0 n.1) n.2 in
    (text, ys, is, kind, spelled, took)
list_takes o s (Bounded bound) bytes x fits h =
    let n = bind_ok (lifted (count_at o bytes) >>= λ n. judged bound (Some n.0) (length bytes) (lifted (counted_at o (width_of s) bytes))) (λ n. elements_at o s n.0 n.1) x h in
    let c = bind_ok (lifted (count_at o bytes)) (λ n. judged bound (Some n.0) (length bytes) (lifted (counted_at o (width_of s) bytes))) n.0 n.1 in
    let j = judged_ok bound c.0.0 (length bytes) (lifted (counted_at o (width_of s) bytes)) n.0 c.2 in
    let counted = unlifted (counted_at o (width_of s) bytes) n.0 j.1 in
    let same = same_count o (width_of s) bytes c.0 n.0 (unlifted (count_at o bytes) c.0 c.1) counted in
    let (text, ys, is, kind, as_many, spelled, took) = counted_list o s bytes n.0 x fits counted n.2 in
    (text, ys, is, kind, (omega (arith, as_many, j.0, ap (λ (y : ℕ × List ℕ). y.0) same), spelled), took)
list_takes o s (Fixed size) bytes x fits h =
    let n = bind_ok (cond (ltb (length bytes) (size * width_of s)) (Err (Wire Short, length bytes)) (Ok (size, bytes))) (λ n. elements_at o s n.0 n.1) x h in
    elim (chosen (ltb (length bytes) (size * width_of s)) (Err (Wire Short, length bytes)) (Ok (size, bytes)) (Ok n.0) n.1) [
      | inl short ↦ absurd cc
      | inr enough ↦
          let read : elements_at o s size bytes ≡ Ok x = ap (λ (y : ℕ × List ℕ). elements_at o s y.0 y.1) (ok_is (size, bytes) n.0 enough.1) ∙ n.2 in
          let (text, ys, is, kind, as_many, spelled, took) = elements_take o s size bytes x fits read in
          (text, ys, is, kind, (as_many, spelled), took)
    ]

-- a bounded text
within_bound : (o : Order) (bound : ℕ) (bytes rest text t : List ℕ) (n : Option ℕ × List ℕ) (read : Read (List ℕ) (List ℕ)) (left : ℕ) (x : List ℕ × List ℕ)
    → SpellsText o text t → bytes ≡ text ++ rest → size_at o bytes ≡ Ok n → judged bound n.0 left read ≡ Ok x → length t ≤ bound
within_bound o bound bytes rest text t n read left x (inl null) parts size h = omega (arith, ap length null.1)
within_bound o bound bytes rest text t n read left x (inr spelled) parts size h =
    let (head, is_size, valid, whole) = spelled in
    let again : size_at o bytes ≡ Ok (Some (length t), t ++ rest) = ap (size_at o) (parts ∙ ap (λ (b : List ℕ). b ++ rest) whole ∙ append_assoc head t rest) ∙ size_again o head (t ++ rest) (Some (length t)) is_size in
    let same : n ≡ (Some (length t), t ++ rest) = ok_is n (Some (length t), t ++ rest) (sym size ∙ again) in
    (judged_ok bound (length t) left read x (ap (λ (y : Option ℕ × List ℕ). judged bound y.0 left read) (sym same) ∙ h)).0

judged_read : {A : Type 0} (bound : ℕ) (n : Option ℕ) (left : ℕ) (read : Result A (ValueCause × ℕ)) (x : A) → judged bound n left read ≡ Ok x → read ≡ Ok x
judged_read bound None left read x h = h
judged_read bound (Some n) left read x h = (judged_ok bound n left read x h).1

abbrev pub BoundTaken : Order → ℕ → List ℕ → Data × List ℕ → Type 0
BoundTaken o bound bytes x = (text : List ℕ) × (y : Single) × (x.0 ≡ single y) × SpellsBoundText o bound text y × Takes bytes text x.1

pub bound_takes : (o : Order) (bound : ℕ) (bytes : List ℕ) (x : Data × List ℕ) → IsBytes bytes → bound_text_at o bound bytes ≡ Ok x → BoundTaken o bound bytes x
unfolding bound_text_at
bound_takes o bound bytes x fits h =
    let n = bind_ok (lifted (size_at o bytes)) (λ n. judged bound n.0 (length bytes) (lifted (text_at o bytes)) >>= λ t. Ok (single (value.text t.0), t.1)) x h in
    let t = bind_ok (judged bound n.0.0 (length bytes) (lifted (text_at o bytes))) (λ t. Ok (single (value.text t.0), t.1)) x n.2 in
    let read = judged_read bound n.0.0 (length bytes) (lifted (text_at o bytes)) t.0 t.1 in
    let (text, spelled, took) = text_is o bytes t.0 fits read in
    let short = within_bound o bound bytes t.0.1 text t.0.0 n.0 (lifted (text_at o bytes)) (length bytes) t.0 spelled took.parts (unlifted (size_at o bytes) n.0 n.1) t.1 in
    subst (BoundTaken o bound bytes) (ok_is (single (value.text t.0.0), t.0.1) x t.2) (text, value.text t.0.0, refl, (short, spelled), took)
