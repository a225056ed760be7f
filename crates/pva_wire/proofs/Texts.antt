-- A text is read as it is spelled, and what is read is spelled so.
use Rattle.std.proofs.Common.{◌≡◌, ℕ, ◌≤◌, Bool, true, false, cond, ltb, List, [], ◌∷◌, ◌++◌, length, take, drop, Option, Some, None, Ok, Err, refl, sym, ap, subst, ◌∙◌, append_assoc, arith, inl, inr}
use Rattle.std.specs.Str.{IsUtf8, is_utf8}
use Rattle.std.proofs.lemmas.Str.{is_utf8-from_IsUtf8, IsUtf8-from_is_utf8}
use Rattle.std.proofs.lemmas.Bool.{ltb-false, le-ltb}
use Rattle.std.proofs.lemmas.List.{take_at, drop_at, take-append-drop, length-take, length-append}
use Rattle.pva_wire.specs.declared.order.Order.{Order}
use Rattle.pva_wire.specs.declared.fault.Cause.TheVariants.{Short, NotUtf8}
use Rattle.pva_wire.specs.Spelling.{SpellsSize, SpellsText, IsBytes}
use Rattle.pva_wire.specs.Reading.{size_at, letters_at, text_of_size, text_at}
use Rattle.pva_wire.proofs.Takes.{Takes, IsBytes-drop, chosen, ok_is, bind_ok}
use Rattle.pva_wire.proofs.Sizes.{size_again, size_takes}

letters_again : (text rest : List ℕ) → IsUtf8 text → letters_at (length text) (text ++ rest) ≡ Ok (text, rest)
unfolding letters_at
letters_again text rest h =
    let enough : ltb (length (text ++ rest)) (length text) ≡ false = le-ltb (length (text ++ rest)) (length text) (omega (arith, length-append text rest)) in
    let valid : is_utf8 text ≡ true = is_utf8-from_IsUtf8 text h in
    rw (enough, take_at text rest (length text) refl, drop_at text rest (length text) refl, valid) refl

null_again : (o : Order) (rest : List ℕ) → text_at o (255 ∷ rest) ≡ Ok ([], rest)
unfolding text_at size_at
null_again o rest = refl

sized_again : (o : Order) (size text rest : List ℕ) → SpellsSize o size (Some (length text)) → IsUtf8 text → text_at o (size ++ (text ++ rest)) ≡ Ok (text, rest)
unfolding text_at
sized_again o size text rest is_size valid = rw (size_again o size (text ++ rest) (Some (length text)) is_size) (letters_again text rest valid)

pub text_again : (o : Order) (bytes text rest : List ℕ) → SpellsText o bytes text → text_at o (bytes ++ rest) ≡ Ok (text, rest)
text_again o bytes text rest (inl null) =
    ap (λ (t : List ℕ). text_at o (t ++ rest)) null.0 ∙ null_again o rest ∙ ap (λ (t : List ℕ). Ok (t, rest)) (sym null.1)
text_again o bytes text rest (inr spelled) =
    let (size, is_size, valid, parts) = spelled in
    ap (λ (t : List ℕ). text_at o (t ++ rest)) parts ∙ ap (text_at o) (append_assoc size text rest) ∙ sized_again o size text rest is_size valid

-- bytes that are no text
pub not_utf8 : (bs : List ℕ) (b : Bool) → is_utf8 bs ≡ b → (IsUtf8 bs → ⊥) → b ≡ false
not_utf8 bs true e h = absurd (h (IsUtf8-from_is_utf8 bs e))
not_utf8 bs false e h = refl

letters_takes : (n : ℕ) (bytes : List ℕ) (x : List ℕ × List ℕ) → IsBytes bytes → letters_at n bytes ≡ Ok x → (length x.0 ≡ n) × IsUtf8 x.0 × Takes bytes x.0 x.1
unfolding letters_at
letters_takes n bytes x fits h =
    elim (chosen (ltb (length bytes) n) (Err (Short, length bytes)) (cond (is_utf8 (take n bytes)) (Ok (take n bytes, drop n bytes)) (Err (NotUtf8, length bytes))) (Ok x) h) [
      | inl short ↦ absurd cc
      | inr a ↦ elim (chosen (is_utf8 (take n bytes)) (Ok (take n bytes, drop n bytes)) (Err (NotUtf8, length bytes)) (Ok x) a.1) [
        | inl b ↦
            let enough : n ≤ length bytes = ltb-false (length bytes) n a.0 in
            subst (λ (y : List ℕ × List ℕ). (length y.0 ≡ n) × IsUtf8 y.0 × Takes bytes y.0 y.1) (ok_is (take n bytes, drop n bytes) x b.1)
            (omega (arith, length-take n bytes), IsUtf8-from_is_utf8 (take n bytes) b.0, record { parts = sym (take-append-drop n bytes); rest_fits = IsBytes-drop n bytes fits })
        | inr bad ↦ absurd cc
      ]
    ]

of_size_takes : (o : Order) (bytes : List ℕ) (size : Option ℕ) (after : List ℕ) (x : List ℕ × List ℕ) → (text : List ℕ) × SpellsSize o text size × Takes bytes text after → text_of_size size after ≡ Ok x
    → (text : List ℕ) × SpellsText o text x.0 × Takes bytes text x.1
of_size_takes o bytes None after x taken h =
    subst (λ (y : List ℕ × List ℕ). (text : List ℕ) × SpellsText o text y.0 × Takes bytes text y.1) (ok_is ([], after) x h) (taken.0, inl (taken.1, refl), taken.2)
of_size_takes o bytes (Some n) after x taken h =
    let t = letters_takes n after x taken.2.rest_fits h in
    let is_size : SpellsSize o taken.0 (Some (length x.0)) = rw t.0 taken.1 in (
      taken.0 ++ x.0,
      inr (taken.0, is_size, t.1, refl),
      record { parts = taken.2.parts ∙ ap (λ (r : List ℕ). taken.0 ++ r) t.2.parts ∙ sym (append_assoc taken.0 x.0 x.1); rest_fits = t.2.rest_fits },
    )

pub text_takes : (o : Order) (bytes : List ℕ) (x : List ℕ × List ℕ) → IsBytes bytes → text_at o bytes ≡ Ok x → (text : List ℕ) × SpellsText o text x.0 × Takes bytes text x.1
unfolding text_at
text_takes o bytes x fits h =
    let b = bind_ok (size_at o bytes) (λ size. text_of_size size.0 size.1) x h in
    of_size_takes o bytes b.0.0 b.0.1 x (size_takes o bytes b.0 fits b.1) b.2
