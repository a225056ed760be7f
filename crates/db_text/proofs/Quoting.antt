-- A quoted text is read exactly where its characters are written.
use Rattle.std.proofs.Common.{◌≡◌, ◌≢◌, ℕ, zero, suc, ◌≤◌, List, [], ◌∷◌, ◌++◌, length, Option, Some, None, refl, sym, ap, ◌∙◌, arith, inl, inr}
use Rattle.std.proofs.lemmas.Bool.Decides.{eqb_tells}
use Rattle.pvd_type.proofs.Sets.{differs}
use Rattle.db_text.specs.Macros.{front}
use Rattle.db_text.specs.Cutting.{Text, put, escape, escaped_text, quoted_at}
use Rattle.db_text.specs.Grammar.{Char, as_is, escaped, chars_bytes, chars_text, IsQuoted}
use Rattle.db_text.proofs.Quotes.{closes, breaks, escapes, keeps}

abbrev pub the : {A : Type 0} → A → Option A → A
the d None = d
the d (Some x) = x

pub pair_parts : (a c b d : List ℕ) (r s : Text) → r ≡ Some (a, b) → s ≡ Some (c, d) → r ≡ s → (a ≡ c) × (b ≡ d)
pair_parts a c b d r s f g h =
    let e : the (a, b) r ≡ the (a, b) s = ap (the (a, b)) h in
    let x : the (a, b) r ≡ the (a, b) (Some (a, b)) = ap (the (a, b)) f in
    let y : the (a, b) s ≡ the (a, b) (Some (c, d)) = ap (the (a, b)) g in
    let z = sym x ∙ e ∙ y in
    (ap (λ (p : List ℕ × List ℕ). p.0) z, ap (λ (p : List ℕ × List ℕ). p.1) z)

-- the parts of what is put before a text
pub put_gives : (made t next : List ℕ) (r : Text) → put made r ≡ Some (t, next) → (more : List ℕ) × (r ≡ Some (more, next)) × (made ++ more ≡ t)
put_gives made t next None h = absurd cc
put_gives made t next (Some x) h =
    let e = pair_parts (made ++ x.0) t x.1 next (put made (Some x)) (Some (t, next)) refl refl h in
    (x.0, ap (λ (n : List ℕ). Some (x.0, n)) e.1, e.0)

pub quoted_only : (cs : List Char) (rest : List ℕ) (n : ℕ) → length (chars_bytes cs ++ 34 ∷ rest) ≤ n → IsQuoted cs → quoted_at n (chars_bytes cs ++ 34 ∷ rest) ≡ Some (chars_text cs, rest)
quoted_only [] rest zero enough fits = let e : suc (length rest) ≤ 0 = enough in absurd (omega (arith, e))
quoted_only [] rest (suc n) enough fits = closes n 34 rest refl
quoted_only (as_is b ∷ cs) rest zero enough fits = let e : suc (length (chars_bytes cs ++ 34 ∷ rest)) ≤ 0 = enough in absurd (omega (arith, e))
quoted_only (as_is b ∷ cs) rest (suc n) enough fits =
    let e : suc (length (chars_bytes cs ++ 34 ∷ rest)) ≤ suc n = enough in
    keeps n b (chars_bytes cs ++ 34 ∷ rest) (differs b 34 fits.0) (differs b 10 fits.2) (differs b 92 fits.1)
    ∙ ap (put (b ∷ [])) (quoted_only cs rest n (omega (arith, e)) fits.3)
quoted_only (escaped b ∷ cs) rest zero enough fits = let e : suc (suc (length (chars_bytes cs ++ 34 ∷ rest))) ≤ 0 = enough in absurd (omega (arith, e))
quoted_only (escaped b ∷ cs) rest (suc n) enough fits =
    let e : suc (suc (length (chars_bytes cs ++ 34 ∷ rest))) ≤ suc n = enough in
    let stays : escaped_text (quoted_at n) (Some (b, chars_bytes cs ++ 34 ∷ rest)) ≡ put (escape b) (quoted_at n (chars_bytes cs ++ 34 ∷ rest)) = rw (differs b 10 fits.0) refl in
    escapes n 92 (b ∷ (chars_bytes cs ++ 34 ∷ rest)) refl refl refl ∙ stays
    ∙ ap (put (escape b)) (quoted_only cs rest n (omega (arith, e)) fits.1)

abbrev pub QuotedAs : List ℕ → List ℕ → List ℕ → Type 0
QuotedAs bytes t next = (cs : List Char) × (bytes ≡ chars_bytes cs ++ 34 ∷ next) × IsQuoted cs × (t ≡ chars_text cs)

at_nothing : (n : ℕ) → quoted_at n [] ≡ None
unfolding quoted_at
at_nothing zero = refl
at_nothing (suc n) = refl

at_zero : (bytes : List ℕ) → quoted_at zero bytes ≡ None
unfolding quoted_at
at_zero bytes = refl

some_none : (t next : List ℕ) (r : Text) → r ≡ None → r ≡ Some (t, next) → ⊥
some_none t next r a b = absurd cc

kept : (b : ℕ) (rest t next : List ℕ) → (b ≢ 34) → (b ≢ 92) → (b ≢ 10) → (more : List ℕ) → (b ∷ more ≡ t) → QuotedAs rest more next → QuotedAs (b ∷ rest) t next
kept b rest t next quote slash line more made (cs, bytes, fits, meant) =
    (as_is b ∷ cs, ap (λ (xs : List ℕ). b ∷ xs) bytes, (quote, slash, line, fits), sym made ∙ ap (λ (xs : List ℕ). b ∷ xs) meant)

paired : (x : ℕ) (rest t next : List ℕ) → (x ≢ 10) → (more : List ℕ) → (escape x ++ more ≡ t) → QuotedAs rest more next → QuotedAs (92 ∷ x ∷ rest) t next
paired x rest t next line more made (cs, bytes, fits, meant) =
    (escaped x ∷ cs, ap (λ (xs : List ℕ). 92 ∷ x ∷ xs) bytes, (line, fits), sym made ∙ ap (λ (xs : List ℕ). escape x ++ xs) meant)

abbrev Step : ℕ → Type 0
Step n = (bytes t next : List ℕ) → quoted_at n bytes ≡ Some (t, next) → QuotedAs bytes t next

at_quote : (rest t next : List ℕ) (r : Text) → r ≡ Some ([], rest) → r ≡ Some (t, next) → QuotedAs (34 ∷ rest) t next
at_quote rest t next r f e = let p = pair_parts [] t rest next r r f e refl in ([], ap (λ (xs : List ℕ). 34 ∷ xs) p.1, tt, sym p.0)

at_slash : (n : ℕ) (after t next : List ℕ) → Step n → escaped_text (quoted_at n) (front after) ≡ Some (t, next) → QuotedAs (92 ∷ after) t next
at_slash n [] t next step e = absurd (some_none t next None refl e)
at_slash n (x ∷ xs) t next step e =
    elim (eqb_tells x 10) [
      | inl l ↦ absurd (some_none t next (escaped_text (quoted_at n) (front (x ∷ xs))) (rw l.0 refl) e)
      | inr l ↦ let p = put_gives (escape x) t next (quoted_at n xs) (rw l.0 at e) in paired x xs t next l.1 p.0 p.2 (step xs p.0 next p.1)
    ]

at_byte : (n b : ℕ) (rest t next : List ℕ) → Step n → quoted_at (suc n) (b ∷ rest) ≡ Some (t, next) → QuotedAs (b ∷ rest) t next
at_byte n b rest t next step h =
    elim (eqb_tells b 34) [
      | inl q ↦ rw q.1 (at_quote rest t next (quoted_at (suc n) (b ∷ rest)) (closes n b rest q.0) h)
      | inr q ↦ elim (eqb_tells b 10) [
        | inl l ↦ absurd (some_none t next (quoted_at (suc n) (b ∷ rest)) (breaks n b rest q.0 l.0) h)
        | inr l ↦ elim (eqb_tells b 92) [
          | inl s ↦ rw s.1 (at_slash n rest t next step (sym (escapes n b rest q.0 l.0 s.0) ∙ h))
          | inr s ↦ let p = put_gives (b ∷ []) t next (quoted_at n rest) (sym (keeps n b rest q.0 l.0 s.0) ∙ h) in
              kept b rest t next q.1 s.1 l.1 p.0 p.2 (step rest p.0 next p.1)
        ]
      ]
    ]

pub quoted_found : (n : ℕ) (bytes t next : List ℕ) → quoted_at n bytes ≡ Some (t, next) → QuotedAs bytes t next
quoted_found zero bytes t next h = absurd (some_none t next (quoted_at zero bytes) (at_zero bytes) h)
quoted_found (suc n) [] t next h = absurd (some_none t next (quoted_at (suc n) []) (at_nothing (suc n)) h)
quoted_found (suc n) (b ∷ rest) t next h = at_byte n b rest t next (quoted_found n) h
