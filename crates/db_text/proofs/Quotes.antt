-- A quoted text, read step by step.
use Rattle.std.proofs.Common.{◌≡◌, ℕ, zero, suc, ◌≤◌, eqb, true, false, List, [], ◌∷◌, ◌++◌, length, Some, None, refl, sym, ap, ◌∙◌, arith, append_assoc}
use Rattle.std.proofs.lemmas.List.{append-nil}
use Rattle.std.proofs.lemmas.Bool.{eq-eqb}
use Rattle.pvd_type.proofs.Sets.{differs}
use Rattle.db_text.specs.Macros.{front}
use Rattle.db_text.specs.Cutting.{Text, put, escape, escaped_text, quoted_at}
use Rattle.db_text.proofs.Defaults.{front_is, no_front}

pub put_more : (a b : List ℕ) (r : Text) → put a (put b r) ≡ put (a ++ b) r
put_more a b None = refl
put_more a b (Some t) = ap (λ (xs : List ℕ). Some (xs, t.1)) (sym (append_assoc a b t.0))

abbrev pub Quotes : List ℕ → List ℕ → Text → Type 0
Quotes done bytes whole = (n : ℕ) × (length bytes ≤ n) × (put done (quoted_at n bytes) ≡ whole)

at_end : (n : ℕ) → quoted_at n [] ≡ None
unfolding quoted_at
at_end zero = refl
at_end (suc n) = refl

pub closes : (n b : ℕ) (rest : List ℕ) → eqb b 34 ≡ true → quoted_at (suc n) (b ∷ rest) ≡ Some ([], rest)
unfolding quoted_at
closes n b rest is = rw is refl

pub breaks : (n b : ℕ) (rest : List ℕ) → eqb b 34 ≡ false → eqb b 10 ≡ true → quoted_at (suc n) (b ∷ rest) ≡ None
unfolding quoted_at
breaks n b rest other is = rw (other, is) refl

pub escapes : (n b : ℕ) (rest : List ℕ) → eqb b 34 ≡ false → eqb b 10 ≡ false → eqb b 92 ≡ true → quoted_at (suc n) (b ∷ rest) ≡ escaped_text (quoted_at n) (front rest)
unfolding quoted_at
escapes n b rest other line is = rw (other, line, is) refl

pub keeps : (n b : ℕ) (rest : List ℕ) → eqb b 34 ≡ false → eqb b 10 ≡ false → eqb b 92 ≡ false → quoted_at (suc n) (b ∷ rest) ≡ put (b ∷ []) (quoted_at n rest)
unfolding quoted_at
keeps n b rest other line is = rw (other, line, is) refl

pub quotes_end : (done bytes : List ℕ) (whole : Text) → None ≡ front bytes → Quotes done bytes whole → None ≡ whole
quotes_end done bytes whole none (n, enough, same) = sym (ap (λ (xs : List ℕ). put done (quoted_at n xs)) (no_front bytes none) ∙ ap (put done) (at_end n)) ∙ same

module _ (done bytes : List ℕ) (whole : Text) (b : ℕ) (rest : List ℕ) (is : Some (b, rest) ≡ front bytes) where
  at_byte : (n : ℕ) → quoted_at n bytes ≡ quoted_at n (b ∷ rest)
  at_byte n = ap (quoted_at n) (front_is bytes b rest is)

  pub quotes_close : b ≡ 34 → Quotes done bytes whole → Some (done, rest) ≡ whole
  quotes_close here (zero, enough, same) = let e = ap length (front_is bytes b rest is) in absurd (omega (arith, e))
  quotes_close here (suc n, enough, same) =
      ap (λ (xs : List ℕ). Some (xs, rest)) (sym (append-nil done)) ∙ ap (put done) (sym (at_byte (suc n) ∙ closes n b rest (eq-eqb b 34 here))) ∙ same

  module _ (other : b ≡ 34 → ⊥) where
    pub quotes_break : b ≡ 10 → Quotes done bytes whole → None ≡ whole
    quotes_break here (zero, enough, same) = let e = ap length (front_is bytes b rest is) in absurd (omega (arith, e))
    quotes_break here (suc n, enough, same) = ap (put done) (sym (at_byte (suc n) ∙ breaks n b rest (differs b 34 other) (eq-eqb b 10 here))) ∙ same

    module _ (line : b ≡ 10 → ⊥) where
      pub quotes_keep : (b ≡ 92 → ⊥) → Quotes done bytes whole → Quotes (done ++ b ∷ []) rest whole
      quotes_keep plain (zero, enough, same) = let e = ap length (front_is bytes b rest is) in absurd (omega (arith, e))
      quotes_keep plain (suc n, enough, same) =
          let e = ap length (front_is bytes b rest is) in
          (n, omega (arith, e), sym (put_more done (b ∷ []) (quoted_at n rest)) ∙ ap (put done) (sym (at_byte (suc n) ∙ keeps n b rest (differs b 34 other) (differs b 10 line) (differs b 92 plain))) ∙ same)

      module _ (here : b ≡ 92) where
        escape_step : (n : ℕ) → quoted_at (suc n) bytes ≡ escaped_text (quoted_at n) (front rest)
        escape_step n = at_byte (suc n) ∙ escapes n b rest (differs b 34 other) (differs b 10 line) (eq-eqb b 92 here)

        pub quotes_cut : None ≡ front rest → Quotes done bytes whole → None ≡ whole
        quotes_cut none (zero, enough, same) = let e = ap length (front_is bytes b rest is) in absurd (omega (arith, e))
        quotes_cut none (suc n, enough, same) = ap (put done) (sym (escape_step n ∙ ap (escaped_text (quoted_at n)) (sym none))) ∙ same

        module _ (second : ℕ) (next : List ℕ) (after : Some (second, next) ≡ front rest) where
          pub quotes_broken : second ≡ 10 → Quotes done bytes whole → None ≡ whole
          quotes_broken ends (zero, enough, same) = let e = ap length (front_is bytes b rest is) in absurd (omega (arith, e))
          quotes_broken ends (suc n, enough, same) =
              let none : escaped_text (quoted_at n) (Some (second, next)) ≡ None = rw (eq-eqb second 10 ends) refl in
              ap (put done) (sym (escape_step n ∙ ap (escaped_text (quoted_at n)) (sym after) ∙ none)) ∙ same

          pub quotes_escape : (second ≡ 10 → ⊥) → Quotes done bytes whole → Quotes (done ++ escape second) next whole
          quotes_escape stays (zero, enough, same) = let e = ap length (front_is bytes b rest is) in absurd (omega (arith, e))
          quotes_escape stays (suc n, enough, same) =
              let e = ap length (front_is bytes b rest is) in
              let f = ap length (front_is rest second next after) in
              let one : escaped_text (quoted_at n) (Some (second, next)) ≡ put (escape second) (quoted_at n next) = rw (differs second 10 stays) refl in (
                n,
                omega (arith, e, f),
                sym (put_more done (escape second) (quoted_at n next))
                    ∙ ap (put done) (sym (escape_step n ∙ ap (escaped_text (quoted_at n)) (sym after) ∙ one)) ∙ same,
              )
