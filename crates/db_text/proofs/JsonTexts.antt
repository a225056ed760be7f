-- JSON, read step by step.
use Rattle.std.proofs.Common.{◌≡◌, ℕ, zero, suc, ◌+◌, ◌-◌, ◌≤◌, Bool, eqb, cond, true, false, not, List, [], ◌∷◌, ◌++◌, length, take, drop, Some, None, refl, sym, ap, ◌∙◌, arith}
use Rattle.std.proofs.lemmas.Bool.{eq-eqb}
use Rattle.pvd_type.proofs.Sets.{differs}
use Rattle.db_text.specs.Macros.{front}
use Rattle.db_text.specs.Cutting.{Text, put, is_key, key_text, word_len, kept_pair, json_at}
use Rattle.db_text.proofs.Defaults.{front_is, no_front}
use Rattle.db_text.proofs.Quotes.{put_more}

abbrev pub Braces : Bool → ℕ → List ℕ → List ℕ → Text → Type 0
Braces quoted depth done bytes whole = (n : ℕ) × (length bytes ≤ n) × (put done (json_at n quoted depth bytes) ≡ whole)

pub at_end : (n : ℕ) (quoted : Bool) (depth : ℕ) → json_at n quoted depth [] ≡ None
unfolding json_at
at_end zero quoted depth = refl
at_end (suc n) quoted depth = refl

pub json_end : (quoted : Bool) (depth : ℕ) (done bytes : List ℕ) (whole : Text) → None ≡ front bytes → Braces quoted depth done bytes whole → None ≡ whole
json_end quoted depth done bytes whole none (n, enough, same) = sym (ap (λ (xs : List ℕ). put done (json_at n quoted depth xs)) (no_front bytes none) ∙ ap (put done) (at_end n quoted depth)) ∙ same

pub pairs : (n depth b : ℕ) (rest : List ℕ) → eqb b 92 ≡ true → json_at (suc n) true depth (b ∷ rest) ≡ kept_pair b (json_at n true depth) (front rest)
unfolding json_at
pairs n depth b rest is = rw is refl

pub keeps : (n depth b : ℕ) (rest : List ℕ) → eqb b 92 ≡ false → json_at (suc n) true depth (b ∷ rest) ≡ put (b ∷ []) (json_at n (not (eqb b 34)) depth rest)
unfolding json_at
keeps n depth b rest is = rw is refl

pub words : (n depth b : ℕ) (rest : List ℕ) → is_key b ≡ true
    → json_at (suc n) false depth (b ∷ rest) ≡ put (key_text (b ∷ take (word_len rest) rest) (drop (word_len rest) rest)) (json_at n false depth (drop (word_len rest) rest))
unfolding json_at
words n depth b rest is = rw is refl

pub closes : (n depth b : ℕ) (rest : List ℕ) → is_key b ≡ false → eqb b 125 ≡ true → json_at (suc n) false depth (b ∷ rest) ≡ cond (eqb depth 0) (Some (b ∷ [], rest)) (put (b ∷ []) (json_at n false (depth - 1) rest))
unfolding json_at
closes n depth b rest other is = rw (other, is) refl

pub others : (n depth b : ℕ) (rest : List ℕ) → is_key b ≡ false → eqb b 125 ≡ false → json_at (suc n) false depth (b ∷ rest) ≡ put (b ∷ []) (json_at n (eqb b 34) (cond (eqb b 123) (depth + 1) depth) rest)
unfolding json_at
others n depth b rest other is = rw (other, is) refl

module _ (depth : ℕ) (done bytes : List ℕ) (whole : Text) (b : ℕ) (rest : List ℕ) (is : Some (b, rest) ≡ front bytes) where
  at_byte : (n : ℕ) (quoted : Bool) → json_at n quoted depth bytes ≡ json_at n quoted depth (b ∷ rest)
  at_byte n quoted = ap (json_at n quoted depth) (front_is bytes b rest is)

  -- one step, which puts some bytes and goes on
  goes_on : (n : ℕ) (quoted after : Bool) (deep : ℕ) (made next : List ℕ) → json_at (suc n) quoted depth (b ∷ rest) ≡ put made (json_at n after deep next) → put done (json_at (suc n) quoted depth bytes) ≡ whole
      → put (done ++ made) (json_at n after deep next) ≡ whole
  goes_on n quoted after deep made next step same = sym (put_more done made (json_at n after deep next)) ∙ ap (put done) (sym (at_byte (suc n) quoted ∙ step)) ∙ same

  pub json_cut : b ≡ 92 → None ≡ front rest → Braces true depth done bytes whole → None ≡ whole
  json_cut here none (zero, enough, same) = let e = ap length (front_is bytes b rest is) in absurd (omega (arith, e))
  json_cut here none (suc n, enough, same) = ap (put done) (sym (at_byte (suc n) true ∙ pairs n depth b rest (eq-eqb b 92 here) ∙ ap (kept_pair b (json_at n true depth)) (sym none))) ∙ same

  pub json_pair : (second : ℕ) (next : List ℕ) → b ≡ 92 → Some (second, next) ≡ front rest → Braces true depth done bytes whole → Braces true depth (done ++ (b ∷ second ∷ [])) next whole
  json_pair second next here after (zero, enough, same) = let e = ap length (front_is bytes b rest is) in absurd (omega (arith, e))
  json_pair second next here after (suc n, enough, same) =
      let e = ap length (front_is bytes b rest is) in
      let f = ap length (front_is rest second next after) in
      (n, omega (arith, e, f), goes_on n true true depth (b ∷ second ∷ []) next (pairs n depth b rest (eq-eqb b 92 here) ∙ ap (kept_pair b (json_at n true depth)) (sym after)) same)

  pub json_quoted : (b ≡ 92 → ⊥) → Braces true depth done bytes whole → Braces (not (eqb b 34)) depth (done ++ b ∷ []) rest whole
  json_quoted other (zero, enough, same) = let e = ap length (front_is bytes b rest is) in absurd (omega (arith, e))
  json_quoted other (suc n, enough, same) =
      let e = ap length (front_is bytes b rest is) in (n, omega (arith, e), goes_on n true (not (eqb b 34)) depth (b ∷ []) rest (keeps n depth b rest (differs b 92 other)) same)

  pub json_word : (word next : List ℕ) → is_key b ≡ true → word ≡ take (word_len rest) rest → next ≡ drop (word_len rest) rest → length next ≤ length rest → Braces false depth done bytes whole
      → Braces false depth (done ++ key_text (b ∷ word) next) next whole
  json_word word next key taken left shorter (zero, enough, same) = let e = ap length (front_is bytes b rest is) in absurd (omega (arith, e))
  json_word word next key taken left shorter (suc n, enough, same) =
      let e = ap length (front_is bytes b rest is) in (
        n,
        omega (arith, e),
        goes_on n false false depth (key_text (b ∷ word) next) next
            (words n depth b rest key ∙ ap (λ (w : List ℕ). put (key_text (b ∷ w) (drop (word_len rest) rest)) (json_at n false depth (drop (word_len rest) rest))) (sym taken)
            ∙ ap (λ (x : List ℕ). put (key_text (b ∷ word) x) (json_at n false depth x)) (sym left)) same,
      )

  module _ (no_key : is_key b ≡ false) where
    pub json_closed : b ≡ 125 → depth ≡ 0 → Braces false depth done bytes whole → Some (done ++ b ∷ [], rest) ≡ whole
    json_closed here none (zero, enough, same) = let e = ap length (front_is bytes b rest is) in absurd (omega (arith, e))
    json_closed here none (suc n, enough, same) =
        let ends : cond (eqb depth 0) (Some (b ∷ [], rest)) (put (b ∷ []) (json_at n false (depth - 1) rest)) ≡ Some (b ∷ [], rest) = rw (eq-eqb depth 0 none) refl in
        ap (put done) (sym (at_byte (suc n) false ∙ closes n depth b rest no_key (eq-eqb b 125 here) ∙ ends)) ∙ same

    pub json_close : b ≡ 125 → (depth ≡ 0 → ⊥) → Braces false depth done bytes whole → Braces false (depth - 1) (done ++ b ∷ []) rest whole
    json_close here some (zero, enough, same) = let e = ap length (front_is bytes b rest is) in absurd (omega (arith, e))
    json_close here some (suc n, enough, same) =
        let e = ap length (front_is bytes b rest is) in
        let goes : cond (eqb depth 0) (Some (b ∷ [], rest)) (put (b ∷ []) (json_at n false (depth - 1) rest)) ≡ put (b ∷ []) (json_at n false (depth - 1) rest) = rw (differs depth 0 some) refl in
        (n, omega (arith, e), goes_on n false false (depth - 1) (b ∷ []) rest (closes n depth b rest no_key (eq-eqb b 125 here) ∙ goes) same)

    pub json_open : (b ≡ 125 → ⊥) → b ≡ 123 → Braces false depth done bytes whole → Braces (eqb b 34) (depth + 1) (done ++ b ∷ []) rest whole
    json_open other here (zero, enough, same) = let e = ap length (front_is bytes b rest is) in absurd (omega (arith, e))
    json_open other here (suc n, enough, same) =
        let e = ap length (front_is bytes b rest is) in
        let deeper : cond (eqb b 123) (depth + 1) depth ≡ depth + 1 = rw (eq-eqb b 123 here) refl in
        (n, omega (arith, e), goes_on n false (eqb b 34) (depth + 1) (b ∷ []) rest (others n depth b rest no_key (differs b 125 other) ∙ ap (λ d. put (b ∷ []) (json_at n (eqb b 34) d rest)) deeper) same)

    pub json_other : (b ≡ 125 → ⊥) → (b ≡ 123 → ⊥) → Braces false depth done bytes whole → Braces (eqb b 34) depth (done ++ b ∷ []) rest whole
    json_other other plain (zero, enough, same) = let e = ap length (front_is bytes b rest is) in absurd (omega (arith, e))
    json_other other plain (suc n, enough, same) =
        let e = ap length (front_is bytes b rest is) in
        let even : cond (eqb b 123) (depth + 1) depth ≡ depth = rw (differs b 123 plain) refl in
        (n, omega (arith, e), goes_on n false (eqb b 34) depth (b ∷ []) rest (others n depth b rest no_key (differs b 125 other) ∙ ap (λ d. put (b ∷ []) (json_at n (eqb b 34) d rest)) even) same)
