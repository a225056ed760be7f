-- What follows a default, found step by step.
use Rattle.std.proofs.Common.{◌≡◌, ℕ, zero, suc, ◌≤◌, ◌<◌, eqb, true, false, List, [], ◌∷◌, ◌++◌, reverse, length, Option, Some, None, refl, sym, ap, ◌∙◌, arith}
use Rattle.std.proofs.lemmas.List.{reverse-append, nil_from_length}
use Rattle.std.proofs.lemmas.Bool.{eq-eqb}
use Rattle.pvd_type.proofs.Sets.{differs}
use Rattle.db_text.specs.Macros.{front, either, opening, name_at, closed, nested, behind_default}

pub front_is : (bytes : List ℕ) (b : ℕ) (rest : List ℕ) → Some (b, rest) ≡ front bytes → bytes ≡ b ∷ rest
front_is [] b rest h = absurd cc
front_is (x ∷ xs) b rest h = ap whole (sym h)
  where
    whole : Option (ℕ × List ℕ) → List ℕ
    whole None = []
    whole (Some p) = p.0 ∷ p.1

pub no_front : (bytes : List ℕ) → None ≡ front bytes → bytes ≡ []
no_front [] h = refl
no_front (x ∷ xs) h = absurd cc

pub popped : (xs ys : List ℕ) (x : ℕ) → xs ≡ ys ++ x ∷ [] → reverse xs ≡ x ∷ reverse ys
popped xs ys x e = ap reverse e ∙ reverse-append ys (x ∷ [])

pub emptied : (xs : List ℕ) → length xs ≡ 0 → reverse xs ≡ []
emptied xs e = ap reverse (nil_from_length xs e)

abbrev pub Still : ℕ → List ℕ → List ℕ → Option (List ℕ) → Type 0
Still closer outer bytes whole = (n : ℕ) × (length bytes ≤ n) × (behind_default n closer outer bytes ≡ whole)

-- the step at a byte
stepped : (n closer : ℕ) (outer : List ℕ) (b : ℕ) (rest : List ℕ) → (eqb b 10 ≡ false) → (eqb b closer ≡ false)
    → behind_default (suc n) closer outer (b ∷ rest) ≡ either (behind_default n closer outer rest) (λ m. nested (behind_default n) closer outer m.0 (name_at m.0 m.1)) (opening (b ∷ rest))
unfolding behind_default
stepped n closer outer b rest line other = rw (line, other) refl

closes : (n closer : ℕ) (outer : List ℕ) (b : ℕ) (rest : List ℕ) → (eqb b 10 ≡ false) → (eqb b closer ≡ true) → behind_default (suc n) closer outer (b ∷ rest) ≡ closed (behind_default n) outer rest
unfolding behind_default
closes n closer outer b rest line is = rw (line, is) refl

line_ends : (n closer : ℕ) (outer : List ℕ) (b : ℕ) (rest : List ℕ) → (eqb b 10 ≡ true) → behind_default n closer outer (b ∷ rest) ≡ None
unfolding behind_default
line_ends zero closer outer b rest is = refl
line_ends (suc n) closer outer b rest is = rw is refl

pub bytes_end : (n closer : ℕ) (outer : List ℕ) → behind_default n closer outer [] ≡ None
unfolding behind_default
bytes_end zero closer outer = refl
bytes_end (suc n) closer outer = refl

pub still_ended : (closer : ℕ) (outer bytes : List ℕ) (whole : Option (List ℕ)) → None ≡ front bytes → Still closer outer bytes whole → None ≡ whole
still_ended closer outer bytes whole none (n, enough, same) = sym (ap (behind_default n closer outer) (no_front bytes none) ∙ bytes_end n closer outer) ∙ same

module _ (closer : ℕ) (outer bytes : List ℕ) (whole : Option (List ℕ)) (b : ℕ) (rest : List ℕ) (is : Some (b, rest) ≡ front bytes) where
  pub still_line : b ≡ 10 → Still closer outer bytes whole → None ≡ whole
  still_line line (n, enough, same) = sym (line_ends n closer outer b rest (eq-eqb b 10 line)) ∙ ap (behind_default n closer outer) (sym (front_is bytes b rest is)) ∙ same

  module _ (line : b ≡ 10 → ⊥) where
    pub still_closed : b ≡ closer → outer ≡ [] → Still closer outer bytes whole → Some rest ≡ whole
    still_closed here none (zero, enough, same) = let e = ap length (front_is bytes b rest is) in absurd (omega (arith, e))
    still_closed here none (suc n, enough, same) =
        sym (ap (behind_default (suc n) closer outer) (front_is bytes b rest is) ∙ closes n closer outer b rest (differs b 10 line) (eq-eqb b closer here) ∙ ap (λ (o : List ℕ). closed (behind_default n) o rest) none) ∙ same

    pub still_outer : (next : ℕ) (others : List ℕ) → b ≡ closer → outer ≡ next ∷ others → Still closer outer bytes whole → Still next others rest whole
    still_outer next others here awaits (zero, enough, same) = let e = ap length (front_is bytes b rest is) in absurd (omega (arith, e))
    still_outer next others here awaits (suc n, enough, same) =
        let e = ap length (front_is bytes b rest is) in
        (n, omega (arith, e), sym (ap (behind_default (suc n) closer outer) (front_is bytes b rest is) ∙ closes n closer outer b rest (differs b 10 line) (eq-eqb b closer here) ∙ ap (λ (o : List ℕ). closed (behind_default n) o rest) awaits) ∙ same)

    module _ (other : b ≡ closer → ⊥) where
      next_step : (n : ℕ) → behind_default (suc n) closer outer bytes ≡ either (behind_default n closer outer rest) (λ m. nested (behind_default n) closer outer m.0 (name_at m.0 m.1)) (opening bytes)
      next_step n =
          ap (behind_default (suc n) closer outer) (front_is bytes b rest is) ∙ stepped n closer outer b rest (differs b 10 line) (differs b closer other)
          ∙ ap (λ (xs : List ℕ). either (behind_default n closer outer rest) (λ m. nested (behind_default n) closer outer m.0 (name_at m.0 m.1)) (opening xs)) (sym (front_is bytes b rest is))

      pub still_plain : None ≡ opening bytes → Still closer outer bytes whole → Still closer outer rest whole
      still_plain none (zero, enough, same) = let e = ap length (front_is bytes b rest is) in absurd (omega (arith, e))
      still_plain none (suc n, enough, same) =
          let e = ap length (front_is bytes b rest is) in
          (n, omega (arith, e), ap (either (behind_default n closer outer rest) (λ m. nested (behind_default n) closer outer m.0 (name_at m.0 m.1))) none ∙ sym (next_step n) ∙ same)

      module _ (inner : ℕ) (after : List ℕ) (opens : Some (inner, after) ≡ opening bytes) where
        nested_step : (n : ℕ) → behind_default (suc n) closer outer bytes ≡ nested (behind_default n) closer outer inner (name_at inner after)
        nested_step n = next_step n ∙ ap (either (behind_default n closer outer rest) (λ m. nested (behind_default n) closer outer m.0 (name_at m.0 m.1))) (sym opens)

        pub still_unnamed : None ≡ name_at inner after → Still closer outer bytes whole → None ≡ whole
        still_unnamed none (zero, enough, same) = let e = ap length (front_is bytes b rest is) in absurd (omega (arith, e))
        still_unnamed none (suc n, enough, same) = sym (nested_step n ∙ ap (nested (behind_default n) closer outer inner) (sym none)) ∙ same

        module _ (name : List ℕ) (end : ℕ) (left : List ℕ) (named : Some (name, end, left) ≡ name_at inner after) (shorter : length left < length bytes) where
          pub still_nested : (end ≡ inner → ⊥) → Still closer outer bytes whole → Still inner (closer ∷ outer) left whole
          still_nested default (zero, enough, same) = absurd (omega arith)
          still_nested default (suc n, enough, same) =
              (n, omega arith, sym (nested_step n ∙ ap (nested (behind_default n) closer outer inner) (sym named) ∙ rw (differs end inner default) refl) ∙ same)

          pub still_passed : end ≡ inner → Still closer outer bytes whole → Still closer outer left whole
          still_passed here (zero, enough, same) = absurd (omega arith)
          still_passed here (suc n, enough, same) =
              (n, omega arith, sym (nested_step n ∙ ap (nested (behind_default n) closer outer inner) (sym named) ∙ rw (eq-eqb end inner here) refl) ∙ same)
