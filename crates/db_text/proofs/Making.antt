-- What stands for a macro, made step by step.
use Rattle.std.proofs.Common.{◌≡◌, ℕ, zero, suc, ◌-◌, ◌≤◌, ◌<◌, List, [], ◌∷◌, ◌++◌, length, Some, None, Result, Ok, Err, refl, sym, ap, ◌∙◌, arith, append_assoc}
use Rattle.std.proofs.lemmas.List.{append-nil}
use Rattle.db_text.specs.Macros.{Macros, MacroFault, Made, front, either, opening, chosen, before, made_then, after_macro, made_with, made_inside}
use Rattle.db_text.specs.declared.fault.MacroStop.{MacroStop}
use Rattle.db_text.specs.declared.fault.MacroStop.TheVariants.{Unclosed, Unknown, TooDeep, Memory}
use Rattle.db_text.specs.Stops.{Fails}
use Rattle.db_text.proofs.Defaults.{front_is, no_front}

pub before_more : {E : Type 0} (a b : List ℕ) (r : Result (List ℕ) E) → before a (before b r) ≡ before (a ++ b) r
before_more a b (Ok c) = ap (λ (xs : List ℕ). Ok xs) (sym (append_assoc a b c))
before_more a b (Err e) = refl

pub fails_more : (stop : MacroStop) (done : List ℕ) (r : Made (List ℕ)) → Fails stop (before done r) → Fails stop r
fails_more Memory done r h = tt
fails_more Unclosed done (Ok x) h = absurd cc
fails_more Unclosed done (Err e) h = h
fails_more (Unknown name) done (Ok x) h = absurd cc
fails_more (Unknown name) done (Err e) h = h
fails_more TooDeep done (Ok x) h = absurd cc
fails_more TooDeep done (Err e) h = h

-- a reading that passes a fault on
fails_on : (A B : Type 0) (f : Made A → Made B) (stop : MacroStop) (r : Made A) → ((e : MacroFault) → f (Err e) ≡ Err e) → Fails stop r → Fails stop (f r)
fails_on A B f Memory r on h = tt
fails_on A B f Unclosed r on h = ap f h ∙ on _
fails_on A B f (Unknown name) r on h = ap f h ∙ on _
fails_on A B f TooDeep r on h = ap f h ∙ on _

fails_as : (A : Type 0) (stop : MacroStop) (r s : Made A) → r ≡ s → Fails stop r → Fails stop s
fails_as A Memory r s e h = tt
fails_as A Unclosed r s e h = sym e ∙ h
fails_as A (Unknown name) r s e h = sym e ∙ h
fails_as A TooDeep r s e h = sym e ∙ h

pub inside_is : (ms : Macros) (room : ℕ) (text : List ℕ) → 0 < room → made_inside ms room text ≡ made_with ms (room - 1) (made_inside ms (room - 1)) (length text) text
unfolding made_inside
inside_is ms zero text h = absurd (omega arith)
inside_is ms (suc room) text h = let e : suc room - 1 ≡ room = omega arith in rw e refl

module _ (ms : Macros) (room : ℕ) where
  abbrev pub Goes : List ℕ → List ℕ → Made (List ℕ) → Type 0
  Goes done bytes whole = (n : ℕ) × (length bytes ≤ n) × (before done (made_with ms room (made_inside ms room) n bytes) ≡ whole)

  bytes_end : (n : ℕ) → made_with ms room (made_inside ms room) n [] ≡ Ok []
  unfolding made_with
  bytes_end zero = refl
  bytes_end (suc n) = refl

  stepped : (n b : ℕ) (rest : List ℕ) → made_with ms room (made_inside ms room) (suc n) (b ∷ rest)
      ≡ either (before (b ∷ []) (made_with ms room (made_inside ms room) n rest)) (λ o. after_macro (made_inside ms room) (made_with ms room (made_inside ms room) n) (chosen ms room o.0 o.1)) (opening (b ∷ rest))
  unfolding made_with
  stepped n b rest = refl

  pub goes_end : (done bytes : List ℕ) (whole : Made (List ℕ)) → None ≡ front bytes → Goes done bytes whole → whole ≡ Ok done
  goes_end done bytes whole none (n, enough, same) =
      sym same ∙ ap (λ (xs : List ℕ). before done (made_with ms room (made_inside ms room) n xs)) (no_front bytes none) ∙ ap (before done) (bytes_end n) ∙ ap (λ (xs : List ℕ). Ok xs) (append-nil done)

  module _ (done bytes : List ℕ) (whole : Made (List ℕ)) (b : ℕ) (rest : List ℕ) (is : Some (b, rest) ≡ front bytes) where
    step : (n : ℕ) → made_with ms room (made_inside ms room) (suc n) bytes
        ≡ either (before (b ∷ []) (made_with ms room (made_inside ms room) n rest)) (λ o. after_macro (made_inside ms room) (made_with ms room (made_inside ms room) n) (chosen ms room o.0 o.1)) (opening bytes)
    step n =
        ap (made_with ms room (made_inside ms room) (suc n)) (front_is bytes b rest is) ∙ stepped n b rest
        ∙ ap (λ (xs : List ℕ). either (before (b ∷ []) (made_with ms room (made_inside ms room) n rest)) (λ o. after_macro (made_inside ms room) (made_with ms room (made_inside ms room) n) (chosen ms room o.0 o.1)) (opening xs))
        (sym (front_is bytes b rest is))

    pub goes_plain : None ≡ opening bytes → Goes done bytes whole → Goes (done ++ b ∷ []) rest whole
    goes_plain none (zero, enough, same) = let e = ap length (front_is bytes b rest is) in absurd (omega (arith, e))
    goes_plain none (suc n, enough, same) =
        let e = ap length (front_is bytes b rest is) in
        let here = step n ∙ ap (either (before (b ∷ []) (made_with ms room (made_inside ms room) n rest)) (λ o. after_macro (made_inside ms room) (made_with ms room (made_inside ms room) n) (chosen ms room o.0 o.1))) (sym none) in
        (n, omega (arith, e), sym (before_more done (b ∷ []) (made_with ms room (made_inside ms room) n rest)) ∙ ap (before done) (sym here) ∙ same)

    module _ (closer : ℕ) (inside : List ℕ) (opens : Some (closer, inside) ≡ opening bytes) where
      at_macro : (n : ℕ) → made_with ms room (made_inside ms room) (suc n) bytes ≡ after_macro (made_inside ms room) (made_with ms room (made_inside ms room) n) (chosen ms room closer inside)
      at_macro n = step n ∙ ap (either (before (b ∷ []) (made_with ms room (made_inside ms room) n rest)) (λ o. after_macro (made_inside ms room) (made_with ms room (made_inside ms room) n) (chosen ms room o.0 o.1))) (sym opens)

      pub goes_unchosen : (stop : MacroStop) → Fails stop (chosen ms room closer inside) → Goes done bytes whole → Fails stop whole
      goes_unchosen stop h (zero, enough, same) = let e = ap length (front_is bytes b rest is) in absurd (omega (arith, e))
      goes_unchosen stop h (suc n, enough, same) =
          fails_as (List ℕ) stop _ _ (ap (before done) (sym (at_macro n)) ∙ same)
          (fails_on (List ℕ × List ℕ) (List ℕ) (λ r. before done (after_macro (made_inside ms room) (made_with ms room (made_inside ms room) n) r)) stop (chosen ms room closer inside) (λ e. refl) h)

      module _ (text after : List ℕ) (stands : chosen ms room closer inside ≡ Ok (text, after)) where
        in_macro : (n : ℕ) → made_with ms room (made_inside ms room) (suc n) bytes ≡ made_then (made_with ms room (made_inside ms room) n) after (made_inside ms room text)
        in_macro n = at_macro n ∙ ap (after_macro (made_inside ms room) (made_with ms room (made_inside ms room) n)) stands

        pub goes_unmade : (stop : MacroStop) → Fails stop (made_inside ms room text) → Goes done bytes whole → Fails stop whole
        goes_unmade stop h (zero, enough, same) = let e = ap length (front_is bytes b rest is) in absurd (omega (arith, e))
        goes_unmade stop h (suc n, enough, same) =
            fails_as (List ℕ) stop _ _ (ap (before done) (sym (in_macro n)) ∙ same) (fails_on (List ℕ) (List ℕ) (λ r. before done (made_then (made_with ms room (made_inside ms room) n) after r)) stop (made_inside ms room text) (λ e. refl) h)

        pub goes_macro : (new : List ℕ) → length after < length bytes → before done (made_inside ms room text) ≡ Ok new → Goes done bytes whole → Goes new after whole
        goes_macro new shorter made (zero, enough, same) = absurd (omega arith)
        goes_macro new shorter made (suc n, enough, same) = (n, omega arith, taken done new (made_inside ms room text) (made_with ms room (made_inside ms room) n) after made ∙ ap (before done) (sym (in_macro n)) ∙ same)
          where
            taken : (done new : List ℕ) (r : Made (List ℕ)) (more : List ℕ → Made (List ℕ)) (after : List ℕ) → before done r ≡ Ok new → before new (more after) ≡ before done (made_then more after r)
            taken done new (Err e) more after h = absurd cc
            taken done new (Ok t) more after h = let e : done ++ t ≡ new = cc in ap (λ (xs : List ℕ). before xs (more after)) (sym e) ∙ sym (before_more done t (more after))
