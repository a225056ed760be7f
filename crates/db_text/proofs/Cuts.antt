-- A text, cut step by step.
use Rattle.std.proofs.Common.{◌≡◌, ℕ, zero, suc, ◌+◌, ◌-◌, ◌≤◌, ◌<◌, eqb, true, false, not, List, [], ◌∷◌, ◌++◌, length, take, drop, Some, None, Ok, Err, count_by, refl, sym, ap, ◌∙◌, arith, add-one, append_assoc}
use Rattle.std.proofs.lemmas.List.{append-nil}
use Rattle.db_text.specs.Macros.{front, before_first}
use Rattle.db_text.specs.Expanding.{line_after}
use Rattle.db_text.specs.declared.token.Token.{Token}
use Rattle.db_text.specs.declared.token.TokenKind.{TokenKind}
use Rattle.db_text.specs.declared.token.Before.{Before}
use Rattle.db_text.specs.declared.token.Before.TheVariants.{Other}
use Rattle.db_text.specs.Cutting.{Cut, TokenFault, is_blank, is_word, bare_at, token_at, follows, fault_on, then_cut, cut_token, cut_from, cut}
use Rattle.db_text.proofs.Defaults.{front_is, no_front}

pub bare_is : (bytes word next rest : List ℕ) (b k : ℕ) → Some (b, rest) ≡ front bytes → k ≡ before_first (λ x. not (is_word x)) rest → word ≡ take (k + 1) bytes → next ≡ drop (k + 1) bytes → (word, next) ≡ bare_at bytes
unfolding bare_at
bare_is [] word next rest b k is at taken left = absurd cc
bare_is (x ∷ xs) word next rest b k is at taken left =
    let parts = front_is (x ∷ xs) b rest is in
    let same : xs ≡ rest = ap (drop 1) parts in
    let here : k ≡ before_first (λ y. not (is_word y)) xs = at ∙ ap (before_first (λ y. not (is_word y))) (sym same) in
    let w : word ≡ x ∷ take k xs = taken ∙ ap (λ n. take n (x ∷ xs)) (add-one k) in
    let r : next ≡ drop k xs = left ∙ ap (λ n. drop n (x ∷ xs)) (add-one k) in
    ap (λ (w : List ℕ). (w, next)) w ∙ ap (λ (r : List ℕ). (x ∷ take k xs, r)) r ∙ ap (λ n. (x ∷ take n xs, drop n xs)) here

pub then_more : (a b : List Token) (c : Cut) → then_cut a (then_cut b c) ≡ then_cut (a ++ b) c
then_more a b c = ap (λ (ts : List Token). (ts, c.1)) (sym (append_assoc a b c.0))

-- the token that is read, and how many lines it ends
abbrev pub token_of : ℕ → ℕ → List ℕ → TokenKind → List ℕ → List ℕ → Token
token_of total line bytes kind text next = record { kind = kind; text = text; start = total - length bytes; end = total - length next; line = line }

abbrev pub lines_of : List ℕ → List ℕ → ℕ
lines_of bytes next = count_by (λ b. eqb b 10) (take (length bytes - length next) bytes)

module _ (total : ℕ) where
  abbrev pub CutGoes : Before → ℕ → List Token → List ℕ → Cut → Type 0
  CutGoes before line tokens bytes whole = (n : ℕ) × (length bytes ≤ n) × (then_cut tokens (cut_from total n before line bytes) ≡ whole)

  pub at_end : (n : ℕ) (before : Before) (line : ℕ) → cut_from total n before line [] ≡ ([], None)
  unfolding cut_from
  at_end zero before line = refl
  at_end (suc n) before line = refl

  pub blanks : (n : ℕ) (before : Before) (line b : ℕ) (rest : List ℕ) → is_blank b ≡ true → cut_from total (suc n) before line (b ∷ rest) ≡ cut_from total n before (line_after line b) rest
  unfolding cut_from
  blanks n before line b rest is = rw is refl

  pub begins : (n : ℕ) (before : Before) (line b : ℕ) (rest : List ℕ) → is_blank b ≡ false → cut_from total (suc n) before line (b ∷ rest) ≡ cut_token total (cut_from total n) before line (b ∷ rest) (token_at before (b ∷ rest))
  unfolding cut_from
  begins n before line b rest is = rw is refl

  module _ (before : Before) (line : ℕ) (tokens : List Token) (bytes : List ℕ) (whole : Cut) where
    pub cut_end : None ≡ front bytes → CutGoes before line tokens bytes whole → (tokens, None) ≡ whole
    cut_end none (n, enough, same) =
        sym (ap (λ (xs : List ℕ). then_cut tokens (cut_from total n before line xs)) (no_front bytes none) ∙ ap (then_cut tokens) (at_end n before line) ∙ ap (λ (ts : List Token). (ts, None)) (append-nil tokens)) ∙ same

    module _ (b : ℕ) (rest : List ℕ) (is : Some (b, rest) ≡ front bytes) where
      pub cut_blank : is_blank b ≡ true → CutGoes before line tokens bytes whole → CutGoes before (line_after line b) tokens rest whole
      cut_blank blank (zero, enough, same) = let e = ap length (front_is bytes b rest is) in absurd (omega (arith, e))
      cut_blank blank (suc n, enough, same) =
          let e = ap length (front_is bytes b rest is) in
          (n, omega (arith, e), ap (then_cut tokens) (sym (ap (cut_from total (suc n) before line) (front_is bytes b rest is) ∙ blanks n before line b rest blank)) ∙ same)

      module _ (other : is_blank b ≡ false) where
        at_token : (n : ℕ) → cut_from total (suc n) before line bytes ≡ cut_token total (cut_from total n) before line bytes (token_at before bytes)
        at_token n =
            ap (cut_from total (suc n) before line) (front_is bytes b rest is) ∙ begins n before line b rest other
            ∙ ap (λ (xs : List ℕ). cut_token total (cut_from total n) before line xs (token_at before xs)) (sym (front_is bytes b rest is))

        pub cut_bad : (fault : TokenFault) → token_at before bytes ≡ Err fault → CutGoes before line tokens bytes whole → (tokens, Some (fault_on line fault)) ≡ whole
        cut_bad fault h (zero, enough, same) = let e = ap length (front_is bytes b rest is) in absurd (omega (arith, e))
        cut_bad fault h (suc n, enough, same) =
            ap (λ (ts : List Token). (ts, Some (fault_on line fault))) (sym (append-nil tokens))
            ∙ ap (then_cut tokens) (sym (at_token n ∙ ap (cut_token total (cut_from total n) before line bytes) h)) ∙ same

        pub cut_next : (kind : TokenKind) (text next : List ℕ) → token_at before bytes ≡ Ok (kind, text, next) → length next < length bytes → CutGoes before line tokens bytes whole
            → CutGoes (follows before kind text) (line + lines_of bytes next) (tokens ++ token_of total line bytes kind text next ∷ []) next whole
        cut_next kind text next h shorter (zero, enough, same) = absurd (omega arith)
        cut_next kind text next h shorter (suc n, enough, same) = (
          n,
          omega arith,
          sym (then_more tokens (token_of total line bytes kind text next ∷ []) (cut_from total n (follows before kind text) (line + lines_of bytes next) next))
              ∙ ap (then_cut tokens) (sym (at_token n ∙ ap (cut_token total (cut_from total n) before line bytes) h)) ∙ same,
        )

pub cut_begins : (text : List ℕ) → CutGoes (length text) Other 1 [] text (cut text)
unfolding cut
cut_begins text = (length text, omega arith, refl)
