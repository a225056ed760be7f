-- A text whose bare keys are put in quotes is UTF-8: a quote stands between characters alone.
use Rattle.std.proofs.Common.{◌≡◌, ℕ, suc, ◌<◌, ◌≤◌, Bool, true, false, List, [], ◌∷◌, ◌++◌, length, get_or, IsUtf8, inl, inr, refl, sym, ap, ◌∙◌, subst, arith, append-nil, nat_le}
use Rattle.std.proofs.Math.Bool.{and-false}
use Rattle.std.proofs.lemmas.Bool.{and_parts, cases_lt, lt-leb, ne_eqb}
use Rattle.std.proofs.lemmas.Str.{IsUtf8-append, IsUtf8-nil, IsUtf8-encode, encode_ascii, inside_one}
use lib.Utf8.{scalar, scalars, encode, encodes, low_scalar}
use Rattle.group_defs.specs.BareKeys.{is_word, behind, opens_key, closes_key, quote_if, byte_text, text_from, with_quoted_keys}
use Rattle.group_defs.specs.declared.bare_keys.Within.{Within}
use Rattle.group_defs.specs.declared.bare_keys.Within.TheVariants.{Elsewhere, Word, Quotes, Escape}

ascii : (x : ℕ) → x < 128 → IsUtf8 (x ∷ [])
ascii x small = subst IsUtf8 (encode_ascii x small) (IsUtf8-encode x (low_scalar x (omega arith)))

quote_kept : (needed : Bool) → IsUtf8 (quote_if needed)
quote_kept true = ascii 34 (omega arith)
quote_kept false = IsUtf8-nil

-- an ASCII byte, with or without quotes
ascii_kept : (within : Within) (x : ℕ) (rest : List ℕ) → x < 128 → IsUtf8 (byte_text within x rest)
unfolding byte_text
ascii_kept within x rest small =
    IsUtf8-append (quote_if (opens_key within x rest)) (x ∷ quote_if (closes_key within x rest)) (quote_kept (opens_key within x rest))
    (IsUtf8-append (x ∷ []) (quote_if (closes_key within x rest)) (ascii x small) (quote_kept (closes_key within x rest)))

-- other bytes stand in no bare word
word_high : (x : ℕ) → 128 ≤ x → is_word x ≡ false
word_high x high =
    rw (
      lt-leb x 57 (omega arith),
      lt-leb x 90 (omega arith),
      lt-leb x 122 (omega arith),
      ne_eqb x 95 (λ e. omega arith),
      ne_eqb x 43 (λ e. omega arith),
      ne_eqb x 45 (λ e. omega arith),
      ne_eqb x 46 (λ e. omega arith),
      and-false (nat_le 48 x),
      and-false (nat_le 65 x),
      and-false (nat_le 97 x),
    ) refl

byte_high : (within : Within) (x : ℕ) (rest : List ℕ) → 128 ≤ x → byte_text within x rest ≡ x ∷ []
unfolding byte_text
byte_high Elsewhere x rest high = rw (word_high x high) refl
byte_high Word x rest high = rw (word_high x high) refl
byte_high Quotes x rest high = refl
byte_high Escape x rest high = refl

high_from : (within : Within) (xs rest : List ℕ) → ((k : ℕ) → k < length xs → 128 ≤ get_or xs k 0)
    → (next : Within) × (text_from within (xs ++ rest) ≡ xs ++ text_from next rest)
unfolding text_from
high_from within [] rest high = (within, refl)
high_from within (x ∷ xs) rest high =
    let more = high_from (behind within x) xs rest (λ k below. high (suc k) (omega arith)) in
    (more.0, ap (λ t. t ++ text_from (behind within x) (xs ++ rest)) (byte_high within x (xs ++ rest) (high 0 (omega arith))) ∙ ap (λ t. x ∷ t) more.1)

-- a character, and what follows it
char_kept : (c : ℕ) → scalar c ≡ true → (rest : List ℕ) → ((within : Within) → IsUtf8 (text_from within rest)) → (within : Within) → IsUtf8 (text_from within (encode c ++ rest))
unfolding text_from
char_kept c ok rest kept within = elim (cases_lt c 128) [
  | inl small ↦ subst (λ t. IsUtf8 (text_from within (t ++ rest))) (sym (encode_ascii c small))
      (IsUtf8-append (byte_text within c rest) (text_from (behind within c) rest) (ascii_kept within c rest small) (kept (behind within c)))
  | inr big ↦
      let high : (k : ℕ) → k < length (encode c) → 128 ≤ get_or (encode c) k 0 = λ k below. elim (cases_lt (get_or (encode c) k 0) 128) [
        | inl low ↦ absurd (omega (arith, inside_one c [] (encode c) k (sym (append-nil _)) below low))
        | inr h ↦ h
      ] in
      let as_is = high_from within (encode c) rest high in
      subst IsUtf8 (sym as_is.1) (IsUtf8-append (encode c) (text_from as_is.0 rest) (IsUtf8-encode c ok) (kept as_is.0))
]

chars_kept : (cs : List ℕ) → scalars cs ≡ true → (within : Within) → IsUtf8 (text_from within (encodes cs))
unfolding text_from
chars_kept [] e within = IsUtf8-nil
chars_kept (c ∷ cs) e within =
    let p = and_parts _ _ e in
    char_kept c p.0 (encodes cs) (λ next. chars_kept cs p.1 next) within

pub text_kept : (text : List ℕ) → IsUtf8 text → IsUtf8 (with_quoted_keys text)
unfolding with_quoted_keys
text_kept text u = subst (λ bs. IsUtf8 (text_from Elsewhere bs)) u.1.1 (chars_kept u.0 u.1.0 Elsewhere)
