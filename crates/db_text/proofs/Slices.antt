-- Tokens rise, and each is its slice of the text.
use Rattle.std.proofs.Common.{◌≡◌, ℕ, ◌+◌, ◌-◌, ◌≤◌, ◌<◌, List, [], ◌∷◌, ◌++◌, length, take, drop, refl, sym, ap, subst, ◌∙◌, arith, append_assoc, length-append}
use Rattle.std.proofs.Math.Seq.{take-append_seam, drop-append_seam}
use Rattle.db_text.specs.Cutting.{Cut}
use Rattle.db_text.specs.declared.token.Token.{Token}
use Rattle.db_text.specs.declared.token.TokenKind.TheVariants.{Bare, Quoted, Mark, Json}
use Rattle.db_text.specs.Grammar.{chars_text, items_text, Piece, blank, bare, quotes, sign, braces, piece_bytes, bytes_of, Word, words_of, Fits, done_with, Sequence, placed, tokens_of, Rise, IsSlice, AreSlices, TokensAreSlices, OneCut}
use Rattle.db_text.proofs.Sequences.{some_bytes, tokens_only}

later : (from : ℕ) (before written : List ℕ) → from ≤ length before → from ≤ length (before ++ written)
later from before written h = let e = length-append before written in omega (arith, h, e)

ended : (before written : List ℕ) → length before + length written ≤ length (before ++ written)
ended before written = let e = length-append before written in omega (arith, e)

begun : (done : List Word) (before : List ℕ) (p : Piece) (after : List ℕ) → Fits done p after → length before < length before + length (piece_bytes p)
begun done before p after fits = let e = some_bytes done p after fits in omega (arith, e)

rise : (ps : List Piece) (done : List Word) (before after : List ℕ) (from : ℕ) → from ≤ length before → Sequence done ps after → Rise from (tokens_of before ps)
rise [] done before after from low fits = tt
rise (blank b ∷ ps) done before after from low fits = rise ps done (before ++ b ∷ []) after from (later from before (b ∷ []) low) fits.1
rise (bare bs ∷ ps) done before after from low fits = (
  low,
  begun done before (bare bs) (bytes_of ps ++ after) fits.0,
  rise ps (done_with done (bare bs)) (before ++ piece_bytes (bare bs)) after (length before + length (piece_bytes (bare bs))) (ended before (piece_bytes (bare bs))) fits.1,
)
rise (quotes cs ∷ ps) done before after from low fits = (
  low,
  begun done before (quotes cs) (bytes_of ps ++ after) fits.0,
  rise ps (done_with done (quotes cs)) (before ++ piece_bytes (quotes cs)) after (length before + length (piece_bytes (quotes cs))) (ended before (piece_bytes (quotes cs))) fits.1,
)
rise (sign b ∷ ps) done before after from low fits = (
  low,
  begun done before (sign b) (bytes_of ps ++ after) fits.0,
  rise ps (done_with done (sign b)) (before ++ piece_bytes (sign b)) after (length before + length (piece_bytes (sign b))) (ended before (piece_bytes (sign b))) fits.1,
)
rise (braces is ∷ ps) done before after from low fits = (
  low,
  begun done before (braces is) (bytes_of ps ++ after) fits.0,
  rise ps (done_with done (braces is)) (before ++ piece_bytes (braces is)) after (length before + length (piece_bytes (braces is))) (ended before (piece_bytes (braces is))) fits.1,
)

module _ (text : List ℕ) where
  further : (before : List ℕ) (p : Piece) (ps : List Piece) (after : List ℕ) → text ≡ before ++ (bytes_of (p ∷ ps) ++ after) → text ≡ (before ++ piece_bytes p) ++ (bytes_of ps ++ after)
  further before p ps after whole =
      whole ∙ ap (λ (xs : List ℕ). before ++ xs) (append_assoc (piece_bytes p) (bytes_of ps) after) ∙ sym (append_assoc before (piece_bytes p) (bytes_of ps ++ after))

  slice : (before : List ℕ) (p : Piece) (more : List ℕ) (w : Word) → text ≡ (before ++ piece_bytes p) ++ more → words_of p ≡ w ∷ [] → IsSlice text (placed before (piece_bytes p) w)
  slice before p more w whole words =
      let n : length before + length (piece_bytes p) - length before ≡ length (piece_bytes p) = omega arith in (
        p,
        ap (λ m. take m (drop (length before) text)) n
            ∙ ap (λ (xs : List ℕ). take (length (piece_bytes p)) (drop (length before) xs)) (whole ∙ append_assoc before (piece_bytes p) more)
            ∙ ap (take (length (piece_bytes p))) (drop-append_seam before (piece_bytes p ++ more)) ∙ take-append_seam (piece_bytes p) more,
        words,
      )

  slices : (ps : List Piece) (before after : List ℕ) → text ≡ before ++ (bytes_of ps ++ after) → AreSlices text (tokens_of before ps)
  slices [] before after whole = tt
  slices (blank b ∷ ps) before after whole = slices ps (before ++ b ∷ []) after (further before (blank b) ps after whole)
  slices (bare bs ∷ ps) before after whole =
      let on = further before (bare bs) ps after whole in (slice before (bare bs) (bytes_of ps ++ after) (Bare, bs) on refl, slices ps (before ++ piece_bytes (bare bs)) after on)
  slices (quotes cs ∷ ps) before after whole =
      let on = further before (quotes cs) ps after whole in (slice before (quotes cs) (bytes_of ps ++ after) (Quoted, chars_text cs) on refl, slices ps (before ++ piece_bytes (quotes cs)) after on)
  slices (sign b ∷ ps) before after whole =
      let on = further before (sign b) ps after whole in (slice before (sign b) (bytes_of ps ++ after) (Mark, b ∷ []) on refl, slices ps (before ++ piece_bytes (sign b)) after on)
  slices (braces is ∷ ps) before after whole =
      let on = further before (braces is) ps after whole in (slice before (braces is) (bytes_of ps ++ after) (Json, 123 ∷ (items_text is ++ 125 ∷ [])) on refl, slices ps (before ++ piece_bytes (braces is)) after on)

pub tokens_are_slices : TokensAreSlices
tokens_are_slices text tokens stop (ps, rest, same, fits, made, stops) =
    subst (λ (ts : List Token). Rise 0 ts × AreSlices text ts) (sym made) (rise ps [] [] rest 0 (omega arith) fits, slices text ps [] rest same)

pub one_cut : OneCut
one_cut text tokens others stop other one two =
    let e = sym (tokens_only text tokens stop one) ∙ tokens_only text others other two in
    (ap (λ (c : Cut). c.0) e, ap (λ (c : Cut). c.1) e)
