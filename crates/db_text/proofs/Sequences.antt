-- A text is cut exactly into the tokens of its pieces.
use Rattle.std.proofs.Common.{◌≡◌, ℕ, zero, suc, ◌+◌, ◌-◌, ◌≤◌, ◌<◌, Bool, eqb, cond, true, false, List, [], ◌∷◌, ◌++◌, length, take, map, count_by, Option, Some, Ok, Err, refl, sym, ap, subst, ◌∙◌, arith, inl, inr, append_assoc, length-append}
use Rattle.std.proofs.lemmas.Bool.{true≢false}
use Rattle.std.proofs.lemmas.Bool.Decides.{eqb_tells}
use Rattle.std.proofs.lemmas.List.{append-nil}
use Rattle.std.proofs.lemmas.List.Sums.{sum_by-append}
use Rattle.std.proofs.Math.Seq.{take-append_seam}
use Rattle.db_text.specs.Expanding.{line_after}
use Rattle.db_text.specs.Cutting.{Piece as Read, TokenFault, Cut, is_blank, token_at, follows, fault_on, then_cut, cut_token, cut_from, cut}
use Rattle.db_text.specs.declared.fault.TextFault.{TextFault}
use Rattle.db_text.specs.declared.token.Token.{Token}
use Rattle.db_text.specs.declared.token.TokenKind.{TokenKind}
use Rattle.db_text.specs.declared.token.Before.TheVariants.{Other}
use Rattle.db_text.specs.Grammar.{Piece, blank, bare, quotes, sign, braces, piece_bytes, bytes_of, Word, words_of, Fits, done_with, done_by, Sequence, line_of, placed, tokens_of, NoPiece, fault_at, StopsAt, TokensTo}
use Rattle.db_text.proofs.Cuts as cuts
use Rattle.db_text.proofs.Cuts.{token_of, lines_of}
use Rattle.db_text.proofs.Befores.{view}
use Rattle.db_text.proofs.PiecesRead.{ok_err, Token_read, Token_only, piece_only, piece_found, fault_is}

pub lines_more : (before bytes : List ℕ) → line_of before + count_by (λ b. eqb b 10) bytes ≡ line_of (before ++ bytes)
lines_more before bytes = let e = sum_by-append (λ b. cond (eqb b 10) 1 0) before bytes in omega (arith, e)

pub line_step : (before : List ℕ) (b : ℕ) → line_after (line_of before) b ≡ line_of (before ++ b ∷ [])
line_step before b =
    elim (eqb_tells b 10) [
      | inl e ↦ let one : count_by (λ x. eqb x 10) (b ∷ []) ≡ 1 = rw e.0 refl in rw e.0 (let f = lines_more before (b ∷ []) in omega (arith, one, f))
      | inr e ↦ let none : count_by (λ x. eqb x 10) (b ∷ []) ≡ 0 = rw e.0 refl in rw e.0 (let f = lines_more before (b ∷ []) in omega (arith, none, f))
    ]

-- a piece has a byte
pub some_bytes : (done : List Word) (p : Piece) (after : List ℕ) → Fits done p after → 0 < length (piece_bytes p)
some_bytes done (blank b) after fits = omega arith
some_bytes done (bare []) after fits = absurd fits.0
some_bytes done (bare (b ∷ bs)) after fits = omega arith
some_bytes done (quotes cs) after fits = omega arith
some_bytes done (sign b) after fits = omega arith
some_bytes done (braces is) after fits = omega arith

module _ (total : ℕ) where
  token_is : (before bytes written next : List ℕ) (k : TokenKind) (t : List ℕ) → total ≡ length before + length bytes → bytes ≡ written ++ next
      → token_of total (line_of before) bytes k t next ≡ placed before written (k, t)
  token_is before bytes written next k t all same =
      let e = ap length same in
      let f = length-append written next in
      let start : total - length bytes ≡ length before = omega (arith, all) in
      let end : total - length next ≡ length before + length written = omega (arith, all, e, f) in
      rw (start, end) refl

  lines_is : (before bytes written next : List ℕ) → bytes ≡ written ++ next → line_of before + lines_of bytes next ≡ line_of (before ++ written)
  lines_is before bytes written next same =
      let f = length-append written next in
      let n : length (written ++ next) - length next ≡ length written = omega (arith, f) in
      ap (λ (xs : List ℕ). line_of before + lines_of xs next) same
      ∙ ap (λ m. line_of before + count_by (λ b. eqb b 10) (take m (written ++ next))) n
      ∙ ap (λ (xs : List ℕ). line_of before + count_by (λ b. eqb b 10) xs) (take-append_seam written next)
      ∙ lines_more before written

  -- a token, and what is cut after it
  after_token : (m : ℕ) (done : List Word) (before : List ℕ) (p : Piece) (after : List ℕ) (tokens : List Token) (stop : Option TextFault) → Token_read done p after
      → total ≡ length before + length (piece_bytes p ++ after) → cut_from total m (view (done_with done p)) (line_of (before ++ piece_bytes p)) after ≡ (tokens, stop)
      → cut_from total (suc m) (view done) (line_of before) (piece_bytes p ++ after) ≡ (map (placed before (piece_bytes p)) (words_of p) ++ tokens, stop)
  after_token m done before p after tokens stop (b, rest, k, t, same, other, read, words) all more =
      let bytes : b ∷ rest ≡ piece_bytes p ++ after = sym same in
      let whole : total ≡ length before + length (b ∷ rest) = all ∙ ap (λ (xs : List ℕ). length before + length xs) same in
      let on : cut_from total m (follows (view done) k t) (line_of (before ++ piece_bytes p)) after ≡ (tokens, stop) =
      ap (λ (ws : List Word). cut_from total m (view (ws ++ done)) (line_of (before ++ piece_bytes p)) after) (sym words) ∙ more in
      let rest_is : cut_from total m (follows (view done) k t) (line_of before + lines_of (b ∷ rest) after) after ≡ (tokens, stop) =
      ap (λ l. cut_from total m (follows (view done) k t) l after) (lines_is before (b ∷ rest) (piece_bytes p) after bytes) ∙ on in
      ap (cut_from total (suc m) (view done) (line_of before)) same ∙ cuts.begins total m (view done) (line_of before) b rest other
      ∙ ap (cut_token total (cut_from total m) (view done) (line_of before) (b ∷ rest)) read
      ∙ ap (then_cut (token_of total (line_of before) (b ∷ rest) k t after ∷ [])) rest_is
      ∙ ap (λ (x : Token). (x ∷ tokens, stop)) (token_is before (b ∷ rest) (piece_bytes p) after k t whole bytes)
      ∙ ap (λ (ws : List Word). (map (placed before (piece_bytes p)) ws ++ tokens, stop)) (sym words)

  after_piece : (m : ℕ) (done : List Word) (before : List ℕ) (p : Piece) (after : List ℕ) (tokens : List Token) (stop : Option TextFault) → Token_only done p after
      → total ≡ length before + length (piece_bytes p ++ after) → cut_from total m (view (done_with done p)) (line_of (before ++ piece_bytes p)) after ≡ (tokens, stop)
      → cut_from total (suc m) (view done) (line_of before) (piece_bytes p ++ after) ≡ (map (placed before (piece_bytes p)) (words_of p) ++ tokens, stop)
  after_piece m done before (blank b) after tokens stop reads all more =
      cuts.blanks total m (view done) (line_of before) b after reads ∙ ap (λ l. cut_from total m (view done) l after) (line_step before b) ∙ more
  after_piece m done before (bare bs) after tokens stop reads all more = after_token m done before (bare bs) after tokens stop reads all more
  after_piece m done before (quotes cs) after tokens stop reads all more = after_token m done before (quotes cs) after tokens stop reads all more
  after_piece m done before (sign b) after tokens stop reads all more = after_token m done before (sign b) after tokens stop reads all more
  after_piece m done before (braces is) after tokens stop reads all more = after_token m done before (braces is) after tokens stop reads all more

  -- at a fault nothing is cut
  stops_here : (m : ℕ) (done : List Word) (line b : ℕ) (rest : List ℕ) (stop : Option TextFault) → NoPiece done (b ∷ rest) → stop ≡ Some (fault_at b line) → cut_from total (suc m) (view done) line (b ∷ rest) ≡ ([], stop)
  stops_here m done line b rest stop none is = by_blank (is_blank b) refl
    where
      by_token : (r : Read) → token_at (view done) (b ∷ rest) ≡ r → cut_token total (cut_from total m) (view done) line (b ∷ rest) r ≡ ([], stop)
      by_token (Ok x) e = let p = piece_found done b rest x.0 x.1 x.2 e in absurd (none p.0 x.2 p.1 p.2)
      by_token (Err fault) e = ap (λ (f : TextFault). ([], Some f)) (fault_is (view done) b rest line fault e) ∙ ap (λ (s : Option TextFault). ([], s)) (sym is)

      by_blank : (v : Bool) → is_blank b ≡ v → cut_from total (suc m) (view done) line (b ∷ rest) ≡ ([], stop)
      by_blank true e = absurd (none (blank b) rest refl e)
      by_blank false e = cuts.begins total m (view done) line b rest e ∙ by_token (token_at (view done) (b ∷ rest)) refl

  stops_only : (n : ℕ) (done : List Word) (line : ℕ) (rest : List ℕ) (stop : Option TextFault) → length rest ≤ n → StopsAt done line rest stop → cut_from total n (view done) line rest ≡ ([], stop)
  stops_only n done line [] stop enough stops = cuts.at_end total n (view done) line ∙ ap (λ (s : Option TextFault). ([], s)) (sym stops)
  stops_only zero done line (b ∷ rest) stop enough stops = let e : suc (length rest) ≤ 0 = enough in absurd (omega (arith, e))
  stops_only (suc m) done line (b ∷ rest) stop enough stops = stops_here m done line b rest stop stops.0 stops.1

  -- pieces, each of which may stand where it does, are cut into their tokens
  pub cut_only : (ps : List Piece) (done : List Word) (before rest : List ℕ) (stop : Option TextFault) (n : ℕ) → length (bytes_of ps ++ rest) ≤ n
      → total ≡ length before + length (bytes_of ps ++ rest) → Sequence done ps rest → StopsAt (done_by done ps) (line_of (before ++ bytes_of ps)) rest stop
      → cut_from total n (view done) (line_of before) (bytes_of ps ++ rest) ≡ (tokens_of before ps, stop)
  cut_only [] done before rest stop n enough all fits stops =
      stops_only n done (line_of before) rest stop enough (subst (λ (xs : List ℕ). StopsAt done (line_of xs) rest stop) (append-nil before) stops)
  cut_only (p ∷ ps) done before rest stop zero enough all fits stops =
      let some = some_bytes done p (bytes_of ps ++ rest) fits.0 in
      let f = length-append (piece_bytes p) (bytes_of ps) in
      let g = length-append (piece_bytes p ++ bytes_of ps) rest in
      absurd (omega (arith, enough, some, f, g))
  cut_only (p ∷ ps) done before rest stop (suc m) enough all fits stops =
      let some = some_bytes done p (bytes_of ps ++ rest) fits.0 in
      let same : (piece_bytes p ++ bytes_of ps) ++ rest ≡ piece_bytes p ++ (bytes_of ps ++ rest) = append_assoc (piece_bytes p) (bytes_of ps) rest in
      let e = ap length same in
      let f = length-append (piece_bytes p) (bytes_of ps ++ rest) in
      let g = length-append before (piece_bytes p) in
      let whole : total ≡ length before + length (piece_bytes p ++ (bytes_of ps ++ rest)) = all ∙ ap (λ n. length before + n) e in
      let line : StopsAt (done_by (done_with done p) ps) (line_of ((before ++ piece_bytes p) ++ bytes_of ps)) rest stop =
      subst (λ (xs : List ℕ). StopsAt (done_by (done_with done p) ps) (line_of xs) rest stop) (sym (append_assoc before (piece_bytes p) (bytes_of ps))) stops in
      let more = cut_only ps (done_with done p) (before ++ piece_bytes p) rest stop m (omega (arith, enough, some, e, f)) (omega (arith, whole, f, g)) fits.1 line in
      ap (cut_from total (suc m) (view done) (line_of before)) same
      ∙ after_piece m done before p (bytes_of ps ++ rest) (tokens_of (before ++ piece_bytes p) ps) stop (piece_only done p (bytes_of ps ++ rest) fits.0) whole more

  -- what is cut is the tokens of pieces
  abbrev pub CutAs : List Word → List ℕ → List ℕ → Cut → Type 0
  CutAs done before bytes c =
      (ps : List Piece) × (rest : List ℕ) × (bytes ≡ bytes_of ps ++ rest) × Sequence done ps rest × (c.0 ≡ tokens_of before ps) × StopsAt (done_by done ps) (line_of (before ++ bytes_of ps)) rest c.1

  no_piece : (done : List Word) (b : ℕ) (rest : List ℕ) (fault : TokenFault) → is_blank b ≡ false → token_at (view done) (b ∷ rest) ≡ Err fault → NoPiece done (b ∷ rest)
  no_piece done b rest fault other bad p after same fits = apart p same (piece_only done p after fits)
    where
      read_apart : (p : Piece) → b ∷ rest ≡ piece_bytes p ++ after → Token_read done p after → ⊥
      read_apart p same (c, left, k, t, bytes, no_blank, read, words) =
          let e : token_at (view done) (b ∷ rest) ≡ Ok (k, t, after) = ap (token_at (view done)) (same ∙ bytes) ∙ read in
          ok_err (k, t, after) fault (token_at (view done) (b ∷ rest)) e bad

      apart : (p : Piece) → b ∷ rest ≡ piece_bytes p ++ after → Token_only done p after → ⊥
      apart (blank x) same reads = let e : b ≡ x = cc in true≢false (sym reads ∙ sym (ap is_blank e) ∙ other)
      apart (bare bs) same reads = read_apart (bare bs) same reads
      apart (quotes cs) same reads = read_apart (quotes cs) same reads
      apart (sign x) same reads = read_apart (sign x) same reads
      apart (braces is) same reads = read_apart (braces is) same reads

  with_piece : (m : ℕ) (done : List Word) (before bytes : List ℕ) (p : Piece) (next : List ℕ) → bytes ≡ piece_bytes p ++ next → Fits done p next → total ≡ length before + length bytes
      → CutAs (done_with done p) (before ++ piece_bytes p) next (cut_from total m (view (done_with done p)) (line_of (before ++ piece_bytes p)) next)
      → CutAs done before bytes (cut_from total (suc m) (view done) (line_of before) bytes)
  with_piece m done before bytes p next same fits all (ps, rest, left, seq, tokens, stops) =
      let whole : total ≡ length before + length (piece_bytes p ++ next) = all ∙ ap (λ (xs : List ℕ). length before + length xs) same in
      let is : cut_from total (suc m) (view done) (line_of before) bytes
      ≡ (map (placed before (piece_bytes p)) (words_of p) ++ (cut_from total m (view (done_with done p)) (line_of (before ++ piece_bytes p)) next).0, (cut_from total m (view (done_with done p)) (line_of (before ++ piece_bytes p)) next).1) =
      ap (cut_from total (suc m) (view done) (line_of before)) same
      ∙ after_piece m done before p next (cut_from total m (view (done_with done p)) (line_of (before ++ piece_bytes p)) next).0 (cut_from total m (view (done_with done p)) (line_of (before ++ piece_bytes p)) next).1
      (piece_only done p next fits) whole refl in (
        p ∷ ps,
        rest,
        same ∙ ap (λ (xs : List ℕ). piece_bytes p ++ xs) left ∙ sym (append_assoc (piece_bytes p) (bytes_of ps) rest),
        (subst (Fits done p) left fits, seq),
        ap (λ (c : Cut). c.0) is ∙ ap (λ (ts : List Token). map (placed before (piece_bytes p)) (words_of p) ++ ts) tokens,
        subst (λ (xs : List ℕ). StopsAt (done_by (done_with done p) ps) (line_of xs) rest (cut_from total (suc m) (view done) (line_of before) bytes).1) (append_assoc before (piece_bytes p) (bytes_of ps))
            (subst (λ (s : Option TextFault). StopsAt (done_by (done_with done p) ps) (line_of ((before ++ piece_bytes p) ++ bytes_of ps)) rest s) (sym (ap (λ (c : Cut). c.1) is)) stops),
      )

  abbrev Step : ℕ → Type 0
  Step n = (done : List Word) (before bytes : List ℕ) → length bytes ≤ n → total ≡ length before + length bytes → CutAs done before bytes (cut_from total n (view done) (line_of before) bytes)

  nothing : (n : ℕ) (done : List Word) (before : List ℕ) → CutAs done before [] (cut_from total n (view done) (line_of before) [])
  nothing n done before = let e = cuts.at_end total n (view done) (line_of before) in ([], [], refl, tt, ap (λ (c : Cut). c.0) e, ap (λ (c : Cut). c.1) e)

  next_piece : (n : ℕ) (done : List Word) (before bytes : List ℕ) (p : Piece) (next : List ℕ) → Step n → length bytes ≤ suc n → bytes ≡ piece_bytes p ++ next → Fits done p next → total ≡ length before + length bytes
      → CutAs done before bytes (cut_from total (suc n) (view done) (line_of before) bytes)
  next_piece n done before bytes p next step enough same fits all =
      let some = some_bytes done p next fits in
      let e = ap length same in
      let f = length-append (piece_bytes p) next in
      let g = length-append before (piece_bytes p) in
      with_piece n done before bytes p next same fits all (step (done_with done p) (before ++ piece_bytes p) next (omega (arith, enough, some, e, f)) (omega (arith, all, e, f, g)))

  faulty : (n : ℕ) (done : List Word) (before : List ℕ) (b : ℕ) (rest : List ℕ) (fault : TokenFault) → is_blank b ≡ false → token_at (view done) (b ∷ rest) ≡ Err fault
      → CutAs done before (b ∷ rest) (cut_from total (suc n) (view done) (line_of before) (b ∷ rest))
  faulty n done before b rest fault other bad =
      let e : cut_from total (suc n) (view done) (line_of before) (b ∷ rest) ≡ ([], Some (fault_on (line_of before) fault)) =
      cuts.begins total n (view done) (line_of before) b rest other ∙ ap (cut_token total (cut_from total n) (view done) (line_of before) (b ∷ rest)) bad in
      let line : fault_on (line_of before) fault ≡ fault_at b (line_of (before ++ [])) =
      fault_is (view done) b rest (line_of before) fault bad ∙ ap (λ (xs : List ℕ). fault_at b (line_of xs)) (sym (append-nil before)) in (
        [],
        b ∷ rest,
        refl,
        tt,
        ap (λ (c : Cut). c.0) e,
        (no_piece done b rest fault other bad, ap (λ (c : Cut). c.1) e ∙ ap (λ (f : TextFault). Some f) line),
      )

  at_byte : (n : ℕ) (done : List Word) (before : List ℕ) (b : ℕ) (rest : List ℕ) → Step n → length (b ∷ rest) ≤ suc n → total ≡ length before + length (b ∷ rest)
      → CutAs done before (b ∷ rest) (cut_from total (suc n) (view done) (line_of before) (b ∷ rest))
  at_byte n done before b rest step enough all = by_blank (is_blank b) refl
    where
      by_token : is_blank b ≡ false → (r : Read) → token_at (view done) (b ∷ rest) ≡ r → CutAs done before (b ∷ rest) (cut_from total (suc n) (view done) (line_of before) (b ∷ rest))
      by_token other (Ok x) e = let p = piece_found done b rest x.0 x.1 x.2 e in next_piece n done before (b ∷ rest) p.0 x.2 step enough p.1 p.2 all
      by_token other (Err fault) e = faulty n done before b rest fault other e

      by_blank : (v : Bool) → is_blank b ≡ v → CutAs done before (b ∷ rest) (cut_from total (suc n) (view done) (line_of before) (b ∷ rest))
      by_blank true e = next_piece n done before (b ∷ rest) (blank b) rest step enough refl e all
      by_blank false e = by_token e (token_at (view done) (b ∷ rest)) refl

  pub cut_found : (n : ℕ) (done : List Word) (before bytes : List ℕ) → length bytes ≤ n → total ≡ length before + length bytes → CutAs done before bytes (cut_from total n (view done) (line_of before) bytes)
  cut_found n done before [] enough all = nothing n done before
  cut_found zero done before (b ∷ rest) enough all = let e : suc (length rest) ≤ 0 = enough in absurd (omega (arith, e))
  cut_found (suc n) done before (b ∷ rest) enough all = at_byte n done before b rest (cut_found n) enough all

cut_is : (text : List ℕ) → cut text ≡ cut_from (length text) (length text) Other 1 text
unfolding cut
cut_is text = refl

pub tokens_found : (text : List ℕ) → TokensTo text (cut text).0 (cut text).1
tokens_found text = rw (cut_is text) (cut_found (length text) (length text) [] [] text (omega arith) (omega arith))

pub tokens_only : (text : List ℕ) (tokens : List Token) (stop : Option TextFault) → TokensTo text tokens stop → cut text ≡ (tokens, stop)
tokens_only text tokens stop (ps, rest, same, fits, made, stops) =
    let one = cut_only (length (bytes_of ps ++ rest)) ps [] [] rest stop (length (bytes_of ps ++ rest)) (omega arith) (omega arith) fits stops in
    cut_is text ∙ ap (λ (xs : List ℕ). cut_from (length xs) (length xs) Other 1 xs) same ∙ one ∙ ap (λ (ts : List Token). (ts, stop)) (sym made)
