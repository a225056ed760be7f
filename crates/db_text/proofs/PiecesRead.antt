-- A token is read exactly where a piece is written.
use Rattle.std.proofs.Common.{◌≡◌, ℕ, Bool, eqb, true, false, not, ◌&&◌, List, [], ◌∷◌, ◌++◌, length, take, drop, Some, None, Ok, Err, refl, sym, ap, subst, ◌∙◌, arith, inl, inr, append_assoc}
use Rattle.std.proofs.lemmas.Bool.{true≢false, eqb-true}
use Rattle.std.proofs.lemmas.Bool.Decides.{eqb_tells}
use Rattle.std.proofs.lemmas.List.{take-append-drop}
use Rattle.db_text.specs.Macros.{before_first}
use Rattle.db_text.specs.Cutting.{Text, Piece as Read, TokenFault, bad, open_quotes, put, piece, is_word, is_mark, is_blank, is_comma, quoted_at, json_at, bare_at, bare_piece, token_at, fault_on}
use Rattle.db_text.specs.declared.fault.TextFault.TheVariants.{BadToken}
use Rattle.db_text.specs.declared.token.Before.{Before}
use Rattle.db_text.specs.declared.token.TokenKind.{TokenKind}
use Rattle.db_text.specs.declared.token.TokenKind.TheVariants.{Bare, Quoted, Mark, Json}
use Rattle.db_text.specs.Grammar.{Char, Item, chars_bytes, chars_text, IsQuoted, items_bytes, items_text, Each, Ends, IsJson, Piece, blank, bare, quotes, sign, braces, piece_bytes, Word, words_of, ends_comma, Fits, fault_at}
use Rattle.db_text.proofs.Runs.{run_take, run_drop, run_found, other_than}
use Rattle.db_text.proofs.Quoting.{put_gives, quoted_only, quoted_found, QuotedAs}
use Rattle.db_text.proofs.Bracing.{items_only, json_found, InBraces}
use Rattle.db_text.proofs.Befores.{view, comma_is}

no_blank_mark : (b : ℕ) → is_mark b ≡ true → is_blank b ≡ false
no_blank_mark b m = rw (other_than is_mark b 32 refl m, other_than is_mark b 9 refl m, other_than is_mark b 13 refl m, other_than is_mark b 10 refl m) refl

no_blank_word : (b : ℕ) → is_word b ≡ true → is_blank b ≡ false
no_blank_word b m = rw (other_than is_word b 32 refl m, other_than is_word b 9 refl m, other_than is_word b 13 refl m, other_than is_word b 10 refl m) refl

no_mark_word : (b : ℕ) → is_word b ≡ true → is_mark b ≡ false
no_mark_word b m =
    rw (other_than is_word b 40 refl m, other_than is_word b 41 refl m, other_than is_word b 123 refl m, other_than is_word b 125 refl m, other_than is_word b 44 refl m) refl

module _ (st : Before) (b : ℕ) (rest : List ℕ) where
  at_quote : eqb b 34 ≡ true → token_at st (b ∷ rest) ≡ piece Quoted open_quotes (quoted_at (length rest) rest)
  unfolding token_at
  at_quote q = rw q refl

  at_json : eqb b 34 ≡ false → (eqb b 123 && is_comma st) ≡ true → token_at st (b ∷ rest) ≡ piece Json bad (put (123 ∷ []) (json_at (length rest) false 0 rest))
  unfolding token_at
  at_json q j = rw (q, j) refl

  at_mark : eqb b 34 ≡ false → (eqb b 123 && is_comma st) ≡ false → is_mark b ≡ true → token_at st (b ∷ rest) ≡ Ok (Mark, b ∷ [], rest)
  unfolding token_at
  at_mark q j m = rw (q, j, m) refl

  at_word : eqb b 34 ≡ false → (eqb b 123 && is_comma st) ≡ false → is_mark b ≡ false → is_word b ≡ true → token_at st (b ∷ rest) ≡ bare_piece (bare_at (b ∷ rest))
  unfolding token_at
  at_word q j m w = rw (q, j, m, w) refl

  at_bad : eqb b 34 ≡ false → (eqb b 123 && is_comma st) ≡ false → is_mark b ≡ false → is_word b ≡ false → token_at st (b ∷ rest) ≡ Err bad
  unfolding token_at
  at_bad q j m w = rw (q, j, m, w) refl

bare_cut : (b : ℕ) (rest : List ℕ) → bare_at (b ∷ rest) ≡ (b ∷ take (before_first (λ x. not (is_word x)) rest) rest, drop (before_first (λ x. not (is_word x)) rest) rest)
unfolding bare_at
bare_cut b rest = refl

-- a piece that is written is read
abbrev pub Token_read : List Word → Piece → List ℕ → Type 0
Token_read done p after =
    (b : ℕ) × (rest : List ℕ) × (k : TokenKind) × (t : List ℕ) × (piece_bytes p ++ after ≡ b ∷ rest) × (is_blank b ≡ false) × (token_at (view done) (b ∷ rest) ≡ Ok (k, t, after))
    × (words_of p ≡ (k, t) ∷ [])

quotes_read : (done : List Word) (cs : List Char) (after : List ℕ) → IsQuoted cs → Token_read done (quotes cs) after
quotes_read done cs after fits =
    let same : (chars_bytes cs ++ 34 ∷ []) ++ after ≡ chars_bytes cs ++ 34 ∷ after = append_assoc (chars_bytes cs) (34 ∷ []) after in (
      34,
      (chars_bytes cs ++ 34 ∷ []) ++ after,
      Quoted,
      chars_text cs,
      refl,
      refl,
      at_quote (view done) 34 ((chars_bytes cs ++ 34 ∷ []) ++ after) refl ∙ ap (λ (xs : List ℕ). piece Quoted open_quotes (quoted_at (length xs) xs)) same
          ∙ ap (piece Quoted open_quotes) (quoted_only cs after (length (chars_bytes cs ++ 34 ∷ after)) (omega arith) fits),
      refl,
    )

braces_read : (done : List Word) (is : List Item) (after : List ℕ) → ends_comma done ≡ true → IsJson 0 is → Token_read done (braces is) after
braces_read done is after comma fits =
    let same : (items_bytes is ++ 125 ∷ []) ++ after ≡ items_bytes is ++ 125 ∷ after = append_assoc (items_bytes is) (125 ∷ []) after in
    let may : (eqb 123 123 && is_comma (view done)) ≡ true = comma_is done ∙ comma in (
      123,
      (items_bytes is ++ 125 ∷ []) ++ after,
      Json,
      123 ∷ (items_text is ++ 125 ∷ []),
      refl,
      refl,
      at_json (view done) 123 ((items_bytes is ++ 125 ∷ []) ++ after) refl may ∙ ap (λ (xs : List ℕ). piece Json bad (put (123 ∷ []) (json_at (length xs) false 0 xs))) same
          ∙ ap (λ x. piece Json bad (put (123 ∷ []) x)) (items_only 0 is after (length (items_bytes is ++ 125 ∷ after)) (omega arith) fits),
      refl,
    )

no_json : (done : List Word) (b : ℕ) → (b ≡ 123 → ends_comma done ≡ false) → (eqb b 123 && is_comma (view done)) ≡ false
no_json done b none =
    elim (eqb_tells b 123) [ inl e ↦ rw (e.0) (comma_is done ∙ none e.1) | inr e ↦ rw (e.0) refl ]

sign_read : (done : List Word) (b : ℕ) (after : List ℕ) → is_mark b ≡ true → (b ≡ 123 → ends_comma done ≡ false) → Token_read done (sign b) after
sign_read done b after mark none =
    (b, after, Mark, b ∷ [], refl, no_blank_mark b mark, at_mark (view done) b after (other_than is_mark b 34 refl mark) (no_json done b none) mark, refl)

bare_read : (done : List Word) (b : ℕ) (bs after : List ℕ) → is_word b ≡ true → Each is_word bs → Ends is_word after → Token_read done (bare (b ∷ bs)) after
bare_read done b bs after first each ends =
    let json : (eqb b 123 && is_comma (view done)) ≡ false = rw (other_than is_word b 123 refl first) refl in
    let cut : bare_at (b ∷ (bs ++ after)) ≡ (b ∷ bs, after) =
    bare_cut b (bs ++ after) ∙ ap (λ (xs : List ℕ). (b ∷ xs, drop (before_first (λ x. not (is_word x)) (bs ++ after)) (bs ++ after))) (run_take is_word bs after each ends)
    ∙ ap (λ (xs : List ℕ). (b ∷ bs, xs)) (run_drop is_word bs after each ends) in (
      b,
      bs ++ after,
      Bare,
      b ∷ bs,
      refl,
      no_blank_word b first,
      at_word (view done) b (bs ++ after) (other_than is_word b 34 refl first) json (no_mark_word b first) first ∙ ap bare_piece cut,
      refl,
    )

-- a blank, or a token that is read
abbrev pub Token_only : List Word → Piece → List ℕ → Type 0
Token_only done (blank b) after = is_blank b ≡ true
Token_only done (bare bs) after = Token_read done (bare bs) after
Token_only done (quotes cs) after = Token_read done (quotes cs) after
Token_only done (sign b) after = Token_read done (sign b) after
Token_only done (braces is) after = Token_read done (braces is) after

pub piece_only : (done : List Word) (p : Piece) (after : List ℕ) → Fits done p after → Token_only done p after
piece_only done (blank b) after fits = fits
piece_only done (bare []) after fits = absurd fits.0
piece_only done (bare (b ∷ bs)) after fits = bare_read done b bs after fits.0.0 fits.0.1 fits.1
piece_only done (quotes cs) after fits = quotes_read done cs after fits
piece_only done (sign b) after fits = sign_read done b after fits.0 fits.1
piece_only done (braces is) after fits = braces_read done is after fits.0 fits.1

-- what is read is written by a piece
abbrev pub PieceRead : List Word → List ℕ → TokenKind → List ℕ → List ℕ → Type 0
PieceRead done bytes k t next = (p : Piece) × (bytes ≡ piece_bytes p ++ next) × Fits done p next × (words_of p ≡ (k, t) ∷ [])

abbrev got : TokenKind × List ℕ × List ℕ → Read → TokenKind × List ℕ × List ℕ
got d (Ok x) = x
got d (Err e) = d

abbrev Parts : TokenKind → List ℕ → List ℕ → TokenKind → List ℕ → List ℕ → Type 0
Parts k t next k' t' next' = (k ≡ k') × (t ≡ t') × (next ≡ next')

parts : (k k' : TokenKind) (t t' next next' : List ℕ) (r : Read) → r ≡ Ok (k, t, next) → r ≡ Ok (k', t', next') → Parts k t next k' t' next'
parts k k' t t' next next' r f g =
    let x : got (k, t, next) r ≡ got (k, t, next) (Ok (k, t, next)) = ap (got (k, t, next)) f in
    let y : got (k, t, next) r ≡ got (k, t, next) (Ok (k', t', next')) = ap (got (k, t, next)) g in
    let z = sym x ∙ y in
    (ap (λ (p : TokenKind × List ℕ × List ℕ). p.0) z, ap (λ (p : TokenKind × List ℕ × List ℕ). p.1) z, ap (λ (p : TokenKind × List ℕ × List ℕ). p.2) z)

pub ok_err : (x : TokenKind × List ℕ × List ℕ) (fault : TokenFault) (r : Read) → r ≡ Ok x → r ≡ Err fault → ⊥
ok_err x fault r a b = absurd cc

bad_ok : (k : TokenKind) (t next : List ℕ) (r : Read) → r ≡ Err bad → r ≡ Ok (k, t, next) → ⊥
bad_ok k t next r a b = absurd cc

piece_gives : (kind : TokenKind) (fault : TokenFault) (r : Text) (k : TokenKind) (t next : List ℕ) → piece kind fault r ≡ Ok (k, t, next) → (r ≡ Some (t, next)) × (kind ≡ k)
piece_gives kind fault None k t next h = absurd cc
piece_gives kind fault (Some x) k t next h =
    let e = parts kind k x.0 t x.1 next (piece kind fault (Some x)) refl h in
    (ap (λ (xs : List ℕ). Some (xs, x.1)) e.1 ∙ ap (λ (xs : List ℕ). Some (t, xs)) e.2, e.0)

quotes_found : (done : List Word) (rest : List ℕ) (k : TokenKind) (t next : List ℕ) → QuotedAs rest t next → Quoted ≡ k → PieceRead done (34 ∷ rest) k t next
quotes_found done rest k t next (cs, bytes, fits, meant) kind = (
  quotes cs,
  ap (λ (xs : List ℕ). 34 ∷ xs) (bytes ∙ sym (append_assoc (chars_bytes cs) (34 ∷ []) next)),
  fits,
  ap (λ (x : TokenKind). (x, chars_text cs) ∷ []) kind ∙ ap (λ (xs : List ℕ). (k, xs) ∷ []) (sym meant),
)

braces_found : (done : List Word) (rest : List ℕ) (k : TokenKind) (t more next : List ℕ) → ends_comma done ≡ true → 123 ∷ more ≡ t → InBraces 0 rest more next → Json ≡ k → PieceRead done (123 ∷ rest) k t next
braces_found done rest k t more next comma made (is, bytes, fits, meant) kind = (
  braces is,
  ap (λ (xs : List ℕ). 123 ∷ xs) (bytes ∙ sym (append_assoc (items_bytes is) (125 ∷ []) next)),
  (comma, fits),
  ap (λ (x : TokenKind). (x, 123 ∷ (items_text is ++ 125 ∷ [])) ∷ []) kind ∙ ap (λ (xs : List ℕ). (k, xs) ∷ []) (ap (λ (xs : List ℕ). 123 ∷ xs) (sym meant) ∙ made),
)

bare_found : (done : List Word) (b : ℕ) (rest : List ℕ) (k : TokenKind) (t next : List ℕ) → is_word b ≡ true → bare_piece (bare_at (b ∷ rest)) ≡ Ok (k, t, next) → PieceRead done (b ∷ rest) k t next
bare_found done b rest k t next first h =
    let e = parts Bare k (b ∷ take (before_first (λ x. not (is_word x)) rest) rest) t (drop (before_first (λ x. not (is_word x)) rest) rest) next (bare_piece (bare_at (b ∷ rest))) (ap bare_piece (bare_cut b rest)) h in
    let kind = e.0 in
    let text = e.1 in
    let left = e.2 in
    let cut = run_found is_word rest in (
      bare (b ∷ take (before_first (λ x. not (is_word x)) rest) rest),
      ap (λ (xs : List ℕ). b ∷ xs) (sym (take-append-drop (before_first (λ x. not (is_word x)) rest) rest) ∙ ap (λ (xs : List ℕ). take (before_first (λ x. not (is_word x)) rest) rest ++ xs) left),
      ((first, cut.0), subst (Ends is_word) left cut.1),
      ap (λ (x : TokenKind). (x, b ∷ take (before_first (λ x. not (is_word x)) rest) rest) ∷ []) kind ∙ ap (λ (xs : List ℕ). (k, xs) ∷ []) text,
    )

both : (a b : Bool) → (a && b) ≡ true → (a ≡ true) × (b ≡ true)
both true true h = (refl, refl)
both true false h = absurd (true≢false (sym h))
both false b h = absurd (true≢false (sym h))

second : (a b : Bool) → a ≡ true → (a && b) ≡ false → b ≡ false
second true b h e = e
second false b h e = absurd (true≢false (sym h))

pub piece_found : (done : List Word) (b : ℕ) (rest : List ℕ) (k : TokenKind) (t next : List ℕ) → token_at (view done) (b ∷ rest) ≡ Ok (k, t, next) → PieceRead done (b ∷ rest) k t next
piece_found done b rest k t next h =
    elim (eqb_tells b 34) [
      | inl q ↦ let p = piece_gives Quoted open_quotes (quoted_at (length rest) rest) k t next (sym (at_quote (view done) b rest q.0) ∙ h) in
          rw q.1 (quotes_found done rest k t next (quoted_found (length rest) rest t next p.0) p.1)
      | inr q ↦ by_json q.0 (eqb b 123 && is_comma (view done)) refl
    ]
  where
    by_word : eqb b 34 ≡ false → (eqb b 123 && is_comma (view done)) ≡ false → is_mark b ≡ false → (w : Bool) → is_word b ≡ w → PieceRead done (b ∷ rest) k t next
    by_word q j m true w = bare_found done b rest k t next w (sym (at_word (view done) b rest q j m w) ∙ h)
    by_word q j m false w = absurd (bad_ok k t next (token_at (view done) (b ∷ rest)) (at_bad (view done) b rest q j m w) h)

    by_mark : eqb b 34 ≡ false → (eqb b 123 && is_comma (view done)) ≡ false → (m : Bool) → is_mark b ≡ m → PieceRead done (b ∷ rest) k t next
    by_mark q j false m = by_word q j m (is_word b) refl
    by_mark q j true m =
        let e = parts Mark k (b ∷ []) t rest next (token_at (view done) (b ∷ rest)) (at_mark (view done) b rest q j m) h in
        let kind = e.0 in
        let text = e.1 in
        let left = e.2 in (
          sign b,
          ap (λ (xs : List ℕ). b ∷ xs) left,
          (m, λ here. sym (comma_is done) ∙ second (eqb b 123) (is_comma (view done)) (ap (λ x. eqb x 123) here) j),
          ap (λ (x : TokenKind). (x, b ∷ []) ∷ []) kind ∙ ap (λ (xs : List ℕ). (k, xs) ∷ []) text,
        )

    by_json : eqb b 34 ≡ false → (j : Bool) → (eqb b 123 && is_comma (view done)) ≡ j → PieceRead done (b ∷ rest) k t next
    by_json q false j = by_mark q j (is_mark b) refl
    by_json q true j =
        let here = both (eqb b 123) (is_comma (view done)) j in
        let p = piece_gives Json bad (put (123 ∷ []) (json_at (length rest) false 0 rest)) k t next (sym (at_json (view done) b rest q j) ∙ h) in
        let m = put_gives (123 ∷ []) t next (json_at (length rest) false 0 rest) p.0 in
        let is : b ≡ 123 = eqb-true b 123 here.0 in
        rw is (braces_found done rest k t m.0 next (sym (comma_is done) ∙ here.1) m.2 (json_found (length rest) false 0 rest m.0 next m.1) p.1)

-- the fault of a byte where no token is read
pub fault_is : (st : Before) (b : ℕ) (rest : List ℕ) (line : ℕ) (fault : TokenFault) → token_at st (b ∷ rest) ≡ Err fault → fault_on line fault ≡ fault_at b line
fault_is st b rest line fault h =
    elim (eqb_tells b 34) [
      | inl q ↦ rw q.0 (of_piece Quoted open_quotes (quoted_at (length rest) rest) (sym (at_quote st b rest q.0) ∙ h))
      | inr q ↦ rw q.0 (by_json q.0 (eqb b 123 && is_comma st) refl)
    ]
  where
    of_piece : (kind : TokenKind) (why : TokenFault) (r : Text) → piece kind why r ≡ Err fault → fault_on line fault ≡ fault_on line why
    of_piece kind why None e = let f : why ≡ fault = cc in ap (fault_on line) (sym f)
    of_piece kind why (Some x) e = absurd cc

    of_bad : (r : Read) → r ≡ Err bad → r ≡ Err fault → fault_on line fault ≡ BadToken line
    of_bad r e f = let g : bad ≡ fault = cc in ap (fault_on line) (sym g)

    by_word : eqb b 34 ≡ false → (eqb b 123 && is_comma st) ≡ false → is_mark b ≡ false → (w : Bool) → is_word b ≡ w → fault_on line fault ≡ BadToken line
    by_word q j m true w = absurd (ok_err (Bare, (bare_at (b ∷ rest)).0, (bare_at (b ∷ rest)).1) fault (token_at st (b ∷ rest)) (at_word st b rest q j m w) h)
    by_word q j m false w = of_bad (token_at st (b ∷ rest)) (at_bad st b rest q j m w) h

    by_mark : eqb b 34 ≡ false → (eqb b 123 && is_comma st) ≡ false → (m : Bool) → is_mark b ≡ m → fault_on line fault ≡ BadToken line
    by_mark q j true m = absurd (ok_err (Mark, b ∷ [], rest) fault (token_at st (b ∷ rest)) (at_mark st b rest q j m) h)
    by_mark q j false m = by_word q j m (is_word b) refl

    by_json : eqb b 34 ≡ false → (j : Bool) → (eqb b 123 && is_comma st) ≡ j → fault_on line fault ≡ BadToken line
    by_json q true j = of_piece Json bad (put (123 ∷ []) (json_at (length rest) false 0 rest)) (sym (at_json st b rest q j) ∙ h)
    by_json q false j = by_mark q j (is_mark b) refl
