-- JSON is read exactly where its items are written.
use Rattle.std.proofs.Common.{◌≡◌, ◌≢◌, ℕ, zero, suc, ◌+◌, ◌-◌, ◌≤◌, ◌<◌, Bool, eqb, cond, true, false, not, ◌||◌, List, [], ◌∷◌, ◌++◌, length, take, drop, Some, None, refl, sym, ap, subst, ◌∙◌, arith, inl, inr, append_assoc, add-one, length-append}
use Rattle.std.proofs.lemmas.Bool.{true≢false}
use Rattle.std.proofs.lemmas.Bool.Decides.{eqb_tells}
use Rattle.std.proofs.lemmas.List.{take-append-drop}
use Rattle.pvd_type.proofs.Sets.{differs}
use Rattle.db_text.specs.Macros.{front, before_first}
use Rattle.db_text.specs.Cutting.{Text, put, is_key, is_colon, is_before_colon, key_text, word_len, kept_pair, json_at}
use Rattle.db_text.specs.Grammar.{Char, as_is, escaped, chars_bytes, IsJsonText, Item, run, in_quotes, opens, closes, other, items_bytes, before_colon, items_text, Each, Ends, NoRun, IsJson}
use Rattle.db_text.proofs.JsonTexts as steps
use Rattle.db_text.proofs.Quoting.{put_gives, pair_parts}
use Rattle.db_text.proofs.Runs.{first_cons, run_take, run_drop, run_found, other_than}

colon_cons : (b : ℕ) (xs : List ℕ) → is_before_colon (b ∷ xs) ≡ cond (eqb b 32 || eqb b 9) (is_before_colon xs) (eqb b 58)
colon_cons b xs = by_blank (eqb b 32 || eqb b 9) refl
  where
    by_blank : (t : Bool) → (eqb b 32 || eqb b 9) ≡ t → is_before_colon (b ∷ xs) ≡ cond (eqb b 32 || eqb b 9) (is_before_colon xs) (eqb b 58)
    by_blank true e =
        let n : before_first (λ x. not (eqb x 32 || eqb x 9)) (b ∷ xs) ≡ suc (before_first (λ x. not (eqb x 32 || eqb x 9)) xs) =
        first_cons (λ x. not (eqb x 32 || eqb x 9)) b xs ∙ rw e (omega arith) in
        ap (λ m. is_colon (drop m (b ∷ xs))) n ∙ rw e refl
    by_blank false e =
        let n : before_first (λ x. not (eqb x 32 || eqb x 9)) (b ∷ xs) ≡ 0 = first_cons (λ x. not (eqb x 32 || eqb x 9)) b xs ∙ rw e refl in
        ap (λ m. is_colon (drop m (b ∷ xs))) n ∙ rw e refl

-- whether a colon follows is seen at the items
colon_is : (depth : ℕ) (is : List Item) (next : List ℕ) → IsJson depth is → is_before_colon (items_bytes is ++ 125 ∷ next) ≡ before_colon is
colon_is depth [] next fits = colon_cons 125 next
colon_is depth (run [] ∷ is) next fits = absurd fits.0
colon_is depth (run (b ∷ bs) ∷ is) next fits =
    colon_cons b (bs ++ items_bytes is ++ 125 ∷ next)
    ∙ rw (other_than is_key b 32 refl fits.0.0, other_than is_key b 9 refl fits.0.0, other_than is_key b 58 refl fits.0.0) refl
colon_is depth (in_quotes cs ∷ is) next fits = colon_cons 34 ((chars_bytes cs ++ 34 ∷ []) ++ items_bytes is ++ 125 ∷ next)
colon_is depth (opens ∷ is) next fits = colon_cons 123 (items_bytes is ++ 125 ∷ next)
colon_is depth (closes ∷ is) next fits = colon_cons 125 (items_bytes is ++ 125 ∷ next)
colon_is depth (other b ∷ is) next fits =
    colon_cons b (items_bytes is ++ 125 ∷ next) ∙ ap (λ t. cond (eqb b 32 || eqb b 9) t (eqb b 58)) (colon_is depth is next fits.4)

-- no run begins where the items begin with none
ends_run : (depth : ℕ) (is : List Item) (next : List ℕ) → IsJson depth is → NoRun is → Ends is_key (items_bytes is ++ 125 ∷ next)
ends_run depth [] next fits none = refl
ends_run depth (run bs ∷ is) next fits none = absurd none
ends_run depth (in_quotes cs ∷ is) next fits none = refl
ends_run depth (opens ∷ is) next fits none = refl
ends_run depth (closes ∷ is) next fits none = refl
ends_run depth (other b ∷ is) next fits none = fits.0

no_run : (depth : ℕ) (is : List Item) (next : List ℕ) → IsJson depth is → Ends is_key (items_bytes is ++ 125 ∷ next) → NoRun is
no_run depth [] next fits ends = tt
no_run depth (run [] ∷ is) next fits ends = absurd fits.0
no_run depth (run (b ∷ bs) ∷ is) next fits ends = absurd (true≢false (sym fits.0.0 ∙ ends))
no_run depth (in_quotes cs ∷ is) next fits ends = tt
no_run depth (opens ∷ is) next fits ends = tt
no_run depth (closes ∷ is) next fits ends = tt
no_run depth (other b ∷ is) next fits ends = tt

abbrev Reads : ℕ → Bool → ℕ → List ℕ → List ℕ → List ℕ → Type 0
Reads n quoted depth bytes t next = json_at n quoted depth bytes ≡ Some (t, next)

-- written characters, up to the closing quote
chars_only : (depth : ℕ) (rest t next : List ℕ) (cs : List Char) (n : ℕ) → length (chars_bytes cs ++ 34 ∷ rest) ≤ n → IsJsonText cs
    → ((m : ℕ) → length rest ≤ m → Reads m false depth rest t next) → Reads n true depth (chars_bytes cs ++ 34 ∷ rest) (chars_bytes cs ++ 34 ∷ t) next
chars_only depth rest t next [] zero enough fits more = let e : suc (length rest) ≤ 0 = enough in absurd (omega (arith, e))
chars_only depth rest t next [] (suc n) enough fits more =
    let e : suc (length rest) ≤ suc n = enough in steps.keeps n depth 34 rest refl ∙ ap (put (34 ∷ [])) (more n (omega (arith, e)))
chars_only depth rest t next (as_is b ∷ cs) zero enough fits more = let e : suc (length (chars_bytes cs ++ 34 ∷ rest)) ≤ 0 = enough in absurd (omega (arith, e))
chars_only depth rest t next (as_is b ∷ cs) (suc n) enough fits more =
    let e : suc (length (chars_bytes cs ++ 34 ∷ rest)) ≤ suc n = enough in
    let on = chars_only depth rest t next cs n (omega (arith, e)) fits.2 more in
    let still : not (eqb b 34) ≡ true = rw (differs b 34 fits.0) refl in
    steps.keeps n depth b (chars_bytes cs ++ 34 ∷ rest) (differs b 92 fits.1)
    ∙ ap (λ q. put (b ∷ []) (json_at n q depth (chars_bytes cs ++ 34 ∷ rest))) still ∙ ap (put (b ∷ [])) on
chars_only depth rest t next (escaped b ∷ cs) zero enough fits more = let e : suc (suc (length (chars_bytes cs ++ 34 ∷ rest))) ≤ 0 = enough in absurd (omega (arith, e))
chars_only depth rest t next (escaped b ∷ cs) (suc n) enough fits more =
    let e : suc (suc (length (chars_bytes cs ++ 34 ∷ rest))) ≤ suc n = enough in
    let on = chars_only depth rest t next cs n (omega (arith, e)) fits more in
    steps.pairs n depth 92 (b ∷ (chars_bytes cs ++ 34 ∷ rest)) refl ∙ ap (put (92 ∷ b ∷ [])) on

-- written items, up to the closing brace
pub items_only : (depth : ℕ) (is : List Item) (next : List ℕ) (n : ℕ) → length (items_bytes is ++ 125 ∷ next) ≤ n → IsJson depth is
    → Reads n false depth (items_bytes is ++ 125 ∷ next) (items_text is ++ 125 ∷ []) next
items_only depth [] next zero enough fits = let e : suc (length next) ≤ 0 = enough in absurd (omega (arith, e))
items_only depth [] next (suc n) enough fits = steps.closes n depth 125 next refl refl ∙ rw fits refl
items_only depth (run [] ∷ is) next n enough fits = absurd fits.0
items_only depth (run (b ∷ bs) ∷ is) next zero enough fits = let e : suc (length (bs ++ items_bytes is ++ 125 ∷ next)) ≤ 0 = enough in absurd (omega (arith, e))
items_only depth (run (b ∷ bs) ∷ is) next (suc n) enough fits =
    let rest : List ℕ = items_bytes is ++ 125 ∷ next in
    let same : bs ++ items_bytes is ++ 125 ∷ next ≡ bs ++ rest = append_assoc bs (items_bytes is) (125 ∷ next) in
    let e : suc (length (bs ++ items_bytes is ++ 125 ∷ next)) ≤ suc n = enough in
    let f = length-append bs rest in
    let g = ap length same in
    let ends = ends_run depth is next fits.2 fits.1 in
    let on = items_only depth is next n (omega (arith, e, f, g)) fits.2 in
    ap (λ (xs : List ℕ). json_at (suc n) false depth (b ∷ xs)) same ∙ steps.words n depth b (bs ++ rest) fits.0.0
    ∙ rw (run_take is_key bs rest fits.0.1 ends, run_drop is_key bs rest fits.0.1 ends) (ap (put (key_text (b ∷ bs) rest)) on
    ∙ ap (λ (xs : List ℕ). Some (xs, next)) (sym (append_assoc (key_text (b ∷ bs) rest) (items_text is) (125 ∷ [])) ∙ ap (λ t. cond t (34 ∷ (b ∷ bs ++ 34 ∷ [])) (b ∷ bs) ++ items_text is ++ 125 ∷ []) (colon_is depth is next fits.2)))
items_only depth (in_quotes cs ∷ is) next zero enough fits = let e : suc (length ((chars_bytes cs ++ 34 ∷ []) ++ items_bytes is ++ 125 ∷ next)) ≤ 0 = enough in absurd (omega (arith, e))
items_only depth (in_quotes cs ∷ is) next (suc n) enough fits =
    let rest : List ℕ = items_bytes is ++ 125 ∷ next in
    let same : (chars_bytes cs ++ 34 ∷ []) ++ items_bytes is ++ 125 ∷ next ≡ chars_bytes cs ++ 34 ∷ rest =
    append_assoc (chars_bytes cs ++ 34 ∷ []) (items_bytes is) (125 ∷ next) ∙ append_assoc (chars_bytes cs) (34 ∷ []) rest in
    let e : suc (length ((chars_bytes cs ++ 34 ∷ []) ++ items_bytes is ++ 125 ∷ next)) ≤ suc n = enough in
    let g = ap length same in
    let f = length-append (chars_bytes cs) (34 ∷ rest) in
    let on = chars_only depth rest (items_text is ++ 125 ∷ []) next cs n (omega (arith, e, g)) fits.0 (λ m h. items_only depth is next m h fits.1) in
    ap (λ (xs : List ℕ). json_at (suc n) false depth (34 ∷ xs)) same ∙ steps.others n depth 34 (chars_bytes cs ++ 34 ∷ rest) refl refl ∙ ap (put (34 ∷ [])) on
    ∙ ap (λ (xs : List ℕ). Some (34 ∷ xs, next)) (sym (append_assoc (chars_bytes cs ++ 34 ∷ []) (items_text is) (125 ∷ []) ∙ append_assoc (chars_bytes cs) (34 ∷ []) (items_text is ++ 125 ∷ [])))
items_only depth (opens ∷ is) next zero enough fits = let e : suc (length (items_bytes is ++ 125 ∷ next)) ≤ 0 = enough in absurd (omega (arith, e))
items_only depth (opens ∷ is) next (suc n) enough fits =
    let e : suc (length (items_bytes is ++ 125 ∷ next)) ≤ suc n = enough in
    steps.others n depth 123 (items_bytes is ++ 125 ∷ next) refl refl
    ∙ ap (λ d. put (123 ∷ []) (json_at n false d (items_bytes is ++ 125 ∷ next))) (add-one depth) ∙ ap (put (123 ∷ [])) (items_only (suc depth) is next n (omega (arith, e)) fits)
items_only depth (closes ∷ is) next zero enough fits = let e : suc (length (items_bytes is ++ 125 ∷ next)) ≤ 0 = enough in absurd (omega (arith, e))
items_only depth (closes ∷ is) next (suc n) enough fits =
    let e : suc (length (items_bytes is ++ 125 ∷ next)) ≤ suc n = enough in
    let some : eqb depth 0 ≡ false = differs depth 0 (λ z. omega (arith, z, fits.0)) in
    steps.closes n depth 125 (items_bytes is ++ 125 ∷ next) refl refl ∙ rw some (ap (put (125 ∷ [])) (items_only (depth - 1) is next n (omega (arith, e)) fits.1))
items_only depth (other b ∷ is) next zero enough fits = let e : suc (length (items_bytes is ++ 125 ∷ next)) ≤ 0 = enough in absurd (omega (arith, e))
items_only depth (other b ∷ is) next (suc n) enough fits =
    let e : suc (length (items_bytes is ++ 125 ∷ next)) ≤ suc n = enough in
    steps.others n depth b (items_bytes is ++ 125 ∷ next) fits.0 (differs b 125 fits.3)
    ∙ rw (differs b 34 fits.1, differs b 123 fits.2) (ap (put (b ∷ [])) (items_only depth is next n (omega (arith, e)) fits.4))

-- What is read: inside of braces, and inside of quotes in braces.
abbrev pub InBraces : ℕ → List ℕ → List ℕ → List ℕ → Type 0
InBraces depth bytes t next = (is : List Item) × (bytes ≡ items_bytes is ++ 125 ∷ next) × IsJson depth is × (t ≡ items_text is ++ 125 ∷ [])

abbrev pub InQuotes : ℕ → List ℕ → List ℕ → List ℕ → Type 0
InQuotes depth bytes t next =
    (cs : List Char) × (rest : List ℕ) × (more : List ℕ) × (bytes ≡ chars_bytes cs ++ 34 ∷ rest) × IsJsonText cs × (t ≡ chars_bytes cs ++ 34 ∷ more) × InBraces depth rest more next

abbrev pub Found : Bool → ℕ → List ℕ → List ℕ → List ℕ → Type 0
Found true = InQuotes
Found false = InBraces

some_none : (t next : List ℕ) (r : Text) → r ≡ None → r ≡ Some (t, next) → ⊥
some_none t next r a b = absurd cc

abbrev Step : ℕ → Type 0
Step n = (quoted : Bool) (depth : ℕ) (bytes t next : List ℕ) → Reads n quoted depth bytes t next → Found quoted depth bytes t next

pair_with : (depth x : ℕ) (xs more t next : List ℕ) → 92 ∷ x ∷ more ≡ t → InQuotes depth xs more next → InQuotes depth (92 ∷ x ∷ xs) t next
pair_with depth x xs more t next made (cs, rest, left, bytes, fits, meant, inside) =
    (escaped x ∷ cs, rest, left, ap (λ (ys : List ℕ). 92 ∷ x ∷ ys) bytes, fits, sym made ∙ ap (λ (ys : List ℕ). 92 ∷ x ∷ ys) meant, inside)

found_pair : (n depth : ℕ) (after t next : List ℕ) → Step n → kept_pair 92 (json_at n true depth) (front after) ≡ Some (t, next) → InQuotes depth (92 ∷ after) t next
found_pair n depth [] t next step e = absurd (some_none t next None refl e)
found_pair n depth (x ∷ xs) t next step e =
    let p = put_gives (92 ∷ x ∷ []) t next (json_at n true depth xs) e in
    pair_with depth x xs p.0 t next p.2 (step true depth xs p.0 next p.1)

char_with : (depth b : ℕ) (xs more t next : List ℕ) → (b ≢ 34) → (b ≢ 92) → b ∷ more ≡ t → InQuotes depth xs more next → InQuotes depth (b ∷ xs) t next
char_with depth b xs more t next quote slash made (cs, rest, left, bytes, fits, meant, inside) =
    (as_is b ∷ cs, rest, left, ap (λ (ys : List ℕ). b ∷ ys) bytes, (quote, slash, fits), sym made ∙ ap (λ (ys : List ℕ). b ∷ ys) meant, inside)

found_quoted : (n depth b : ℕ) (rest t next : List ℕ) → Step n → Reads (suc n) true depth (b ∷ rest) t next → InQuotes depth (b ∷ rest) t next
found_quoted n depth b rest t next step h =
    elim (eqb_tells b 92) [
      | inl s ↦ rw s.1 (found_pair n depth rest t next step (rw s.1 at (sym (steps.pairs n depth b rest s.0) ∙ h)))
      | inr s ↦ let p = put_gives (b ∷ []) t next (json_at n (not (eqb b 34)) depth rest) (sym (steps.keeps n depth b rest s.0) ∙ h) in
          elim (eqb_tells b 34) [
            | inl q ↦ let inside = step false depth rest p.0 next (ap (λ x. json_at n (not x) depth rest) (sym q.0) ∙ p.1) in
                ([], rest, p.0, ap (λ x. x ∷ rest) q.1, tt, sym p.2 ∙ ap (λ x. x ∷ p.0) q.1, inside)
            | inr q ↦ char_with depth b rest p.0 t next q.1 s.1 p.2 (step true depth rest p.0 next (ap (λ x. json_at n (not x) depth rest) (sym q.0) ∙ p.1))
          ]
    ]

run_with : (depth b : ℕ) (rest more t next : List ℕ) (k : ℕ) → is_key b ≡ true → k ≡ word_len rest → key_text (b ∷ take k rest) (drop k rest) ++ more ≡ t
    → InBraces depth (drop k rest) more next → InBraces depth (b ∷ rest) t next
run_with depth b rest more t next k key counts made (is, bytes, fits, meant) =
    let cut = run_found is_key rest in
    let each : Each is_key (take k rest) = subst (λ (m : ℕ). Each is_key (take m rest)) (sym counts) cut.0 in
    let ends : Ends is_key (items_bytes is ++ 125 ∷ next) = subst (Ends is_key) bytes (subst (λ (m : ℕ). Ends is_key (drop m rest)) (sym counts) cut.1) in
    let colon : is_before_colon (drop k rest) ≡ before_colon is = ap is_before_colon bytes ∙ colon_is depth is next fits in
    let whole : b ∷ rest ≡ (b ∷ take k rest) ++ items_bytes is ++ 125 ∷ next =
    ap (λ (ys : List ℕ). b ∷ ys) (sym (take-append-drop k rest) ∙ ap (λ (ys : List ℕ). take k rest ++ ys) bytes ∙ sym (append_assoc (take k rest) (items_bytes is) (125 ∷ next))) in
    let text : t ≡ items_text (run (b ∷ take k rest) ∷ is) ++ 125 ∷ [] =
    sym made ∙ ap (λ c. cond c (34 ∷ ((b ∷ take k rest) ++ 34 ∷ [])) (b ∷ take k rest) ++ more) colon
    ∙ ap (λ (ys : List ℕ). cond (before_colon is) (34 ∷ ((b ∷ take k rest) ++ 34 ∷ [])) (b ∷ take k rest) ++ ys) meant
    ∙ sym (append_assoc (cond (before_colon is) (34 ∷ ((b ∷ take k rest) ++ 34 ∷ [])) (b ∷ take k rest)) (items_text is) (125 ∷ [])) in
    (run (b ∷ take k rest) ∷ is, whole, ((key, each), no_run depth is next fits ends, fits), text)

quotes_with : (depth : ℕ) (rest more t next : List ℕ) → 34 ∷ more ≡ t → InQuotes depth rest more next → InBraces depth (34 ∷ rest) t next
quotes_with depth rest more t next made (cs, after, left, bytes, fits, meant, (is, inner, good, shown)) =
    let whole : 34 ∷ rest ≡ 34 ∷ ((chars_bytes cs ++ 34 ∷ []) ++ items_bytes is ++ 125 ∷ next) =
    ap (λ (ys : List ℕ). 34 ∷ ys) (bytes ∙ ap (λ (ys : List ℕ). chars_bytes cs ++ 34 ∷ ys) inner
    ∙ sym (append_assoc (chars_bytes cs ++ 34 ∷ []) (items_bytes is) (125 ∷ next) ∙ append_assoc (chars_bytes cs) (34 ∷ []) (items_bytes is ++ 125 ∷ next))) in
    let text : t ≡ 34 ∷ ((chars_bytes cs ++ 34 ∷ []) ++ items_text is ++ 125 ∷ []) =
    sym made ∙ ap (λ (ys : List ℕ). 34 ∷ ys) (meant ∙ ap (λ (ys : List ℕ). chars_bytes cs ++ 34 ∷ ys) shown
    ∙ sym (append_assoc (chars_bytes cs ++ 34 ∷ []) (items_text is) (125 ∷ []) ∙ append_assoc (chars_bytes cs) (34 ∷ []) (items_text is ++ 125 ∷ []))) in
    (in_quotes cs ∷ is, whole, (fits, good), text)

opens_with : (depth : ℕ) (rest more t next : List ℕ) → 123 ∷ more ≡ t → InBraces (suc depth) rest more next → InBraces depth (123 ∷ rest) t next
opens_with depth rest more t next made (is, bytes, fits, meant) =
    (opens ∷ is, ap (λ (ys : List ℕ). 123 ∷ ys) bytes, fits, sym made ∙ ap (λ (ys : List ℕ). 123 ∷ ys) meant)

closes_with : (depth : ℕ) (rest more t next : List ℕ) → 0 < depth → 125 ∷ more ≡ t → InBraces (depth - 1) rest more next → InBraces depth (125 ∷ rest) t next
closes_with depth rest more t next some made (is, bytes, fits, meant) =
    (closes ∷ is, ap (λ (ys : List ℕ). 125 ∷ ys) bytes, (some, fits), sym made ∙ ap (λ (ys : List ℕ). 125 ∷ ys) meant)

other_with : (depth b : ℕ) (rest more t next : List ℕ) → is_key b ≡ false → (b ≢ 34) → (b ≢ 123) → (b ≢ 125) → b ∷ more ≡ t → InBraces depth rest more next → InBraces depth (b ∷ rest) t next
other_with depth b rest more t next no_key quote brace close made (is, bytes, fits, meant) =
    (other b ∷ is, ap (λ (ys : List ℕ). b ∷ ys) bytes, (no_key, quote, brace, close, fits), sym made ∙ ap (λ (ys : List ℕ). b ∷ ys) meant)

some_depth : (depth : ℕ) → (depth ≢ 0) → 0 < depth
some_depth zero z = absurd (z refl)
some_depth (suc d) z = omega arith

found_close : (n depth : ℕ) (rest t next : List ℕ) → Step n → cond (eqb depth 0) (Some (125 ∷ [], rest)) (put (125 ∷ []) (json_at n false (depth - 1) rest)) ≡ Some (t, next) → InBraces depth (125 ∷ rest) t next
found_close n depth rest t next step h =
    elim (eqb_tells depth 0) [
      | inl z ↦ let e = pair_parts (125 ∷ []) t rest next (Some (125 ∷ [], rest)) (Some (t, next)) refl refl (rw z.0 at h) in
          ([], ap (λ (ys : List ℕ). 125 ∷ ys) e.1, z.1, sym e.0)
      | inr z ↦ let p = put_gives (125 ∷ []) t next (json_at n false (depth - 1) rest) (rw z.0 at h) in
          closes_with depth rest p.0 t next (some_depth depth z.1) p.2 (step false (depth - 1) rest p.0 next p.1)
    ]

found_plain : (n depth b : ℕ) (rest t next : List ℕ) → Step n → is_key b ≡ false → (b ≢ 125) → put (b ∷ []) (json_at n (eqb b 34) (cond (eqb b 123) (depth + 1) depth) rest) ≡ Some (t, next) → InBraces depth (b ∷ rest) t next
found_plain n depth b rest t next step no_key close h =
    let p = put_gives (b ∷ []) t next (json_at n (eqb b 34) (cond (eqb b 123) (depth + 1) depth) rest) h in
    elim (eqb_tells b 34) [
      | inl q ↦ let deep : cond (eqb b 123) (depth + 1) depth ≡ depth = rw q.1 refl in
          let inside = step true depth rest p.0 next (ap (λ x. json_at n x depth rest) (sym q.0) ∙ ap (λ d. json_at n (eqb b 34) d rest) (sym deep) ∙ p.1) in
          rw q.1 (quotes_with depth rest p.0 t next (sym (ap (λ x. x ∷ p.0) q.1) ∙ p.2) inside)
      | inr q ↦ elim (eqb_tells b 123) [
        | inl o ↦ let deep : cond (eqb b 123) (depth + 1) depth ≡ suc depth = rw (o.0, add-one) refl in
            let inside = step false (suc depth) rest p.0 next (ap (λ x. json_at n x (suc depth) rest) (sym q.0) ∙ ap (λ d. json_at n (eqb b 34) d rest) (sym deep) ∙ p.1) in
            rw o.1 (opens_with depth rest p.0 t next (sym (ap (λ x. x ∷ p.0) o.1) ∙ p.2) inside)
        | inr o ↦ let deep : cond (eqb b 123) (depth + 1) depth ≡ depth = rw o.0 refl in
            let inside = step false depth rest p.0 next (ap (λ x. json_at n x depth rest) (sym q.0) ∙ ap (λ d. json_at n (eqb b 34) d rest) (sym deep) ∙ p.1) in
            other_with depth b rest p.0 t next no_key q.1 o.1 close p.2 inside
      ]
    ]

found_byte : (n depth b : ℕ) (rest t next : List ℕ) → Step n → Reads (suc n) false depth (b ∷ rest) t next → InBraces depth (b ∷ rest) t next
found_byte n depth b rest t next step h = by_key (is_key b) refl
  where
    by_key : (k : Bool) → is_key b ≡ k → InBraces depth (b ∷ rest) t next
    by_key true key =
        let p = put_gives (key_text (b ∷ take (word_len rest) rest) (drop (word_len rest) rest)) t next (json_at n false depth (drop (word_len rest) rest)) (sym (steps.words n depth b rest key) ∙ h) in
        run_with depth b rest p.0 t next (word_len rest) key refl p.2 (step false depth (drop (word_len rest) rest) p.0 next p.1)
    by_key false no_key =
        elim (eqb_tells b 125) [
          | inl c ↦ rw c.1 (found_close n depth rest t next step (rw c.1 at (sym (steps.closes n depth b rest no_key c.0) ∙ h)))
          | inr c ↦ found_plain n depth b rest t next step no_key c.1 (sym (steps.others n depth b rest no_key c.0) ∙ h)
        ]

at_zero : (quoted : Bool) (depth : ℕ) (bytes : List ℕ) → json_at zero quoted depth bytes ≡ None
unfolding json_at
at_zero quoted depth bytes = refl

pub json_found : (n : ℕ) (quoted : Bool) (depth : ℕ) (bytes t next : List ℕ) → Reads n quoted depth bytes t next → Found quoted depth bytes t next
json_found zero quoted depth bytes t next h = absurd (some_none t next (json_at zero quoted depth bytes) (at_zero quoted depth bytes) h)
json_found (suc n) quoted depth [] t next h = absurd (some_none t next (json_at (suc n) quoted depth []) (steps.at_end (suc n) quoted depth) h)
json_found (suc n) true depth (b ∷ rest) t next h = found_quoted n depth b rest t next (json_found n) h
json_found (suc n) false depth (b ∷ rest) t next h = found_byte n depth b rest t next (json_found n) h
