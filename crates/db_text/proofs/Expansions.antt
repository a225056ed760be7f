-- A text is expanded exactly into what its passages make.
use Rattle.std.proofs.Common.{◌≡◌, ℕ, zero, suc, ◌≤◌, ◌<◌, Bool, eqb, true, false, not, ◌||◌, ◌&&◌, List, [], ◌∷◌, ◌++◌, length, take, drop, Option, Some, None, is_some, Ok, Err, refl, sym, ap, subst, ◌∙◌, arith, inl, inr, append_assoc, length-append}
use Rattle.std.proofs.lemmas.List.{append-nil, take-append-drop}
use Rattle.std.proofs.lemmas.Bool.{true≢false}
use Rattle.std.proofs.lemmas.Bool.Decides.{eqb_tells}
use Rattle.db_text.specs.Macros.{Macros, MacroFault, unclosed, Made, before_first, front, either, opening, Macro, macro_at, followed, before}
use Rattle.db_text.specs.Expanding.{Placed, behind_comment, escaped, quoted_after, line_after, replaced, placed, expanded_from, expanded}
use Rattle.db_text.specs.Grammar.{Each, Ends, line_of}
use Rattle.db_text.specs.Expansion.{Reference, opener, reference_bytes, IsReference, StopsHere, Gives, Passage, comment, macro, pair, byte, passage_bytes, text_of, quoted_behind, MayStand, Follow, MakesHere, MakeAll, ExpandsTo, OneExpansion}
use Rattle.db_text.proofs.Runs.{run_drop, run_found, other_than}
use Rattle.db_text.proofs.Sequences.{lines_more, line_step}
use Rattle.db_text.proofs.Quoting.{the}
use Rattle.db_text.proofs.Texts.{TextGoes, text_end, text_comment, text_macro, text_faulty, text_pair, text_byte}
use Rattle.db_text.proofs.References.{none_some, opening_is, opening_other, same_test, read_of, reference_found}
use Rattle.db_text.proofs.Filling.{some_bytes, some_of, no_macro, no_reference, opens_as, given, replaced_given, replaced_unclosed, gives_only, gives_found}
use Rattle.db_text.proofs.Lines.{ends, ends_cons, ends_other, each_flat, reference_flat}

-- comments
no_comment : (quoted : Bool) (b : ℕ) (rest : List ℕ) → (b ≡ 35 → quoted ≡ true) → behind_comment quoted (b ∷ rest) ≡ None
unfolding behind_comment
no_comment quoted b rest may =
    elim (eqb_tells b 35) [ inl e ↦ rw (e.0, may e.1) refl | inr e ↦ rw e.0 refl ]

uncommented : (quoted : Bool) (bytes rest : List ℕ) → bytes ≡ 36 ∷ rest → behind_comment quoted bytes ≡ None
uncommented quoted bytes rest is = ap (behind_comment quoted) is ∙ no_comment quoted 36 rest (λ (f : 36 ≡ 35). absurd cc)

comment_is : (bs after : List ℕ) → Each (λ b. not (eqb b 10)) bs → Ends (λ b. not (eqb b 10)) after → behind_comment false (35 ∷ (bs ++ after)) ≡ Some after
unfolding behind_comment
comment_is bs after each ends =
    ap (λ (xs : List ℕ). Some xs)
    (ap (λ (q : ℕ → Bool). drop (before_first q (bs ++ after)) (bs ++ after)) (sym (same_test (λ b. eqb b 10))) ∙ run_drop (λ b. not (eqb b 10)) bs after each ends)

comment_here : (b : ℕ) (rest : List ℕ) → behind_comment false (35 ∷ rest) ≡ Some (drop (before_first (λ x. eqb x 10) rest) rest)
unfolding behind_comment
comment_here b rest = refl

comment_quoted : (b : ℕ) (rest : List ℕ) → behind_comment true (b ∷ rest) ≡ None
comment_quoted b rest = no_comment true b rest (λ e. refl)

abbrev CommentAt : Bool → ℕ → List ℕ → List ℕ → Type 0
CommentAt quoted b rest next = (bs : List ℕ) × (b ∷ rest ≡ 35 ∷ (bs ++ next)) × (quoted ≡ false) × Each (λ x. not (eqb x 10)) bs × Ends (λ x. not (eqb x 10)) next

comment_found : (quoted : Bool) (b : ℕ) (rest next : List ℕ) → behind_comment quoted (b ∷ rest) ≡ Some next → CommentAt quoted b rest next
comment_found true b rest next h = absurd (none_some next (behind_comment true (b ∷ rest)) (comment_quoted b rest) h)
comment_found false b rest next h =
    elim (eqb_tells b 35) [
      | inr e ↦ absurd (none_some next (behind_comment false (b ∷ rest)) (no_comment false b rest (λ f. absurd (e.1 f))) h)
      | inl e ↦ let k = before_first (λ x. eqb x 10) rest in
          let is : drop k rest ≡ next = ap (the next) (sym (comment_here b rest) ∙ ap (λ x. behind_comment false (x ∷ rest)) (sym e.1) ∙ h) in
          let cut = subst (λ (q : ℕ → Bool). Each (λ x. not (eqb x 10)) (take (before_first q rest) rest) × Ends (λ x. not (eqb x 10)) (drop (before_first q rest) rest)) (same_test (λ x. eqb x 10)) (run_found (λ x. not (eqb x 10)) rest) in (
            take k rest,
            ap (λ x. x ∷ rest) e.1 ∙ ap (λ (xs : List ℕ). 35 ∷ xs) (sym (take-append-drop k rest) ∙ ap (λ (xs : List ℕ). take k rest ++ xs) is),
            refl,
            cut.0,
            subst (Ends (λ x. not (eqb x 10))) is cut.1,
          )
    ]

quoted_by_sign : (quoted : Bool) (b : ℕ) (rest : List ℕ) → behind_comment quoted (b ∷ rest) ≡ None → b ≡ 35 → quoted ≡ true
quoted_by_sign true b rest h e = refl
quoted_by_sign false b rest h e =
    absurd (none_some (drop (before_first (λ x. eqb x 10) rest) rest) (behind_comment false (b ∷ rest)) h (ap (λ x. behind_comment false (x ∷ rest)) e ∙ comment_here b rest))

-- kept pairs
abbrev is_kept : ℕ → Bool
is_kept b = eqb b 34 || eqb b 92

escaped_is : (x : ℕ) (rest : List ℕ) → is_kept x ≡ true → escaped true (92 ∷ x ∷ rest) ≡ Some (x, rest)
unfolding escaped
escaped_is x rest is = rw is refl

escaped_one : (quoted : Bool) (b : ℕ) → escaped quoted (b ∷ []) ≡ None
unfolding escaped
escaped_one quoted b = refl

escaped_not : (quoted : Bool) (b x : ℕ) (rest : List ℕ) → ((quoted && eqb b 92) && is_kept x) ≡ false → escaped quoted (b ∷ x ∷ rest) ≡ None
unfolding escaped
escaped_not quoted b x rest h = rw h refl

escaped_so : (quoted : Bool) (b x : ℕ) (rest : List ℕ) → ((quoted && eqb b 92) && is_kept x) ≡ true → escaped quoted (b ∷ x ∷ rest) ≡ Some (x, rest)
unfolding escaped
escaped_so quoted b x rest h = rw h refl

abbrev Three : Bool → Bool → Bool → Type 0
Three u v w = (u ≡ true) × (v ≡ true) × (w ≡ true)

three : (u v w : Bool) → ((u && v) && w) ≡ true → Three u v w
three true true true h = (refl, refl, refl)
three true true false h = absurd (true≢false (sym h))
three true false w h = absurd (true≢false (sym h))
three false v w h = absurd (true≢false (sym h))

abbrev PairAt : Bool → ℕ → List ℕ → ℕ × List ℕ → Type 0
PairAt quoted b rest e = (b ∷ rest ≡ 92 ∷ e.0 ∷ e.1) × (quoted ≡ true) × (is_kept e.0 ≡ true) × (b ≡ 92)

pair_found : (quoted : Bool) (b : ℕ) (rest : List ℕ) (e : ℕ × List ℕ) → escaped quoted (b ∷ rest) ≡ Some e → PairAt quoted b rest e
pair_found quoted b [] e h = absurd (none_some e (escaped quoted (b ∷ [])) (escaped_one quoted b) h)
pair_found quoted b (x ∷ rest) e h = by_test ((quoted && eqb b 92) && is_kept x) refl
  where
    by_test : (v : Bool) → ((quoted && eqb b 92) && is_kept x) ≡ v → PairAt quoted b (x ∷ rest) e
    by_test false t = absurd (none_some e (escaped quoted (b ∷ x ∷ rest)) (escaped_not quoted b x rest t) h)
    by_test true t =
        let all = three quoted (eqb b 92) (is_kept x) t in
        let same : ◌≡◌ {A = ℕ × List ℕ} (x, rest) e = ap (the e) (sym (escaped_so quoted b x rest t) ∙ h) in
        elim (eqb_tells b 92) [
          | inr f ↦ absurd (true≢false (sym all.1 ∙ f.0))
          | inl f ↦ subst (PairAt quoted b (x ∷ rest)) same (ap (λ y. y ∷ x ∷ rest) f.1, all.0, all.2, f.1)
        ]

-- bytes that end no line
flat_line : (lead bytes : List ℕ) → ends bytes ≡ 0 → line_of lead ≡ line_of (lead ++ bytes)
flat_line lead bytes flat = let e = lines_more lead bytes in omega (arith, e, flat)

comment_flat : (bs : List ℕ) → Each (λ b. not (eqb b 10)) bs → ends (35 ∷ bs) ≡ 0
comment_flat bs each = let e = ends_cons 35 bs in let f = each_flat bs each in let g = ends_other 35 refl in omega (arith, e, f, g)

pair_flat : (b : ℕ) → is_kept b ≡ true → ends (92 ∷ b ∷ []) ≡ 0
pair_flat b is = let e = ends_cons 92 (b ∷ []) in let f = ends_other b (other_than is_kept b 10 refl is) in let g = ends_other 92 refl in omega (arith, e, f, g)

pub before_empty : (read : Placed) → before [] read ≡ read
before_empty (Ok x) = refl
before_empty (Err e) = refl

module _ (ms : Macros) where
  moved : (quoted : Bool) (line other : ℕ) (done new bytes : List ℕ) (whole : Placed) → line ≡ other → done ≡ new → TextGoes ms quoted line done bytes whole → TextGoes ms quoted other new bytes whole
  moved quoted line other done new bytes whole l d goes =
      subst (λ (xs : List ℕ). TextGoes ms quoted other xs bytes whole) d (subst (λ n. TextGoes ms quoted n done bytes whole) l goes)

  -- a passage that is written is read
  module _ (quoted : Bool) (lead done next here : List ℕ) (whole : Placed) where
    comment_goes : (bs : List ℕ) → quoted ≡ false → Each (λ b. not (eqb b 10)) bs → Ends (λ b. not (eqb b 10)) next → here ≡ [] → TextGoes ms quoted (line_of lead) done (35 ∷ (bs ++ next)) whole
        → TextGoes ms quoted (line_of (lead ++ 35 ∷ bs)) (done ++ here) next whole
    comment_goes bs unquoted each end makes goes =
        let found : Some next ≡ behind_comment quoted (35 ∷ (bs ++ next)) = subst (λ q. Some next ≡ behind_comment q (35 ∷ (bs ++ next))) (sym unquoted) (sym (comment_is bs next each end)) in
        let e = length-append bs next in
        moved quoted (line_of lead) (line_of (lead ++ 35 ∷ bs)) done (done ++ here) next whole (flat_line lead (35 ∷ bs) (comment_flat bs each)) (sym (ap (λ (xs : List ℕ). done ++ xs) makes ∙ append-nil done))
        (text_comment ms quoted (line_of lead) done (35 ∷ (bs ++ next)) whole 35 (bs ++ next) refl next found (omega (arith, e)) goes)

    opened_goes : (bytes : List ℕ) (o : ℕ × List ℕ) → opening bytes ≡ Some o → replaced ms o.0 o.1 ≡ Ok (here, next) → length next < length bytes → TextGoes ms quoted (line_of lead) done bytes whole → TextGoes ms quoted (line_of lead) (done ++ here) next whole
    opened_goes bytes o opens made shorter goes =
        let at = opening_is bytes o.0 o.1 opens in
        text_macro ms quoted (line_of lead) done bytes whole 36 (opener o.0 ∷ o.1) (sym (ap front at.0)) (sym (uncommented quoted bytes (opener o.0 ∷ o.1) at.0)) o.0 o.1 (sym opens) here next (done ++ here) made refl shorter goes

    macro_goes : (r : Reference) → IsReference r → given ms 16 r ≡ Ok here → TextGoes ms quoted (line_of lead) done (reference_bytes r ++ next) whole → TextGoes ms quoted (line_of (lead ++ reference_bytes r)) (done ++ here) next whole
    macro_goes r is gives goes =
        let at = opens_as (reference_bytes r ++ next) r next refl is in
        let e = length-append (reference_bytes r) next in
        moved quoted (line_of lead) (line_of (lead ++ reference_bytes r)) (done ++ here) (done ++ here) next whole (flat_line lead (reference_bytes r) (reference_flat r is)) refl
        (opened_goes (reference_bytes r ++ next) at.0 at.1 (replaced_given ms at.0.0 at.0.1 r next at.2 ∙ ap (followed next) gives) (omega (arith, e, some_bytes r)) goes)

    pair_goes : (b : ℕ) → quoted ≡ true → is_kept b ≡ true → here ≡ 92 ∷ b ∷ [] → TextGoes ms quoted (line_of lead) done (92 ∷ b ∷ next) whole → TextGoes ms quoted (line_of (lead ++ 92 ∷ b ∷ [])) (done ++ here) next whole
    pair_goes b quotes kept makes goes =
        let found : Some (b, next) ≡ escaped quoted (92 ∷ b ∷ next) = subst (λ q. Some (b, next) ≡ escaped q (92 ∷ b ∷ next)) (sym quotes) (sym (escaped_is b next kept)) in
        moved quoted (line_of lead) (line_of (lead ++ 92 ∷ b ∷ [])) (done ++ 92 ∷ b ∷ []) (done ++ here) next whole (flat_line lead (92 ∷ b ∷ []) (pair_flat b kept)) (ap (λ (xs : List ℕ). done ++ xs) (sym makes))
        (text_pair ms quoted (line_of lead) done (92 ∷ b ∷ next) whole 92 (b ∷ next) refl (sym (no_comment quoted 92 (b ∷ next) (λ (f : 92 ≡ 35). absurd cc))) (sym (opening_other 92 (b ∷ next) refl)) b next found (omega arith) goes)

    byte_goes : (b : ℕ) → (b ≡ 35 → quoted ≡ true) → opening (b ∷ next) ≡ None → escaped quoted (b ∷ next) ≡ None → here ≡ b ∷ [] → TextGoes ms quoted (line_of lead) done (b ∷ next) whole
        → TextGoes ms (quoted_after quoted b) (line_of (lead ++ b ∷ [])) (done ++ here) next whole
    byte_goes b may unopened single makes goes =
        moved (quoted_after quoted b) (line_after (line_of lead) b) (line_of (lead ++ b ∷ [])) (done ++ b ∷ []) (done ++ here) next whole (line_step lead b) (ap (λ (xs : List ℕ). done ++ xs) (sym makes))
        (text_byte ms quoted (line_of lead) done (b ∷ next) whole b next refl (sym (no_comment quoted b next may)) (sym unopened) (sym single) goes)

    passage_goes : (p : Passage) → MayStand quoted p next → MakesHere ms p here → TextGoes ms quoted (line_of lead) done (passage_bytes p ++ next) whole → TextGoes ms (quoted_behind quoted p) (line_of (lead ++ passage_bytes p)) (done ++ here) next whole
    passage_goes (comment bs) may makes goes = comment_goes bs may.0 may.1 may.2 makes goes
    passage_goes (macro r) may makes goes = macro_goes r may (gives_only ms 16 r (Ok here) makes) goes
    passage_goes (pair b) may makes goes = pair_goes b may.0 may.1 makes goes
    passage_goes (byte b) may makes goes = byte_goes b may.0 may.1 may.2 makes goes

  abbrev quoted_by : Bool → List Passage → Bool
  quoted_by quoted [] = quoted
  quoted_by quoted (p ∷ ps) = quoted_by (quoted_behind quoted p) ps

  passages_go : (ps : List Passage) (quoted : Bool) (lead done rest made : List ℕ) (whole : Placed) → Follow quoted ps rest → MakeAll ms ps made → TextGoes ms quoted (line_of lead) done (text_of ps ++ rest) whole
      → TextGoes ms (quoted_by quoted ps) (line_of (lead ++ text_of ps)) (done ++ made) rest whole
  passages_go [] quoted lead done rest made whole follow makes goes =
      moved quoted (line_of lead) (line_of (lead ++ [])) done (done ++ made) rest whole (ap line_of (sym (append-nil lead))) (sym (ap (λ (xs : List ℕ). done ++ xs) makes ∙ append-nil done)) goes
  passages_go (p ∷ ps) quoted lead done rest made whole follow (here, more, makes, same, others) goes =
      let bytes : (passage_bytes p ++ text_of ps) ++ rest ≡ passage_bytes p ++ (text_of ps ++ rest) = append_assoc (passage_bytes p) (text_of ps) rest in
      let next = passage_goes quoted lead done (text_of ps ++ rest) here whole p follow.0 makes (subst (λ (xs : List ℕ). TextGoes ms quoted (line_of lead) done xs whole) bytes goes) in
      moved (quoted_by (quoted_behind quoted p) ps) (line_of ((lead ++ passage_bytes p) ++ text_of ps)) (line_of (lead ++ (passage_bytes p ++ text_of ps))) ((done ++ here) ++ more) (done ++ made) rest whole
      (ap line_of (append_assoc lead (passage_bytes p) (text_of ps))) (append_assoc done here more ∙ ap (λ (xs : List ℕ). done ++ xs) (sym same))
      (passages_go ps (quoted_behind quoted p) (lead ++ passage_bytes p) (done ++ here) rest more whole follow.1 others next)

  stops_so : (quoted : Bool) (line : ℕ) (done rest : List ℕ) (fault : MacroFault) (whole : Placed) (o : ℕ × List ℕ) → opening rest ≡ Some o → replaced ms o.0 o.1 ≡ Err fault → TextGoes ms quoted line done rest whole → whole ≡ Err (fault, line)
  stops_so quoted line done rest fault whole o opens fails goes =
      let at = opening_is rest o.0 o.1 opens in
      text_faulty ms quoted line done rest whole 36 (opener o.0 ∷ o.1) (sym (ap front at.0)) (sym (uncommented quoted rest (opener o.0 ∷ o.1) at.0)) o.0 o.1 (sym opens) fault fails goes

  text_stops : (quoted : Bool) (line : ℕ) (done rest : List ℕ) (fault : MacroFault) (whole : Placed) → StopsHere (Gives ms 16) rest fault → TextGoes ms quoted line done rest whole → whole ≡ Err (fault, line)
  text_stops quoted line done rest fault whole (inl (opens, none, is)) goes =
      let (o, at) = some_of (opening rest) opens in
      stops_so quoted line done rest fault whole o at (replaced_unclosed ms o.0 o.1 (no_macro rest o at none) ∙ ap (λ (f : MacroFault). Err f) (sym is)) goes
  text_stops quoted line done rest fault whole (inr (r, after, same, is, gives)) goes =
      let (o, at, read) = opens_as rest r after same is in
      stops_so quoted line done rest fault whole o at (replaced_given ms o.0 o.1 r after read ∙ ap (followed after) (gives_only ms 16 r (Err fault) gives)) goes

  abbrev from_start : List ℕ → Placed
  from_start text = expanded_from ms (length text) false 1 text

  start : (text bytes : List ℕ) → text ≡ bytes → TextGoes ms false (line_of []) [] bytes (from_start text)
  start text bytes same = subst (λ (xs : List ℕ). TextGoes ms false 1 [] xs (from_start text)) same (length text, omega arith, before_empty (from_start text))

  text_only : (text : List ℕ) (e : Placed) → ExpandsTo ms text e → from_start text ≡ e
  text_only text (Ok plain) (ps, same, follow, makes) =
      let goes = passages_go ps false [] [] [] plain (from_start text) follow makes (start text (text_of ps ++ []) same) in
      text_end ms (quoted_by false ps) (line_of (text_of ps)) plain [] (from_start text) refl goes
  text_only text (Err e) (ps, rest, made, same, follow, makes, stops, line) =
      let goes = passages_go ps false [] [] rest made (from_start text) follow makes (start text (text_of ps ++ rest) same) in
      text_stops (quoted_by false ps) (line_of (text_of ps)) made rest e.0 (from_start text) stops goes ∙ ap (λ n. Err (e.0, n)) (sym line)

  -- what is made is what passages make
  abbrev FoundAs : Bool → List ℕ → List ℕ → Placed → Type 0
  FoundAs quoted lead bytes (Ok plain) = (ps : List Passage) × (bytes ≡ text_of ps ++ []) × Follow quoted ps [] × MakeAll ms ps plain
  FoundAs quoted lead bytes (Err e) =
      (ps : List Passage) × (rest : List ℕ) × (made : List ℕ) × (bytes ≡ text_of ps ++ rest) × Follow quoted ps rest × MakeAll ms ps made × StopsHere (Gives ms 16) rest e.0 × (e.1 ≡ line_of (lead ++ text_of ps))

  with_passage : (quoted : Bool) (lead bytes : List ℕ) (p : Passage) (next here : List ℕ) (r : Placed) → bytes ≡ passage_bytes p ++ next → MayStand quoted p next → MakesHere ms p here
      → FoundAs (quoted_behind quoted p) (lead ++ passage_bytes p) next r → FoundAs quoted lead bytes (before here r)
  with_passage quoted lead bytes p next here (Ok plain) same may makes (ps, left, follow, others) = (
    p ∷ ps,
    same ∙ ap (λ (xs : List ℕ). passage_bytes p ++ xs) left ∙ sym (append_assoc (passage_bytes p) (text_of ps) []),
    (subst (MayStand quoted p) left may, follow),
    (here, plain, makes, refl, others),
  )
  with_passage quoted lead bytes p next here (Err e) same may makes (ps, rest, made, left, follow, others, stops, line) = (
    p ∷ ps,
    rest,
    here ++ made,
    same ∙ ap (λ (xs : List ℕ). passage_bytes p ++ xs) left ∙ sym (append_assoc (passage_bytes p) (text_of ps) rest),
    (subst (MayStand quoted p) left may, follow),
    (here, made, makes, refl, others),
    stops,
    line ∙ ap line_of (append_assoc lead (passage_bytes p) (text_of ps)),
  )

  module _ (n : ℕ) (more : (quoted : Bool) (lead bytes : List ℕ) → length bytes ≤ n → FoundAs quoted lead bytes (expanded_from ms n quoted (line_of lead) bytes)) (quoted : Bool) (lead : List ℕ) where
    abbrev on : ℕ → List ℕ → Placed
    on line bytes = expanded_from ms n quoted line bytes

    -- a passage behind which the line and the quotes are the same
    with_flat : (bytes : List ℕ) (p : Passage) (next here : List ℕ) → quoted_behind quoted p ≡ quoted → ends (passage_bytes p) ≡ 0 → length next ≤ n → bytes ≡ passage_bytes p ++ next → MayStand quoted p next → MakesHere ms p here
        → FoundAs quoted lead bytes (before here (on (line_of lead) next))
    with_flat bytes p next here still flat few same may makes =
        with_passage quoted lead bytes p next here (on (line_of lead) next) same may makes
        (subst (λ q. FoundAs q (lead ++ passage_bytes p) next (on (line_of lead) next)) (sym still)
        (subst (λ l. FoundAs quoted (lead ++ passage_bytes p) next (on l next)) (sym (flat_line lead (passage_bytes p) flat)) (more quoted (lead ++ passage_bytes p) next few)))

    stopped : (bytes : List ℕ) (fault : MacroFault) → StopsHere (Gives ms 16) bytes fault → FoundAs quoted lead bytes (Err (fault, line_of lead))
    stopped bytes fault stops = ([], bytes, [], refl, tt, refl, stops, ap line_of (sym (append-nil lead)))

    module _ (b : ℕ) (rest : List ℕ) (enough : suc (length rest) ≤ suc n) where
      at_step : expanded_from ms (suc n) quoted (line_of lead) (b ∷ rest)
          ≡ either
          (either
          (either (before (b ∷ []) (expanded_from ms n (quoted_after quoted b) (line_after (line_of lead) b) rest)) (λ e. before (b ∷ e.0 ∷ []) (on (line_of lead) e.1)) (escaped quoted (b ∷ rest)))
          (λ o. placed (line_of lead) (on (line_of lead)) (replaced ms o.0 o.1)) (opening (b ∷ rest)))
          (on (line_of lead)) (behind_comment quoted (b ∷ rest))
      unfolding expanded_from
      at_step = refl

      by_given : (r : Reference) (after : List ℕ) (m : Made (List ℕ)) → b ∷ rest ≡ reference_bytes r ++ after → IsReference r → given ms 16 r ≡ m → FoundAs quoted lead (b ∷ rest) (placed (line_of lead) (on (line_of lead)) (followed after m))
      by_given r after (Err fault) same is gives = stopped (b ∷ rest) fault (inr (r, after, same, is, subst (Gives ms 16 r) gives (gives_found ms 16 r)))
      by_given r after (Ok here) same is gives =
          let e = ap length same in
          let f = length-append (reference_bytes r) after in
          with_flat (b ∷ rest) (macro r) after here refl (reference_flat r is) (omega (arith, e, f, enough, some_bytes r)) same is (subst (Gives ms 16 r) gives (gives_found ms 16 r))

      by_macro : (o : ℕ × List ℕ) (m : Option Macro) → opening (b ∷ rest) ≡ Some o → macro_at o.0 o.1 ≡ m → FoundAs quoted lead (b ∷ rest) (placed (line_of lead) (on (line_of lead)) (replaced ms o.0 o.1))
      by_macro o None opens none =
          subst (λ x. FoundAs quoted lead (b ∷ rest) (placed (line_of lead) (on (line_of lead)) x)) (sym (replaced_unclosed ms o.0 o.1 none))
          (stopped (b ∷ rest) unclosed (inl (ap is_some opens, no_reference (b ∷ rest) o opens none, refl)))
      by_macro o (Some m) opens read =
          let (r, same, is, name, default) = reference_found (b ∷ rest) o.0 o.1 m opens read in
          let (p, opens_too, read_too) = opens_as (b ∷ rest) r m.rest same is in
          let here : ◌≡◌ {A = ℕ × List ℕ} o p = ap (the o) (sym opens ∙ opens_too) in
          let is_read : macro_at o.0 o.1 ≡ Some (read_of r m.rest) = ap (λ (q : ℕ × List ℕ). macro_at q.0 q.1) here ∙ read_too in
          subst (λ x. FoundAs quoted lead (b ∷ rest) (placed (line_of lead) (on (line_of lead)) x)) (sym (replaced_given ms o.0 o.1 r m.rest is_read)) (by_given r m.rest (given ms 16 r) same is refl)

      by_pair : (e : Option (ℕ × List ℕ)) → behind_comment quoted (b ∷ rest) ≡ None → opening (b ∷ rest) ≡ None → escaped quoted (b ∷ rest) ≡ e
          → FoundAs quoted lead (b ∷ rest) (either (before (b ∷ []) (expanded_from ms n (quoted_after quoted b) (line_after (line_of lead) b) rest)) (λ e. before (b ∷ e.0 ∷ []) (on (line_of lead) e.1)) e)
      by_pair None uncommented unopened none =
          with_passage quoted lead (b ∷ rest) (byte b) rest (b ∷ []) (expanded_from ms n (quoted_after quoted b) (line_after (line_of lead) b) rest) refl (quoted_by_sign quoted b rest uncommented, unopened, none) refl
          (subst (λ l. FoundAs (quoted_after quoted b) (lead ++ b ∷ []) rest (expanded_from ms n (quoted_after quoted b) l rest)) (sym (line_step lead b)) (more (quoted_after quoted b) (lead ++ b ∷ []) rest (omega (arith, enough))))
      by_pair (Some e) uncommented unopened is =
          let (same, quotes, kept, sign) = pair_found quoted b rest e is in
          let f = ap length same in
          with_flat (b ∷ rest) (pair e.0) e.1 (b ∷ e.0 ∷ []) refl (pair_flat e.0 kept) (omega (arith, f, enough)) same (quotes, kept) (ap (λ x. x ∷ e.0 ∷ []) sign)

      by_opening : (o : Option (ℕ × List ℕ)) → behind_comment quoted (b ∷ rest) ≡ None → opening (b ∷ rest) ≡ o
          → FoundAs quoted lead (b ∷ rest) (either (either (before (b ∷ []) (expanded_from ms n (quoted_after quoted b) (line_after (line_of lead) b) rest)) (λ e. before (b ∷ e.0 ∷ []) (on (line_of lead) e.1)) (escaped quoted (b ∷ rest)))
          (λ o. placed (line_of lead) (on (line_of lead)) (replaced ms o.0 o.1)) o)
      by_opening None uncommented none = by_pair (escaped quoted (b ∷ rest)) uncommented none refl
      by_opening (Some o) uncommented opens = by_macro o (macro_at o.0 o.1) opens refl

      by_comment : (c : Option (List ℕ)) → behind_comment quoted (b ∷ rest) ≡ c
          → FoundAs quoted lead (b ∷ rest) (either
          (either (either (before (b ∷ []) (expanded_from ms n (quoted_after quoted b) (line_after (line_of lead) b) rest)) (λ e. before (b ∷ e.0 ∷ []) (on (line_of lead) e.1)) (escaped quoted (b ∷ rest)))
          (λ o. placed (line_of lead) (on (line_of lead)) (replaced ms o.0 o.1)) (opening (b ∷ rest)))
          (on (line_of lead)) c)
      by_comment None none = by_opening (opening (b ∷ rest)) none refl
      by_comment (Some next) is =
          let (bs, same, unquoted, each, end) = comment_found quoted b rest next is in
          let f = ap length same in
          let g = length-append bs next in
          subst (FoundAs quoted lead (b ∷ rest)) (before_empty (on (line_of lead) next))
          (with_flat (b ∷ rest) (comment bs) next [] refl (comment_flat bs each) (omega (arith, f, g, enough)) same (unquoted, each, end) refl)

      pub byte_found : FoundAs quoted lead (b ∷ rest) (expanded_from ms (suc n) quoted (line_of lead) (b ∷ rest))
      byte_found = subst (FoundAs quoted lead (b ∷ rest)) (sym at_step) (by_comment (behind_comment quoted (b ∷ rest)) refl)

  nothing_left : (n : ℕ) (quoted : Bool) (line : ℕ) → expanded_from ms n quoted line [] ≡ Ok []
  unfolding expanded_from
  nothing_left zero quoted line = refl
  nothing_left (suc n) quoted line = refl

  text_found : (n : ℕ) (quoted : Bool) (lead bytes : List ℕ) → length bytes ≤ n → FoundAs quoted lead bytes (expanded_from ms n quoted (line_of lead) bytes)
  text_found n quoted lead [] enough = subst (FoundAs quoted lead []) (sym (nothing_left n quoted (line_of lead))) ([], refl, tt, refl)
  text_found zero quoted lead (b ∷ rest) enough = let e : suc (length rest) ≤ 0 = enough in absurd (omega (arith, e))
  text_found (suc n) quoted lead (b ∷ rest) enough = byte_found n (λ q l xs few. text_found n q l xs few) quoted lead b rest enough

  expanded_is : (text : List ℕ) → expanded ms text ≡ from_start text
  unfolding expanded
  expanded_is text = refl

  as_text : (text : List ℕ) (e : Placed) → FoundAs false [] text e → ExpandsTo ms text e
  as_text text (Ok plain) h = h
  as_text text (Err e) h = h

  pub expansion_found : (text : List ℕ) → ExpandsTo ms text (expanded ms text)
  expansion_found text = subst (ExpandsTo ms text) (sym (expanded_is text)) (as_text text (from_start text) (text_found (length text) false [] text (omega arith)))

  pub expansion_only : (text : List ℕ) (e : Placed) → ExpandsTo ms text e → expanded ms text ≡ e
  expansion_only text e h = expanded_is text ∙ text_only text e h

pub one_expansion : OneExpansion
one_expansion ms text one other f g = sym (expansion_only ms text one f) ∙ expansion_only ms text other g
