-- What a macro gives is what is made of the text that stands for it.
use Rattle.std.proofs.Common.{◌≡◌, ℕ, zero, suc, ◌≤◌, ◌<◌, List, [], ◌∷◌, ◌++◌, length, Option, Some, None, is_some, Ok, Err, eqb, true, false, refl, sym, ap, subst, ◌∙◌, arith, inl, inr, append_assoc, length-append}
use Rattle.std.proofs.lemmas.List.{append-nil}
use Rattle.std.proofs.lemmas.Bool.{true≢false}
use Rattle.pvd_type.proofs.Sets.{differs}
use Rattle.db_text.specs.Expanding.{replacing, replaced}
use Rattle.db_text.specs.Macros.{Macros, MacroFault, unclosed, unknown, too_deep, Made, either, opening, Macro, macro_at, standing_of, followed, chosen_of, chosen, before, made_then, after_macro, made_with, made_inside}
use Rattle.db_text.specs.Expansion.{Reference, named, defaulted, Content, nothing, char, refers, reference_bytes, content_bytes, IsReference, IsContent, name_of, stands_for, Makes, NoReference, StopsHere, Fills, StandsFor, Gives}
use Rattle.db_text.proofs.Making.{Goes, goes_end, goes_plain}
use Rattle.db_text.proofs.References.{Calm, none_some, opening_none, opening_is, opening_more, opening_less, closer_of, read_of, reference_only, reference_found}

-- what a macro gives, by what is made of the text that stands for it
abbrev pub given_of : (List ℕ → Made (List ℕ)) → List ℕ → Option (List ℕ) → Made (List ℕ)
given_of inside name None = Err (unknown name)
given_of inside name (Some text) = inside text

unfoldable pub given : Macros → ℕ → Reference → Made (List ℕ)
given ms zero r = Err too_deep
given ms (suc room) r = given_of (made_inside ms (suc room)) (name_of r) (stands_for ms r)

abbrev pub some_is : {A : Type 0} → Option A → Type 0
some_is o = is_some o ≡ true

pub opens_some : (bytes : List ℕ) (o : ℕ × List ℕ) → opening bytes ≡ Some o → 0 < length bytes
opens_some bytes o h = let e = ap length (opening_is bytes o.0 o.1 h).0 in omega (arith, e)

pub some_bytes : (r : Reference) → 0 < length (reference_bytes r)
some_bytes (named closer name) = omega arith
some_bytes (defaulted closer name d) = omega arith

pub calm_opening : (bytes : List ℕ) (o : ℕ × List ℕ) → opening bytes ≡ Some o → Calm bytes
calm_opening bytes o h = subst Calm (sym (opening_is bytes o.0 o.1 h).0) (refl, refl)

pub some_of : {A : Type 0} (o : Option A) → is_some o ≡ true → (a : A) × (o ≡ Some a)
some_of None h = absurd (true≢false (sym h))
some_of (Some a) h = (a, refl)

pub same_some : {A : Type 0} (a b : A) (o : Option A) → o ≡ Some a → o ≡ Some b → a ≡ b
same_some a b o f g = cc

-- a macro that isn't written is none that is read
pub no_macro : (bytes : List ℕ) (o : ℕ × List ℕ) → opening bytes ≡ Some o → NoReference bytes → macro_at o.0 o.1 ≡ None
no_macro bytes o opens none = by_read (macro_at o.0 o.1) refl
  where
    by_read : (m : Option Macro) → macro_at o.0 o.1 ≡ m → macro_at o.0 o.1 ≡ None
    by_read None e = e
    by_read (Some m) e = let w = reference_found bytes o.0 o.1 m opens e in absurd (none w.0 m.rest w.1 w.2)

pub no_reference : (bytes : List ℕ) (o : ℕ × List ℕ) → opening bytes ≡ Some o → macro_at o.0 o.1 ≡ None → NoReference bytes
no_reference bytes o opens none r after same is =
    let (inside, opens_too, read) = reference_only r after is in
    let here : o ≡ (closer_of r, inside) = same_some o (closer_of r, inside) (opening bytes) opens (ap opening same ∙ opens_too) in
    none_some (read_of r after) (macro_at o.0 o.1) none (ap (λ (p : ℕ × List ℕ). macro_at p.0 p.1) here ∙ read)

-- a macro that is written opens, and is read
pub opens_as : (bytes : List ℕ) (r : Reference) (after : List ℕ) → bytes ≡ reference_bytes r ++ after → IsReference r → (o : ℕ × List ℕ) × (opening bytes ≡ Some o) × (macro_at o.0 o.1 ≡ Some (read_of r after))
opens_as bytes r after same is = let (inside, opens, read) = reference_only r after is in ((closer_of r, inside), ap opening same ∙ opens, read)

module _ (ms : Macros) where
  unread : (room closer : ℕ) (inside : List ℕ) → macro_at closer inside ≡ None → chosen ms room closer inside ≡ Err unclosed
  unfolding chosen
  unread room closer inside none = ap (chosen_of ms room) none

  chosen_here : (room : ℕ) (r : Reference) (after : List ℕ) → chosen_of ms (suc room) (Some (read_of r after)) ≡ followed after (standing_of (name_of r) (stands_for ms r))
  chosen_here room r after = let some : eqb (suc room) 0 ≡ false = differs (suc room) 0 (λ (e : suc room ≡ 0). absurd (omega (arith, e))) in rw some refl

  abbrev replacing_at : ℕ → Made (List ℕ × List ℕ) → Made (List ℕ × List ℕ)
  replacing_at room (Err fault) = Err fault
  replacing_at room (Ok m) = followed m.1 (made_inside ms room m.0)

  chosen_replaces : (room : ℕ) (r : Reference) (after : List ℕ) → replacing_at room (chosen_of ms room (Some (read_of r after))) ≡ followed after (given ms room r)
  unfolding given
  chosen_replaces zero r after = refl
  chosen_replaces (suc room) r after = ap (replacing_at (suc room)) (chosen_here room r after) ∙ by_text (stands_for ms r)
    where
      by_text : (o : Option (List ℕ)) → replacing_at (suc room) (followed after (standing_of (name_of r) o)) ≡ followed after (given_of (made_inside ms (suc room)) (name_of r) o)
      by_text None = refl
      by_text (Some text) = refl

  replacing_same : (m : Made (List ℕ × List ℕ)) → replacing ms m ≡ replacing_at 16 m
  replacing_same (Err fault) = refl
  replacing_same (Ok m) = refl

  pub replaced_given : (closer : ℕ) (inside : List ℕ) (r : Reference) (after : List ℕ) → macro_at closer inside ≡ Some (read_of r after) → replaced ms closer inside ≡ followed after (given ms 16 r)
  unfolding replaced chosen
  replaced_given closer inside r after read = ap (λ m. replacing ms (chosen_of ms 16 m)) read ∙ replacing_same (chosen_of ms 16 (Some (read_of r after))) ∙ chosen_replaces 16 r after

  pub replaced_unclosed : (closer : ℕ) (inside : List ℕ) → macro_at closer inside ≡ None → replaced ms closer inside ≡ Err unclosed
  unfolding replaced chosen
  replaced_unclosed closer inside none = ap (λ m. replacing ms (chosen_of ms 16 m)) none

  -- what is made of a macro that was read
  chosen_makes : (room : ℕ) (r : Reference) (after : List ℕ) (more : List ℕ → Made (List ℕ)) → after_macro (made_inside ms room) more (chosen_of ms room (Some (read_of r after))) ≡ made_then more after (given ms room r)
  unfolding given
  chosen_makes zero r after more = refl
  chosen_makes (suc room) r after more = ap (after_macro (made_inside ms (suc room)) more) (chosen_here room r after) ∙ by_text (stands_for ms r)
    where
      by_text : (o : Option (List ℕ)) → after_macro (made_inside ms (suc room)) more (followed after (standing_of (name_of r) o)) ≡ made_then more after (given_of (made_inside ms (suc room)) (name_of r) o)
      by_text None = refl
      by_text (Some text) = refl

  pub chosen_given : (room closer : ℕ) (inside : List ℕ) (r : Reference) (after : List ℕ) (more : List ℕ → Made (List ℕ)) → macro_at closer inside ≡ Some (read_of r after)
      → after_macro (made_inside ms room) more (chosen ms room closer inside) ≡ made_then more after (given ms room r)
  unfolding chosen
  chosen_given room closer inside r after more read = ap (λ m. after_macro (made_inside ms room) more (chosen_of ms room m)) read ∙ chosen_makes room r after more

  pub chosen_unclosed : (room closer : ℕ) (inside : List ℕ) → macro_at closer inside ≡ None → chosen ms room closer inside ≡ Err unclosed
  chosen_unclosed room closer inside none = unread room closer inside none

  module _ (room : ℕ) where
    abbrev makes : ℕ → List ℕ → Made (List ℕ)
    makes n bytes = made_with ms room (made_inside ms room) n bytes

    makes_end : (n : ℕ) → made_with ms room (made_inside ms room) n [] ≡ Ok []
    unfolding made_with
    makes_end zero = refl
    makes_end (suc n) = refl

    makes_step : (n b : ℕ) (rest : List ℕ) → made_with ms room (made_inside ms room) (suc n) (b ∷ rest)
        ≡ either (before (b ∷ []) (makes n rest)) (λ o. after_macro (made_inside ms room) (makes n) (chosen ms room o.0 o.1)) (opening (b ∷ rest))
    unfolding made_with
    makes_step n b rest = refl

    makes_macro : (n : ℕ) (bytes : List ℕ) (o : ℕ × List ℕ) → opening bytes ≡ Some o → makes (suc n) bytes ≡ after_macro (made_inside ms room) (makes n) (chosen ms room o.0 o.1)
    makes_macro n [] o opens = absurd (none_some o (opening []) opening_none opens)
    makes_macro n (b ∷ rest) o opens = makes_step n b rest ∙ ap (either (before (b ∷ []) (makes n rest)) (λ o. after_macro (made_inside ms room) (makes n) (chosen ms room o.0 o.1))) opens

    -- a macro that is written, in content
    makes_reference : (n : ℕ) (bytes : List ℕ) (r : Reference) (after : List ℕ) → bytes ≡ reference_bytes r ++ after → IsReference r → makes (suc n) bytes ≡ made_then (makes n) after (given ms room r)
    makes_reference n bytes r after same is =
        let (o, opens, read) = opens_as bytes r after same is in
        makes_macro n bytes o opens ∙ chosen_given room o.0 o.1 r after (makes n) read

    before_then : (done here : List ℕ) (m : Made (List ℕ)) (more : List ℕ → Made (List ℕ)) (after : List ℕ) → m ≡ Ok here → before done (made_then more after m) ≡ before (done ++ here) (more after)
    before_then done here m more after is = ap (λ x. before done (made_then more after x)) is ∙ joined (more after)
      where
        joined : (x : Made (List ℕ)) → before done (before here x) ≡ before (done ++ here) x
        joined (Ok c) = ap (λ (xs : List ℕ). Ok xs) (sym (append_assoc done here c))
        joined (Err e) = refl

    goes_reference : (done : List ℕ) (r : Reference) (after here : List ℕ) (whole : Made (List ℕ)) → IsReference r → given ms room r ≡ Ok here → Goes ms room done (reference_bytes r ++ after) whole → Goes ms room (done ++ here) after whole
    goes_reference done r after here whole is gives (zero, enough, same) = let e = length-append (reference_bytes r) after in absurd (omega (arith, e, some_bytes r))
    goes_reference done r after here whole is gives (suc n, enough, same) =
        let e = length-append (reference_bytes r) after in
        (n, omega (arith, e, some_bytes r), sym (before_then done here (given ms room r) (makes n) after gives) ∙ ap (before done) (sym (makes_reference n (reference_bytes r ++ after) r after refl is)) ∙ same)

    module _ (only : (r : Reference) (made : Made (List ℕ)) → Gives ms room r made → given ms room r ≡ made) where
      content_goes : (c : Content) (done rest made : List ℕ) (whole : Made (List ℕ)) → IsContent c → Makes (Gives ms room) c made → Calm rest → Goes ms room done (content_bytes c ++ rest) whole → Goes ms room (done ++ made) rest whole
      content_goes nothing done rest made whole is makes calm goes = subst (λ (xs : List ℕ). Goes ms room xs rest whole) (sym (ap (λ (xs : List ℕ). done ++ xs) makes ∙ append-nil done)) goes
      content_goes (char b c) done rest made whole is (more, same, makes) calm goes =
          let here = goes_plain ms room done (b ∷ (content_bytes c ++ rest)) whole b (content_bytes c ++ rest) refl (sym (opening_more b (content_bytes c) rest is.0 calm)) goes in
          let on = content_goes c (done ++ b ∷ []) rest more whole is.1 makes calm here in
          subst (λ (xs : List ℕ). Goes ms room xs rest whole) (append_assoc done (b ∷ []) more ∙ ap (λ (xs : List ℕ). done ++ xs) (sym same)) on
      content_goes (refers r c) done rest made whole is (here, more, gives, same, makes) calm goes =
          let bytes : (reference_bytes r ++ content_bytes c) ++ rest ≡ reference_bytes r ++ (content_bytes c ++ rest) = append_assoc (reference_bytes r) (content_bytes c) rest in
          let next = goes_reference done r (content_bytes c ++ rest) here whole is.0 (only r (Ok here) gives) (subst (λ (xs : List ℕ). Goes ms room done xs whole) bytes goes) in
          let on = content_goes c (done ++ here) rest more whole is.1 makes calm next in
          subst (λ (xs : List ℕ). Goes ms room xs rest whole) (append_assoc done here more ∙ ap (λ (xs : List ℕ). done ++ xs) (sym same)) on

      stop_calm : (rest : List ℕ) (fault : MacroFault) → StopsHere (Gives ms room) rest fault → Calm rest
      stop_calm rest fault (inl (opens, none, is)) = let o = some_of (opening rest) opens in calm_opening rest o.0 o.1
      stop_calm rest fault (inr (r, after, same, is, gives)) = let o = opens_as rest r after same is in calm_opening rest o.0 o.1

      goes_stops : (done rest : List ℕ) (fault : MacroFault) (whole : Made (List ℕ)) → StopsHere (Gives ms room) rest fault → Goes ms room done rest whole → whole ≡ Err fault
      goes_stops done rest fault whole (inl (opens, none, is)) (zero, enough, same) = let o = some_of (opening rest) opens in absurd (omega (arith, opens_some rest o.0 o.1))
      goes_stops done rest fault whole (inr (r, after, bytes, is, gives)) (zero, enough, same) = let o = opens_as rest r after bytes is in absurd (omega (arith, opens_some rest o.0 o.1))
      goes_stops done rest fault whole (inl (opens, none, is)) (suc n, enough, same) =
          let o = some_of (opening rest) opens in
          sym same ∙ ap (before done) (makes_macro n rest o.0 o.1 ∙ ap (after_macro (made_inside ms room) (makes n)) (chosen_unclosed room o.0.0 o.0.1 (no_macro rest o.0 o.1 none)))
          ∙ ap (λ (f : MacroFault). Err f) (sym is)
      goes_stops done rest fault whole (inr (r, after, bytes, is, gives)) (suc n, enough, same) =
          sym same ∙ ap (before done) (makes_reference n rest r after bytes is ∙ ap (made_then (makes n) after) (only r (Err fault) gives))

      pub fills_only : (text : List ℕ) (made : Made (List ℕ)) → Fills (Gives ms room) text made → makes (length text) text ≡ made
      fills_only text (Ok made) (c, same, is, makes_it) =
          let start : Goes ms room [] (content_bytes c ++ []) (before [] (makes (length text) text)) =
          subst (λ (xs : List ℕ). Goes ms room [] xs (before [] (makes (length text) text))) (same ∙ sym (append-nil (content_bytes c))) (length text, omega arith, refl) in
          let end = goes_end ms room made [] (before [] (makes (length text) text)) refl (content_goes c [] [] made (before [] (makes (length text) text)) is makes_it tt start) in
          no_more (makes (length text) text) (Ok made) end
        where
          no_more : (r made : Made (List ℕ)) → before [] r ≡ made → r ≡ made
          no_more (Ok x) made e = e
          no_more (Err x) made e = e
      fills_only text (Err fault) (c, rest, made, same, is, makes_it, stops) =
          let start : Goes ms room [] (content_bytes c ++ rest) (before [] (makes (length text) text)) =
          subst (λ (xs : List ℕ). Goes ms room [] xs (before [] (makes (length text) text))) same (length text, omega arith, refl) in
          let here = content_goes c [] rest made (before [] (makes (length text) text)) is makes_it (stop_calm rest fault stops) start in
          no_more (makes (length text) text) (Err fault) (goes_stops made rest fault (before [] (makes (length text) text)) stops here)
        where
          no_more : (r made : Made (List ℕ)) → before [] r ≡ made → r ≡ made
          no_more (Ok x) made e = e
          no_more (Err x) made e = e

    module _ (found : (r : Reference) → Gives ms room r (given ms room r)) where
      with_char : (b : ℕ) (rest : List ℕ) (r : Made (List ℕ)) → opening (b ∷ rest) ≡ None → Fills (Gives ms room) rest r → Fills (Gives ms room) (b ∷ rest) (before (b ∷ []) r)
      with_char b rest (Ok made) none (c, same, is, makes_it) =
          (char b c, ap (λ (xs : List ℕ). b ∷ xs) same, (subst (λ (xs : List ℕ). opening (b ∷ xs) ≡ None) same none, is), (made, refl, makes_it))
      with_char b rest (Err fault) none (c, left, made, same, is, makes_it, stops) = (
        char b c,
        left,
        b ∷ made,
        ap (λ (xs : List ℕ). b ∷ xs) same,
        (opening_less b (content_bytes c) left (subst (λ (xs : List ℕ). opening (b ∷ xs) ≡ None) same none), is),
        (made, refl, makes_it),
        stops,
      )

      with_reference : (bytes : List ℕ) (r : Reference) (after here : List ℕ) (m : Made (List ℕ)) → bytes ≡ reference_bytes r ++ after → IsReference r → given ms room r ≡ Ok here → Fills (Gives ms room) after m → Fills (Gives ms room) bytes (before here m)
      with_reference bytes r after here (Ok made) whole is gives (c, same, content, makes_it) =
          (refers r c, whole ∙ ap (λ (xs : List ℕ). reference_bytes r ++ xs) same, (is, content), (here, made, subst (Gives ms room r) gives (found r), refl, makes_it))
      with_reference bytes r after here (Err fault) whole is gives (c, left, made, same, content, makes_it, stops) = (
        refers r c,
        left,
        here ++ made,
        whole ∙ ap (λ (xs : List ℕ). reference_bytes r ++ xs) same ∙ sym (append_assoc (reference_bytes r) (content_bytes c) left),
        (is, content),
        (here, made, subst (Gives ms room r) gives (found r), refl, makes_it),
        stops,
      )

      module _ (n : ℕ) (more : (text : List ℕ) → length text ≤ n → Fills (Gives ms room) text (makes n text)) (b : ℕ) (rest : List ℕ) (enough : suc (length rest) ≤ suc n) where
        by_given : (r : Reference) (after : List ℕ) (m : Made (List ℕ)) → b ∷ rest ≡ reference_bytes r ++ after → IsReference r → given ms room r ≡ m → Fills (Gives ms room) (b ∷ rest) (made_then (makes n) after m)
        by_given r after (Err fault) same is gives = (nothing, b ∷ rest, [], refl, tt, refl, inr (r, after, same, is, subst (Gives ms room r) gives (found r)))
        by_given r after (Ok here) same is gives =
            let e = ap length same in
            let f = length-append (reference_bytes r) after in
            with_reference (b ∷ rest) r after here (makes n after) same is gives (more after (omega (arith, e, f, enough, some_bytes r)))

        by_macro : (o : ℕ × List ℕ) (m : Option Macro) → opening (b ∷ rest) ≡ Some o → macro_at o.0 o.1 ≡ m → Fills (Gives ms room) (b ∷ rest) (makes (suc n) (b ∷ rest))
        by_macro o None opens none =
            subst (Fills (Gives ms room) (b ∷ rest)) (sym (makes_macro n (b ∷ rest) o opens ∙ ap (after_macro (made_inside ms room) (makes n)) (chosen_unclosed room o.0 o.1 none)))
            (nothing, b ∷ rest, [], refl, tt, refl, inl (ap is_some opens, no_reference (b ∷ rest) o opens none, refl))
        by_macro o (Some m) opens read =
            let (r, same, is, name, default) = reference_found (b ∷ rest) o.0 o.1 m opens read in
            subst (Fills (Gives ms room) (b ∷ rest)) (sym (makes_reference n (b ∷ rest) r m.rest same is)) (by_given r m.rest (given ms room r) same is refl)

        by_opening : (o : Option (ℕ × List ℕ)) → opening (b ∷ rest) ≡ o → Fills (Gives ms room) (b ∷ rest) (makes (suc n) (b ∷ rest))
        by_opening None none =
            let is : makes (suc n) (b ∷ rest) ≡ before (b ∷ []) (makes n rest) = makes_step n b rest ∙ ap (either (before (b ∷ []) (makes n rest)) (λ o. after_macro (made_inside ms room) (makes n) (chosen ms room o.0 o.1))) none in
            subst (Fills (Gives ms room) (b ∷ rest)) (sym is) (with_char b rest (makes n rest) none (more rest (omega (arith, enough))))
        by_opening (Some o) opens = by_macro o (macro_at o.0 o.1) opens refl

      pub fills_found : (n : ℕ) (text : List ℕ) → length text ≤ n → Fills (Gives ms room) text (makes n text)
      fills_found n [] enough = subst (Fills (Gives ms room) []) (sym (makes_end n)) (nothing, refl, tt, refl)
      fills_found zero (b ∷ rest) enough = let e : suc (length rest) ≤ 0 = enough in absurd (omega (arith, e))
      fills_found (suc n) (b ∷ rest) enough = by_opening n (λ text few. fills_found n text few) b rest enough (opening (b ∷ rest)) refl

inside_suc : (ms : Macros) (room : ℕ) (text : List ℕ) → made_inside ms (suc room) text ≡ made_with ms room (made_inside ms room) (length text) text
unfolding made_inside
inside_suc ms room text = refl

given_suc : (ms : Macros) (room : ℕ) (r : Reference) → given ms (suc room) r ≡ given_of (made_inside ms (suc room)) (name_of r) (stands_for ms r)
unfolding given
given_suc ms room r = refl

given_zero : (ms : Macros) (r : Reference) → given ms zero r ≡ Err too_deep
unfolding given
given_zero ms r = refl

stands_only : (fills : List ℕ → Made (List ℕ) → Type 0) (inside : List ℕ → Made (List ℕ)) (name : List ℕ) (o : Option (List ℕ)) (made : Made (List ℕ)) → ((text : List ℕ) (m : Made (List ℕ)) → fills text m → inside text ≡ m)
    → StandsFor fills name o made → given_of inside name o ≡ made
stands_only fills inside name None made only h = sym h
stands_only fills inside name (Some text) made only h = only text made h

stands_found : (fills : List ℕ → Made (List ℕ) → Type 0) (inside : List ℕ → Made (List ℕ)) (name : List ℕ) (o : Option (List ℕ)) → ((text : List ℕ) → fills text (inside text)) → StandsFor fills name o (given_of inside name o)
stands_found fills inside name None found = refl
stands_found fills inside name (Some text) found = found text

pub gives_only : (ms : Macros) (room : ℕ) (r : Reference) (made : Made (List ℕ)) → Gives ms room r made → given ms room r ≡ made
unfolding Gives
gives_only ms zero r made h = given_zero ms r ∙ sym h
gives_only ms (suc room) r made h =
    given_suc ms room r
    ∙ stands_only (Fills (Gives ms room)) (made_inside ms (suc room)) (name_of r) (stands_for ms r) made
    (λ text m f. inside_suc ms room text ∙ fills_only ms room (λ s x g. gives_only ms room s x g) text m f) h

pub gives_found : (ms : Macros) (room : ℕ) (r : Reference) → Gives ms room r (given ms room r)
unfolding Gives
gives_found ms zero r = given_zero ms r
gives_found ms (suc room) r =
    subst (StandsFor (Fills (Gives ms room)) (name_of r) (stands_for ms r)) (sym (given_suc ms room r))
    (stands_found (Fills (Gives ms room)) (made_inside ms (suc room)) (name_of r) (stands_for ms r)
    (λ text. subst (Fills (Gives ms room) text) (sym (inside_suc ms room text)) (fills_found ms room (λ s. gives_found ms room s) (length text) text (omega arith))))
