-- Macros end no line, and what is made ends as many lines as what it is made of.
use Rattle.std.proofs.Common.{◌≡◌, ◌⊎◌, ℕ, zero, suc, ◌+◌, Bool, eqb, cond, true, false, not, ◌||◌, List, [], ◌∷◌, ◌++◌, count_by, Option, Some, None, Ok, refl, sym, ap, subst, ◌∙◌, arith, inl, inr}
use Rattle.std.proofs.lemmas.List.Sums.{sum_by-append}
use Rattle.std.proofs.lemmas.Bool.{true≢false}
use Rattle.std.specs.Str.{bytes_eq}
use Rattle.pvd_type.proofs.Sets.{differs}
use Rattle.db_text.specs.Macros.{Macros, ends_name, value_of, first_of}
use Rattle.db_text.specs.Grammar.{Each}
use Rattle.db_text.specs.Expansion.{Reference, named, defaulted, Content, nothing, char, refers, opener, reference_bytes, content_bytes, IsNamed, Within, IsReference, IsContent, name_of, stands_for, Makes, Fills, StandsFor, Gives, Passage, comment, macro, pair, byte, passage_bytes, text_of, quoted_behind, MayStand, Follow, MakesHere, MakeAll, OnOneLine, LinesStay}
use Rattle.db_text.proofs.References.{closer_line}

abbrev pub ends : List ℕ → ℕ
ends bs = count_by (λ b. eqb b 10) bs

pub ends_append : (xs ys : List ℕ) → ends (xs ++ ys) ≡ ends xs + ends ys
ends_append xs ys = sum_by-append (λ b. cond (eqb b 10) 1 0) xs ys

pub ends_cons : (b : ℕ) (xs : List ℕ) → ends (b ∷ xs) ≡ ends (b ∷ []) + ends xs
ends_cons b xs = ends_append (b ∷ []) xs

pub ends_other : (b : ℕ) → eqb b 10 ≡ false → ends (b ∷ []) ≡ 0
ends_other b e = rw e refl

not_true : (b : Bool) → not b ≡ true → b ≡ false
not_true true h = absurd (true≢false (sym h))
not_true false h = refl

third : (u v w : Bool) → ((u || v) || w) ≡ false → w ≡ false
third true v w h = absurd (true≢false h)
third false true w h = absurd (true≢false h)
third false false w h = h

pub each_flat : (bs : List ℕ) → Each (λ b. not (eqb b 10)) bs → ends bs ≡ 0
each_flat [] each = refl
each_flat (b ∷ bs) each = let e = ends_cons b bs in let f = ends_other b (not_true (eqb b 10) each.0) in let g = each_flat bs each.1 in omega (arith, e, f, g)

name_flat : (closer : ℕ) (name : List ℕ) → Each (λ b. not (ends_name closer b)) name → ends name ≡ 0
name_flat closer [] each = refl
name_flat closer (b ∷ bs) each =
    let e = ends_cons b bs in
    let f = ends_other b (third (eqb b closer) (eqb b 61) (eqb b 10) (not_true (ends_name closer b) each.0)) in
    let g = name_flat closer bs each.1 in omega (arith, e, f, g)

opener_flat : (closer : ℕ) → ends (opener closer ∷ []) ≡ 0
opener_flat closer = pick (eqb closer 41)
  where
    pick : (v : Bool) → ends (cond v 40 123 ∷ []) ≡ 0
    pick true = refl
    pick false = refl

dollar_flat : ends (36 ∷ []) ≡ 0
dollar_flat = refl

named_flat : (closer : ℕ) (name : List ℕ) → IsNamed closer name → ends (reference_bytes (named closer name)) ≡ 0
named_flat closer name is =
    let a = ends_cons 36 (opener closer ∷ (name ++ closer ∷ [])) in
    let b = ends_cons (opener closer) (name ++ closer ∷ []) in
    let c = ends_append name (closer ∷ []) in
    let d = name_flat closer name is.1 in
    let e = ends_other closer (closer_line closer is.0) in
    let f = opener_flat closer in
    let g = dollar_flat in
    omega (arith, a, b, c, d, e, f, g)

sign_flat : ends (61 ∷ []) ≡ 0
sign_flat = refl

defaulted_flat : (closer : ℕ) (name : List ℕ) (d : Content) → IsNamed closer name → ends (content_bytes d) ≡ 0 → ends (reference_bytes (defaulted closer name d)) ≡ 0
defaulted_flat closer name d is flat =
    let a = ends_cons 36 (opener closer ∷ (name ++ 61 ∷ (content_bytes d ++ closer ∷ []))) in
    let b = ends_cons (opener closer) (name ++ 61 ∷ (content_bytes d ++ closer ∷ [])) in
    let c = ends_append name (61 ∷ (content_bytes d ++ closer ∷ [])) in
    let h = ends_cons 61 (content_bytes d ++ closer ∷ []) in
    let i = ends_append (content_bytes d) (closer ∷ []) in
    let e = ends_other closer (closer_line closer is.0) in
    let j = name_flat closer name is.1 in
    let f = opener_flat closer in
    let g = dollar_flat in
    let k = sign_flat in
    omega (arith, a, b, c, h, i, e, j, f, g, k, flat)

content_flat : (c : Content) (closer : ℕ) → IsContent c → Within closer c → ends (content_bytes c) ≡ 0
content_flat nothing closer is inside = refl
content_flat (char b c) closer is inside =
    let e = ends_cons b (content_bytes c) in let f = ends_other b (differs b 10 inside.1) in let g = content_flat c closer is.1 inside.2 in omega (arith, e, f, g)
content_flat (refers (named inner name) c) closer is inside =
    let e = ends_append (reference_bytes (named inner name)) (content_bytes c) in
    let f = named_flat inner name is.0 in
    let g = content_flat c closer is.1 inside in omega (arith, e, f, g)
content_flat (refers (defaulted inner name d) c) closer is inside =
    let e = ends_append (reference_bytes (defaulted inner name d)) (content_bytes c) in
    let f = defaulted_flat inner name d is.0.0 (content_flat d inner is.0.1 is.0.2) in
    let g = content_flat c closer is.1 inside in omega (arith, e, f, g)

pub reference_flat : (r : Reference) → IsReference r → ends (reference_bytes r) ≡ 0
reference_flat (named closer name) is = named_flat closer name is
reference_flat (defaulted closer name d) is = defaulted_flat closer name d is.0 (content_flat d closer is.1 is.2)

-- no value ends a line
pub value_step : (m : List ℕ × List ℕ) (ms : Macros) (name : List ℕ) → value_of (m ∷ ms) name ≡ first_of (value_of ms name) (cond (bytes_eq m.0 name) (Some m.1) None)
unfolding value_of
value_step m ms name = refl

pub value_none : (name : List ℕ) → value_of [] name ≡ None
unfolding value_of
value_none name = refl

pub one_of : (a b : Option (List ℕ)) (x : List ℕ) → first_of a b ≡ Some x → (a ≡ Some x) ⊎ (b ≡ Some x)
one_of None b x h = inr h
one_of (Some a) b x h = inl h

value_flat : (ms : Macros) (name v : List ℕ) → OnOneLine ms → value_of ms name ≡ Some v → ends v ≡ 0
value_flat [] name v flat h = let e = value_none name in absurd cc
value_flat (m ∷ ms) name v flat h =
    elim (one_of (value_of ms name) (cond (bytes_eq m.0 name) (Some m.1) None) v (sym (value_step m ms name) ∙ h)) [
      | inl e ↦ value_flat ms name v flat.1 e
      | inr e ↦ here (bytes_eq m.0 name) e
    ]
  where
    here : (t : Bool) → cond t (Some m.1) None ≡ Some v → ends v ≡ 0
    here true e = let same : m.1 ≡ v = cc in subst (λ (xs : List ℕ). ends xs ≡ 0) same (each_flat m.1 flat.0)
    here false e = absurd cc

stands_flat : (ms : Macros) (r : Reference) (text : List ℕ) → OnOneLine ms → IsReference r → stands_for ms r ≡ Some text → ends text ≡ 0
stands_flat ms (named closer name) text flat is h =
    elim (one_of (value_of ms name) None text h) [ inl e ↦ value_flat ms name text flat e | inr e ↦ absurd cc ]
stands_flat ms (defaulted closer name d) text flat is h =
    elim (one_of (value_of ms name) (Some (content_bytes d)) text h) [
      | inl e ↦ value_flat ms name text flat e
      | inr e ↦ let same : content_bytes d ≡ text = cc in subst (λ (xs : List ℕ). ends xs ≡ 0) same (content_flat d closer is.1 is.2)
    ]

module _ (ms : Macros) (flat : OnOneLine ms) where
  makes_flat : (room : ℕ) → ((r : Reference) (made : List ℕ) → IsReference r → Gives ms room r (Ok made) → ends made ≡ 0) → (c : Content) (made : List ℕ) → IsContent c → ends (content_bytes c) ≡ 0 → Makes (Gives ms room) c made → ends made ≡ 0
  makes_flat room gives nothing made is none makes = ap ends makes
  makes_flat room gives (char b c) made is none (more, same, makes) =
      let e = ends_cons b (content_bytes c) in
      let f = ends_cons b more in
      let g = ap ends same in
      let h = makes_flat room gives c more is.1 (omega (arith, e, none)) makes in
      omega (arith, e, f, g, h, none)
  makes_flat room gives (refers r c) made is none (here, more, given, same, makes) =
      let e = ends_append (reference_bytes r) (content_bytes c) in
      let f = ends_append here more in
      let g = ap ends same in
      let h = makes_flat room gives c more is.1 (omega (arith, e, none)) makes in
      let i = gives r here is.0 given in
      omega (arith, f, g, h, i)

  by_text : (room : ℕ) (r : Reference) (made : List ℕ) (o : Option (List ℕ)) → ((s : Reference) (m : List ℕ) → IsReference s → Gives ms room s (Ok m) → ends m ≡ 0) → ((text : List ℕ) → o ≡ Some text → ends text ≡ 0)
      → StandsFor (Fills (Gives ms room)) (name_of r) o (Ok made) → ends made ≡ 0
  by_text room r made None gives none h = absurd cc
  by_text room r made (Some text) gives none (c, same, is, makes) = makes_flat room gives c made is (sym (ap ends same) ∙ none text refl) makes

  pub gives_flat : (room : ℕ) (r : Reference) (made : List ℕ) → IsReference r → Gives ms room r (Ok made) → ends made ≡ 0
  unfolding Gives
  gives_flat zero r made is h = absurd cc
  gives_flat (suc room) r made is h = by_text room r made (stands_for ms r) (λ s m t g. gives_flat room s m t g) (λ text e. stands_flat ms r text flat is e) h

  same_ends : (quoted : Bool) (p : Passage) (after here : List ℕ) → MayStand quoted p after → MakesHere ms p here → ends here ≡ ends (passage_bytes p)
  same_ends quoted (comment bs) after here may makes = let e = ends_cons 35 bs in let f = each_flat bs may.1 in let g = ends_other 35 refl in let h : ends here ≡ 0 = ap ends makes in omega (arith, e, f, g, h)
  same_ends quoted (macro r) after here may makes = gives_flat 16 r here may makes ∙ sym (reference_flat r may)
  same_ends quoted (pair b) after here may makes = ap ends makes
  same_ends quoted (byte b) after here may makes = ap ends makes

  all_ends : (quoted : Bool) (ps : List Passage) (after plain : List ℕ) → Follow quoted ps after → MakeAll ms ps plain → ends plain ≡ ends (text_of ps)
  all_ends quoted [] after plain follow makes = ap ends makes
  all_ends quoted (p ∷ ps) after plain follow (here, more, makes, same, others) =
      let e = ends_append (passage_bytes p) (text_of ps) in
      let f = ends_append here more in
      let g = ap ends same in
      let h = same_ends quoted p (text_of ps ++ after) here follow.0 makes in
      let i = all_ends (quoted_behind quoted p) ps after more follow.1 others in
      omega (arith, e, f, g, h, i)

pub lines_stay : LinesStay
lines_stay ms quoted ps after plain flat follow makes = ap (λ n. 1 + n) (all_ends ms flat quoted ps after plain follow makes)
