-- The last of fields that are given twice, kept from the end on.
use Rattle.std.proofs.Common.{◌≡◌, ℕ, Bool, true, false, cond, List, [], ◌∷◌, ◌++◌, reverse, refl, sym, ap, ◌∙◌, append_assoc}
use Rattle.std.proofs.lemmas.List.{append-nil, reverse-append}
use Rattle.std.proofs.lemmas.Slice.Eq.{bytes_eq-Decides}
use Rattle.std.specs.Str.{bytes_eq}
use Rattle.rec_kinds.specs.declared.record_text.FieldText.{FieldText}
use Rattle.db_load.specs.Forms.{is_given, last_given}

abbrev pub Keeps : List FieldText → List FieldText → List FieldText → Type 0
Keeps left kept all = (behind : List FieldText) × (left ++ behind ≡ all) × (reverse kept ≡ last_given behind) × ((name : List ℕ) → is_given name kept ≡ is_given name behind)

last_given_none : last_given [] ≡ []
unfolding last_given
last_given_none = refl

last_given_cons : (f : FieldText) (fs : List FieldText) → last_given (f ∷ fs) ≡ cond (is_given f.name fs) (last_given fs) (f ∷ last_given fs)
unfolding last_given
last_given_cons f fs = refl

given_push : (name : List ℕ) (xs : List FieldText) (f : FieldText) → is_given name (xs ++ f ∷ []) ≡ cond (bytes_eq f.name name) true (is_given name xs)
given_push name [] f = refl
given_push name (x ∷ xs) f = either (bytes_eq x.name name) (bytes_eq f.name name) (is_given name (xs ++ f ∷ [])) (is_given name xs) (given_push name xs f)
  where
    either : (a b r s : Bool) → r ≡ cond b true s → cond a true r ≡ cond b true (cond a true s)
    either true true r s e = refl
    either true false r s e = refl
    either false true r s e = e
    either false false r s e = e

pub keeps_begin : (all : List FieldText) → Keeps all [] all
keeps_begin all = ([], append-nil all, sym last_given_none, λ name. refl)

-- a field that is given again doesn't change what is kept
pub keeps_passed : (left before kept all : List FieldText) (f : FieldText) → before ≡ left ++ f ∷ [] → is_given f.name kept ≡ true → Keeps before kept all → Keeps left kept all
keeps_passed left before kept all f cut again (behind, parts, kept_is, same) =
    let there : is_given f.name behind ≡ true = sym (same f.name) ∙ again in (
      f ∷ behind,
      sym (append_assoc left (f ∷ []) behind) ∙ ap (λ (xs : List FieldText). xs ++ behind) (sym cut) ∙ parts,
      kept_is ∙ sym (last_given_cons f behind ∙ rw there refl),
      λ name. same name ∙ sym (again_is name (bytes_eq f.name name) refl there),
    )
  where
    again_is : (name : List ℕ) (t : Bool) → bytes_eq f.name name ≡ t → is_given f.name behind ≡ true → cond t true (is_given name behind) ≡ is_given name behind
    again_is name false e there = refl
    again_is name true e there = sym (sym (ap (λ (n : List ℕ). is_given n behind) ((bytes_eq-Decides f.name name).0 e)) ∙ there)

pub keeps_more : (left before kept all : List FieldText) (f : FieldText) → before ≡ left ++ f ∷ [] → is_given f.name kept ≡ false → Keeps before kept all → Keeps left (kept ++ f ∷ []) all
keeps_more left before kept all f cut first (behind, parts, kept_is, same) =
    let absent : is_given f.name behind ≡ false = sym (same f.name) ∙ first in (
      f ∷ behind,
      sym (append_assoc left (f ∷ []) behind) ∙ ap (λ (xs : List FieldText). xs ++ behind) (sym cut) ∙ parts,
      reverse-append kept (f ∷ []) ∙ ap (λ (xs : List FieldText). f ∷ xs) kept_is ∙ sym (last_given_cons f behind ∙ rw absent refl),
      λ name. given_push name kept f ∙ ap (cond (bytes_eq f.name name) true) (same name),
    )

pub keeps_end : (left kept all result : List FieldText) → left ≡ [] → result ≡ reverse kept → Keeps left kept all → result ≡ last_given all
keeps_end left kept all result none turned (behind, parts, kept_is, same) =
    turned ∙ kept_is ∙ ap last_given (ap (λ (xs : List FieldText). xs ++ behind) (sym none) ∙ parts)
