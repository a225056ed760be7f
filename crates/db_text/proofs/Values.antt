-- The value of a macro, found step by step.
use Rattle.std.proofs.Common.{◌≡◌, ◌∙◌, ◌+◌, ◌<◌, ℕ, suc, true, false, cond, List, [], ◌∷◌, length, get_or, drop, Option, Some, None, refl, sym, ap, add-one}
use Rattle.std.proofs.Math.Seq.{drop-cons}
use Rattle.std.specs.Str.{bytes_eq}
use Rattle.db_text.specs.Macros.{Macros, first_of, value_of}

first_of_three : {A : Type 0} (a b c : Option A) → first_of (first_of a b) c ≡ first_of a (first_of b c)
first_of_three None b c = refl
first_of_three (Some a) b c = refl

value_of_cons : (m : List ℕ × List ℕ) (ms : Macros) (name : List ℕ) → value_of (m ∷ ms) name ≡ first_of (value_of ms name) (cond (bytes_eq m.0 name) (Some m.1) None)
unfolding value_of
value_of_cons m ms name = refl

value_of_none : (name : List ℕ) → value_of [] name ≡ None
unfolding value_of
value_of_none name = refl

value_next : (ms : Macros) (i : ℕ) (m : List ℕ × List ℕ) (name : List ℕ) (found all : Option (List ℕ)) → i < length ms → m ≡ get_or ms i m
    → first_of (value_of (drop i ms) name) found ≡ all → first_of (value_of (drop (i + 1) ms) name) (first_of (cond (bytes_eq m.0 name) (Some m.1) None) found) ≡ all
value_next ms i m name found all within is same =
    let cut : drop i ms ≡ m ∷ drop (i + 1) ms = rw add-one (drop-cons ms i m within ∙ ap (λ (x : List ℕ × List ℕ). x ∷ drop (suc i) ms) (sym is)) in
    sym (first_of_three (value_of (drop (i + 1) ms) name) (cond (bytes_eq m.0 name) (Some m.1) None) found)
    ∙ ap (λ (v : Option (List ℕ)). first_of v found) (sym (value_of_cons m (drop (i + 1) ms) name) ∙ ap (λ (xs : Macros). value_of xs name) (sym cut)) ∙ same

pub value_taken : (ms : Macros) (i : ℕ) (m : List ℕ × List ℕ) (name : List ℕ) (found all : Option (List ℕ)) → i < length ms → m ≡ get_or ms i m → bytes_eq m.0 name ≡ true
    → first_of (value_of (drop i ms) name) found ≡ all → first_of (value_of (drop (i + 1) ms) name) (Some m.1) ≡ all
value_taken ms i m name found all within is same h = rw same at (value_next ms i m name found all within is h)

pub value_passed : (ms : Macros) (i : ℕ) (m : List ℕ × List ℕ) (name : List ℕ) (found all : Option (List ℕ)) → i < length ms → m ≡ get_or ms i m → bytes_eq m.0 name ≡ false
    → first_of (value_of (drop i ms) name) found ≡ all → first_of (value_of (drop (i + 1) ms) name) found ≡ all
value_passed ms i m name found all within is other h = rw other at (value_next ms i m name found all within is h)

pub value_found : (ms : Macros) (name : List ℕ) (rest : Macros) (found all : Option (List ℕ)) → rest ≡ [] → first_of (value_of rest name) found ≡ all → found ≡ all
value_found ms name rest found all none h = ap (λ (v : Option (List ℕ)). first_of v found) (sym (value_of_none name) ∙ ap (λ (xs : Macros). value_of xs name) (sym none)) ∙ h
