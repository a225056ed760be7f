-- How many texts there are up to the last that isn't empty, counted from the front.
use Rattle.std.proofs.Common.{◌≡◌, ℕ, zero, suc, ◌+◌, ◌<◌, ◌≤◌, ◌==◌, ◌&&◌, Bool, true, false, List, ◌∷◌, length, map, take, drop, get_or, if◌then◌else◌, refl, ap, sym, ◌∙◌, subst, add-one, arith}
use Rattle.std.proofs.Math.Dec.{eqb-suc-zero}
use Rattle.std.proofs.Math.Seq.{drop-cons}
use Rattle.std.proofs.lemmas.List.{take_all, take-map}
use Rattle.std.specs.Borrow.{Bor}
use Rattle.rec_kinds.specs.Given.{up_to_last}

abbrev pub count_in : (List ℕ → List ℕ) → List (Bor (List ℕ)) → ℕ
count_in f names = up_to_last (map f (map (λ name. name.now) names))

-- the whole count, where so many texts count of those before an index and so many of the rest
abbrev pub total : ℕ → ℕ → ℕ → ℕ
total count index rest = if rest == 0 then count else index + rest

total_step : (count index k : ℕ) (empty : Bool) →
    total (if empty then count else index + 1) (index + 1) k ≡ total count index (if (k == 0) && empty then 0 else k + 1)
total_step count index zero true = refl
total_step count index zero false = refl
total_step count index (suc k) empty =
    simp (add-one (suc k), eqb-suc-zero k, eqb-suc-zero (suc k)) (omega arith)

pub count_step : (f : List ℕ → List ℕ) (names : List (Bor (List ℕ))) (d : Bor (List ℕ)) (index count more all : ℕ) →
    index < length names → more ≡ (if length (f (get_or names index d).now) == 0 then count else index + 1) →
    total count index (count_in f (drop index names)) ≡ all → total more (index + 1) (count_in f (drop (index + 1) names)) ≡ all
count_step f names d index count more all short is whole =
    let cut : drop index names ≡ get_or names index d ∷ drop (index + 1) names = rw add-one (drop-cons names index d short) in
    ap (λ m. total m (index + 1) (count_in f (drop (index + 1) names))) is
    ∙ (total_step count index (count_in f (drop (index + 1) names)) (length (f (get_or names index d).now) == 0)
    ∙ subst (λ (r : List (Bor (List ℕ))). total count index (count_in f r) ≡ all) cut whole)

-- the first of some texts, in the order of their fields
pub choices_row : (f : List ℕ → List ℕ) (fields : List (Bor (List ℕ))) (names : List (List ℕ)) (count kept i : ℕ) →
    map (λ name. name.now) fields ≡ names → count ≡ kept → length (take count fields) ≤ i →
    map f (map (λ name. name.now) (take i (take count fields))) ≡ take kept (map f names)
choices_row f fields names count kept i is same past =
    ap (λ (ns : List (Bor (List ℕ))). map f (map (λ name. name.now) ns)) (take_all i (take count fields) past)
    ∙ (ap (map f) (sym (take-map (λ (name : Bor (List ℕ)). name.now) count fields))
    ∙ (sym (take-map f count (map (λ name. name.now) fields))
    ∙ (ap (λ k. take k (map f (map (λ name. name.now) fields))) same ∙ ap (λ ns. take kept (map f ns)) is)))
