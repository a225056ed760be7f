-- Lists of numbers of a width, element by element.
use Rattle.std.proofs.Common.{◌≡◌, ℕ, ◌+◌, ◌<◌, ℤ, pos, unsigned_abs, Bool, true, false, ◌&&◌, List, [], ◌∷◌, ◌++◌, length, map, take, drop, get_or, refl, ap, sym, ◌∙◌, add-one}
use Rattle.std.specs.List.{list_all}
use Rattle.std.proofs.Math.Seq.{drop-cons}
use Rattle.std.proofs.lemmas.Bool.{false≢true}
use Rattle.std.proofs.lemmas.List.{take_more, map-append}
use Rattle.std.proofs.lemmas.List.Folds.{list_all-append}

second : (a b : Bool) → (a && b) ≡ true → b ≡ true
second true b h = h
second false b h = absurd (false≢true h)

pub narrow_step : {A : Type 0} (f : A → ℤ) (test : ℤ → Bool) (xs : List ℤ) (i : ℕ) (so_far after : List A) (y : A) →
    i < length xs → map f so_far ≡ take i xs → after ≡ so_far ++ y ∷ [] → f y ≡ get_or xs i (pos 0) → list_all test (drop i xs) ≡ true →
    (map f after ≡ take (i + 1) xs) × (list_all test (drop (i + 1) xs) ≡ true)
narrow_step f test xs i so_far after y short old new is passes =
    let cut : drop i xs ≡ get_or xs i (pos 0) ∷ drop (i + 1) xs = rw add-one (drop-cons xs i (pos 0) short) in (
      ap (map f) new
          ∙ (map-append f so_far (y ∷ [])
          ∙ (ap (λ (zs : List ℤ). zs ++ f y ∷ []) old ∙ (ap (λ (z : ℤ). take i xs ++ z ∷ []) is ∙ sym (take_more xs i (pos 0) short)))),
      second (test (get_or xs i (pos 0))) (list_all test (drop (i + 1) xs)) (sym (ap (list_all test) cut) ∙ passes),
    )

pub widen_step : {A : Type 0} (f : A → ℤ) (test : ℤ → Bool) (xs : List A) (i : ℕ) (so_far after : List ℤ) (x : A) (z : ℤ) →
    i < length xs → get_or xs i x ≡ x → so_far ≡ map f (take i xs) → after ≡ so_far ++ z ∷ [] → z ≡ f x → test (f x) ≡ true → list_all test so_far ≡ true →
    (after ≡ map f (take (i + 1) xs)) × (list_all test after ≡ true)
widen_step f test xs i so_far after x z short here old new is passes all =
    let last : list_all test (z ∷ []) ≡ true = ap (λ (n : ℤ). test n && true) is ∙ ap (λ (b : Bool). b && true) passes in (
      new
          ∙ (ap (λ (zs : List ℤ). zs ++ z ∷ []) old
          ∙ (ap (λ (n : ℤ). map f (take i xs) ++ n ∷ []) (is ∙ ap f (sym here))
          ∙ (sym (map-append f (take i xs) (get_or xs i x ∷ [])) ∙ ap (map f) (sym (take_more xs i x short))))),
      ap (list_all test) new ∙ (list_all-append test so_far (z ∷ []) ∙ (ap (λ (b : Bool). b && list_all test (z ∷ [])) all ∙ last)),
    )

pub sizes_of : (ns : List ℕ) (zs : List ℤ) → map (λ n. pos n) ns ≡ zs → ns ≡ map unsigned_abs zs
sizes_of ns zs h = same ns ∙ ap (map unsigned_abs) h
  where
    same : (ns : List ℕ) → ns ≡ map unsigned_abs (map (λ n. pos n) ns)
    same [] = refl
    same (n ∷ ns) = ap (λ (ms : List ℕ). n ∷ ms) (same ns)
