-- Texts with one space between any two, from the front.
use Rattle.std.proofs.Common.{◌≡◌, ℕ, ◌+◌, ◌<◌, List, [], ◌∷◌, ◌++◌, length, map, take, get_or, refl, ap, sym, ◌∙◌, append_assoc, if◌then◌else◌, arith}
use Rattle.std.proofs.Math.Dec.{eqb-suc-zero}
use Rattle.std.proofs.lemmas.List.{length-map, length-take, take_more, map-append}
use Rattle.rec_kinds.specs.Texts.{after_spaces, with_spaces, item_after}

append_nil : (xs : List ℕ) → xs ++ [] ≡ xs
append_nil [] = refl
append_nil (x ∷ xs) = ap (λ ys. x ∷ ys) (append_nil xs)

after_more : (ts : List (List ℕ)) (t : List ℕ) → after_spaces (ts ++ t ∷ []) ≡ after_spaces ts ++ 32 ∷ t
after_more [] t = ap (λ ys. 32 ∷ ys) (append_nil t)
after_more (x ∷ ts) t =
    ap (λ ys. 32 ∷ (x ++ ys)) (after_more ts t) ∙ ap (λ ys. 32 ∷ ys) (sym (append_assoc x (after_spaces ts) (32 ∷ t)))

row_more : (ts : List (List ℕ)) (t : List ℕ) → with_spaces (ts ++ t ∷ []) ≡ with_spaces ts ++ item_after (length ts) t
row_more [] t = append_nil t
row_more (x ∷ ts) t =
    ap (λ ys. x ++ ys) (after_more ts t)
    ∙ (sym (append_assoc x (after_spaces ts) (32 ∷ t))
    ∙ sym (ap (λ b. (x ++ after_spaces ts) ++ (if b then t else 32 ∷ t)) (eqb-suc-zero (length ts))))

-- a row with one text more
pub row_step : (ts all : List (List ℕ)) (t before after item : List ℕ) (place : ℕ) → length ts ≡ place → all ≡ ts ++ t ∷ [] →
    before ≡ with_spaces ts → after ≡ before ++ item_after place item → item ≡ t → after ≡ with_spaces all
row_step ts all t before after item place count is old new same =
    new
    ∙ (ap (λ b. b ++ item_after place item) old
    ∙ (ap (λ n. with_spaces ts ++ item_after n item) (sym count)
    ∙ (ap (λ i. with_spaces ts ++ item_after (length ts) i) same ∙ (sym (row_more ts t) ∙ ap with_spaces (sym is)))))

pub taken_length : {A : Type 0} (f : A → List ℕ) (xs : List A) (i : ℕ) → i < length xs → length (map f (take i xs)) ≡ i
taken_length f xs i short = simp (length-map, length-take) (omega arith)

pub taken_more : {A : Type 0} (f : A → List ℕ) (xs : List A) (i : ℕ) (d : A) → i < length xs →
    map f (take (i + 1) xs) ≡ map f (take i xs) ++ f (get_or xs i d) ∷ []
taken_more f xs i d short = ap (map f) (take_more xs i d short) ∙ map-append f (take i xs) (get_or xs i d ∷ [])

pub front_length : {A : Type 0} (xs : List A) (i : ℕ) → i < length xs → length (take i xs) ≡ i
front_length xs i short = simp length-take (omega arith)
