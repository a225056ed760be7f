-- Lists whose elements are judged after those before them.
use Rattle.std.proofs.Common.{◌≡◌, ℕ, zero, suc, List, [], ◌∷◌, ◌++◌, take, Some, slice_get, refl, sym, subst, append_assoc}
use Rattle.std.proofs.lemmas.List.{append-nil}
use Rattle.std.proofs.lemmas.Option.{none-some}
use Rattle.histories.specs.History.{Every, AllTrue, IsLegalAfter}
use Rattle.histories.specs.Laws.{TruthAppends, LegalityAppends, IsLegalAtEachPlace}

pub every_weaken : {A : Type 0} (P Q : A → Type 0) (xs : List A) → ((x : A) → P x → Q x) → Every P xs → Every Q xs
every_weaken P Q [] f a = tt
every_weaken P Q (x ∷ xs) f a = (f x a.0, every_weaken P Q xs f a.1)

pub every_prop : {A : Type 0} (P : A → Type 0) → ((x : A) → IsProp (P x)) → (xs : List A) → IsProp (Every P xs)
every_prop P prop [] = λ a b. refl
every_prop P prop (x ∷ xs) = λ a b i. (prop x a.0 b.0 i, every_prop P prop xs a.1 b.1 i)

module _ {M : Type 0} (is_true : M → List M → Type 0) where
  pub true_append : (before xs ys : List M) → AllTrue is_true before xs → AllTrue is_true (before ++ xs) ys → AllTrue is_true before (xs ++ ys)
  true_append before [] ys a b = subst (λ (l : List M). AllTrue is_true l ys) (append-nil before) b
  true_append before (x ∷ xs) ys a b =
      (a.0, true_append (before ++ x ∷ []) xs ys a.1 (subst (λ (l : List M). AllTrue is_true l ys) (sym (append_assoc before (x ∷ []) xs)) b))

  pub true_snoc : (before xs : List M) (m : M) → AllTrue is_true before xs → is_true m (before ++ xs) → AllTrue is_true before (xs ++ m ∷ [])
  true_snoc before xs m a b = true_append before xs (m ∷ []) a (b, tt)

  pub true_front : (before xs ys : List M) → AllTrue is_true before (xs ++ ys) → AllTrue is_true before xs
  true_front before [] ys a = tt
  true_front before (x ∷ xs) ys a = (a.0, true_front (before ++ x ∷ []) xs ys a.1)

  pub true_back : (before xs ys : List M) → AllTrue is_true before (xs ++ ys) → AllTrue is_true (before ++ xs) ys
  true_back before [] ys a = subst (λ (l : List M). AllTrue is_true l ys) (sym (append-nil before)) a
  true_back before (x ∷ xs) ys a = subst (λ (l : List M). AllTrue is_true l ys) (append_assoc before (x ∷ []) xs) (true_back (before ++ x ∷ []) xs ys a.1)

pub true_weaken : {M : Type 0} (P Q : M → List M → Type 0) → ((m : M) (before : List M) → P m before → Q m before) → (before xs : List M) → AllTrue P before xs → AllTrue Q before xs
true_weaken P Q f before [] a = tt
true_weaken P Q f before (x ∷ xs) a = (f x before a.0, true_weaken P Q f (before ++ x ∷ []) xs a.1)

pub truth_appends : {M : Type 0} (is_true : M → List M → Type 0) → TruthAppends is_true
truth_appends is_true before xs ys = (
  (λ a. (true_front is_true before xs ys a, true_back is_true before xs ys a)),
  (λ a. true_append is_true before xs ys a.0 a.1),
)

module _ {E : Type 0} (may : List E → E → Type 0) where
  pub legal_append : (past xs ys : List E) → IsLegalAfter may past xs → IsLegalAfter may (past ++ xs) ys → IsLegalAfter may past (xs ++ ys)
  legal_append past [] ys a b = subst (λ (l : List E). IsLegalAfter may l ys) (append-nil past) b
  legal_append past (x ∷ xs) ys a b =
      (a.0, legal_append (past ++ x ∷ []) xs ys a.1 (subst (λ (l : List E). IsLegalAfter may l ys) (sym (append_assoc past (x ∷ []) xs)) b))

  pub legal_front : (past xs ys : List E) → IsLegalAfter may past (xs ++ ys) → IsLegalAfter may past xs
  legal_front past [] ys a = tt
  legal_front past (x ∷ xs) ys a = (a.0, legal_front (past ++ x ∷ []) xs ys a.1)

  pub legal_back : (past xs ys : List E) → IsLegalAfter may past (xs ++ ys) → IsLegalAfter may (past ++ xs) ys
  legal_back past [] ys a = subst (λ (l : List E). IsLegalAfter may l ys) (sym (append-nil past)) a
  legal_back past (x ∷ xs) ys a = subst (λ (l : List E). IsLegalAfter may l ys) (append_assoc past (x ∷ []) xs) (legal_back (past ++ x ∷ []) xs ys a.1)

  -- one more entry
  pub legal_snoc : (past es : List E) (e : E) → IsLegalAfter may past es → may (past ++ es) e → IsLegalAfter may past (es ++ e ∷ [])
  legal_snoc past es e a b = legal_append past es (e ∷ []) a (b, tt)

  pub legal_prop : ((past : List E) (e : E) → IsProp (may past e)) → (past es : List E) → IsProp (IsLegalAfter may past es)
  legal_prop prop past [] = λ a b. refl
  legal_prop prop past (e ∷ es) = λ a b i. (prop past e a.0 b.0 i, legal_prop prop (past ++ e ∷ []) es a.1 b.1 i)

  pub legal_at : (past es : List E) → IsLegalAfter may past es → (n : ℕ) (e : E) → slice_get es n ≡ Some e → may (past ++ take n es) e
  legal_at past [] a n e is = absurd (none-some e is)
  legal_at past (x ∷ es) a zero e is =
      let same : x ≡ e = cc in
      subst (λ (z : List E). may z e) (sym (append-nil past)) (subst (may past) same a.0)
  legal_at past (x ∷ es) a (suc n) e is = subst (λ (z : List E). may z e) (append_assoc past (x ∷ []) (take n es)) (legal_at (past ++ x ∷ []) es a.1 n e is)

  pub legal_from : (past es : List E) → ((n : ℕ) (e : E) → slice_get es n ≡ Some e → may (past ++ take n es) e) → IsLegalAfter may past es
  legal_from past [] f = tt
  legal_from past (x ∷ es) f = (
    subst (λ (z : List E). may z x) (append-nil past) (f 0 x refl),
    legal_from (past ++ x ∷ []) es (λ n e is. subst (λ (z : List E). may z e) (sym (append_assoc past (x ∷ []) (take n es))) (f (suc n) e is)),
  )

pub legality_appends : {E : Type 0} (may : List E → E → Type 0) → LegalityAppends may
legality_appends may past xs ys = (
  (λ a. (legal_front may past xs ys a, legal_back may past xs ys a)),
  (λ a. legal_append may past xs ys a.0 a.1),
)

pub legal_places : {E : Type 0} (may : List E → E → Type 0) → IsLegalAtEachPlace may
legal_places may es = ((λ a. legal_at may [] es a), (λ f. legal_from may [] es f))
