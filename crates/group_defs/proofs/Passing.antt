-- Readings that pass a fault on, and steps one after another.
use Rattle.std.proofs.Common.{◌≡◌, ℕ, zero, suc, ◌+◌, ◌<◌, List, [], ◌∷◌, ◌++◌, map, length, drop, get_or, Result, Ok, Err, refl, sym, ap, ◌∙◌, arith, append_assoc}
use Rattle.std.proofs.lemmas.List.{drop_more}
use Rattle.std.specs.List.{enumerate_from, AllByRecursion}
use Rattle.group_defs.specs.Told.{Told, Fails, ◌>>=◌, each}
use Rattle.group_defs.specs.Groups.{FailsAs}
use Rattle.group_defs.specs.declared.fault.Stop.{Stop}
use Rattle.group_defs.specs.declared.fault.Stop.TheVariants as stops
use Rattle.group_defs.specs.declared.fault.GroupFault.{GroupFault}
use Rattle.group_defs.specs.declared.fault.GroupFault.TheVariants as faults

pub fails_on : (A B : Type 0) (f : Told A → Told B) (stop : Stop) (r : Told A) (s : Told B) → ((e : Stop) → f (Err e) ≡ Err e) → f r ≡ s → Fails stop r → Fails stop s
fails_on A B f stops.NoMemory r s on same h = tt
fails_on A B f stops.BadJson r s on same h = sym same ∙ ap f h ∙ on _
fails_on A B f stops.UnknownKey r s on same h = sym same ∙ ap f h ∙ on _
fails_on A B f stops.SameMember r s on same h = sym same ∙ ap f h ∙ on _
fails_on A B f stops.BadMember r s on same h = sym same ∙ ap f h ∙ on _

pub answers_on : (A B : Type 0) (f : Result A GroupFault → Result B GroupFault) (fault : GroupFault) (r : Result A GroupFault) (s : Result B GroupFault)
    → ((e : GroupFault) → f (Err e) ≡ Err e) → f r ≡ s → FailsAs fault r → FailsAs fault s
answers_on A B f faults.NoMemory r s on same h = tt
answers_on A B f (faults.BadJson name) r s on same h = sym same ∙ ap f h ∙ on _
answers_on A B f (faults.UnknownKey name) r s on same h = sym same ∙ ap f h ∙ on _
answers_on A B f (faults.SameMember name) r s on same h = sym same ∙ ap f h ∙ on _
answers_on A B f (faults.UnknownTrigger name) r s on same h = sym same ∙ ap f h ∙ on _
answers_on A B f (faults.NameTaken name) r s on same h = sym same ∙ ap f h ∙ on _
answers_on A B f (faults.BadMember name) r s on same h = sym same ∙ ap f h ∙ on _
answers_on A B f (faults.Shape fault) r s on same h = sym same ∙ ap f h ∙ on _
answers_on A B f (faults.TooMany count) r s on same h = sym same ∙ ap f h ∙ on _

-- the list from a place on, when the item there is known
pub from_place : {X : Type 0} (xs : List X) (i : ℕ) (x : X) → i < length xs → x ≡ get_or xs i x → drop i xs ≡ x ∷ drop (i + 1) xs
from_place xs i x h e = drop_more xs i x h ∙ ap (λ y. y ∷ drop (i + 1) xs) (sym e)

module _ {S X : Type 0} (step : S → X → Told S) (s : S) (x : X) (rest : List X) (whole : Told S) (same : each step s (x ∷ rest) ≡ whole) where
  pub each_fails : (stop : Stop) → Fails stop (step s x) → Fails stop whole
  each_fails stop h = fails_on S S (λ r. r >>= λ s. each step s rest) stop (step s x) whole (λ e. refl) same h

  pub each_goes : (t : S) → step s x ≡ Ok t → each step t rest ≡ whole
  each_goes t h = sym (ap (λ (r : Told S). r >>= λ s. each step s rest) h) ∙ same

module _ {S X : Type 0} (step : S → X → Result S GroupFault) (s : S) (x : X) (rest : List X) (whole : Result S GroupFault) (same : each step s (x ∷ rest) ≡ whole) where
  pub all_fail : (fault : GroupFault) → FailsAs fault (step s x) → FailsAs fault whole
  all_fail fault h = answers_on S S (λ r. r >>= λ s. each step s rest) fault (step s x) whole (λ e. refl) same h

  pub all_go : (t : S) → step s x ≡ Ok t → each step t rest ≡ whole
  all_go t h = sym (ap (λ (r : Result S GroupFault). r >>= λ s. each step s rest) h) ∙ same

-- the list with its places, from a place on
pub numbered_from : {X : Type 0} (xs : List X) (i : ℕ) (x : X) → i < length xs → x ≡ get_or xs i x → enumerate_from i (drop i xs) ≡ (i, x) ∷ enumerate_from (i + 1) (drop (i + 1) xs)
numbered_from xs i x h e = ap (enumerate_from i) (from_place xs i x h e)

-- a map that has nothing left
pub nothing_left : {K V : Type 0} (es : List (K × V)) → ¬ (0 < length es) → es ≡ []
nothing_left [] none = refl
nothing_left (e ∷ es) none = absurd (none (omega arith))

-- one more of a list, mapped
pub mapped_more : {X Y : Type 0} (f : X → Y) (xs : List X) (i : ℕ) (x : X) (done : List Y) (y : Y) (whole : List Y) → i < length xs → x ≡ get_or xs i x → y ≡ f x
    → done ++ map f (drop i xs) ≡ whole → (done ++ y ∷ []) ++ map f (drop (i + 1) xs) ≡ whole
mapped_more {X} {Y} f xs i x done y whole h e made same =
    append_assoc done (y ∷ []) (map f (drop (i + 1) xs)) ∙ ap (λ (z : Y). done ++ z ∷ map f (drop (i + 1) xs)) made
    ∙ sym (ap (λ (ys : List X). done ++ map f ys) (from_place xs i x h e)) ∙ same

-- and with its place
pub placed_more : {X Y : Type 0} (f : ℕ × X → Y) (xs : List X) (i : ℕ) (x : X) (done : List Y) (y : Y) (whole : List Y) → i < length xs → x ≡ get_or xs i x → y ≡ f (i, x)
    → done ++ map f (enumerate_from i (drop i xs)) ≡ whole → (done ++ y ∷ []) ++ map f (enumerate_from (i + 1) (drop (i + 1) xs)) ≡ whole
placed_more {X} {Y} f xs i x done y whole h e made same =
    append_assoc done (y ∷ []) (map f (enumerate_from (i + 1) (drop (i + 1) xs))) ∙ ap (λ (z : Y). done ++ z ∷ map f (enumerate_from (i + 1) (drop (i + 1) xs))) made
    ∙ sym (ap (λ (ys : List (ℕ × X)). done ++ map f ys) (numbered_from xs i x h e)) ∙ same

-- what holds of each of a list holds of one at a place
pub all_at : {X : Type 0} (P : X → Type 0) (xs : List X) (i : ℕ) (d : X) → AllByRecursion P xs → i < length xs → P (get_or xs i d)
all_at P [] i d a h = absurd (omega arith)
all_at P (x ∷ xs) zero d a h = a.0
all_at P (x ∷ xs) (suc i) d a h = all_at P xs i d a.1 (omega arith)
