-- One element of a list was replaced.
use Rattle.std.proofs.Common.{◌≡◌, ◌<◌, ℕ, zero, suc, List, [], ◌∷◌, length, map, refl, ap, arith}
use Rattle.std.specs.Prelude.{slice_index_or, slice_set}
use Rattle.histories.specs.History.{Every}

pub every_set : {A : Type 0} (P : A → Type 0) (xs : List A) (i : ℕ) (y : A) → Every P xs → P y → Every P (slice_set xs i y)
every_set P [] i y all one = tt
every_set P (x ∷ xs) zero y all one = (one, all.1)
every_set P (x ∷ xs) (suc i) y all one = (all.0, every_set P xs i y all.1 one)

pub every_at : {A : Type 0} (P : A → Type 0) (xs : List A) (i : ℕ) (d : A) → i < length xs → Every P xs → P (slice_index_or xs i d)
every_at P [] i d less all = absurd (omega arith)
every_at P (x ∷ xs) zero d less all = all.0
every_at P (x ∷ xs) (suc i) d less all = every_at P xs i d (omega arith) all.1

pub map_set : {A B : Type 0} (f : A → B) (xs : List A) (i : ℕ) (y d : A) → f y ≡ f (slice_index_or xs i d) → map f (slice_set xs i y) ≡ map f xs
map_set f [] i y d same = refl
map_set {A} {B} f (x ∷ xs) zero y d same = ap (λ (b : B). b ∷ map f xs) same
map_set {A} {B} f (x ∷ xs) (suc i) y d same = ap (λ (l : List B). f x ∷ l) (map_set f xs i y d same)
