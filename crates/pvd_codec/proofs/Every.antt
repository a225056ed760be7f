-- What holds for each item by its place holds for every item.
use Rattle.std.proofs.Common.{ℕ, zero, suc, List, [], ◌∷◌, get_or}
use Rattle.pvd_codec.specs.Written.{CanEach}

pub can_each : {A : Type 0} (Can : A → Type 0) (d : A) (xs : List A) → ((i : ℕ) → Can (get_or xs i d)) → CanEach Can xs
can_each Can d [] h = tt
can_each Can d (x ∷ xs) h = (h zero, can_each Can d xs (λ i. h (suc i)))
