-- A path up to its first dot.
use Rattle.std.proofs.Common.{◌≡◌, ℕ, ◌<◌, ◌≢◌, suc, eqb, List, [], ◌∷◌, length, get_or, refl, ap, ◌∙◌, arith}
use Rattle.std.specs.List.{onto_first}
use Rattle.std.proofs.lemmas.List.Splits.{slice_split-cons_no}
use Rattle.pvd_type.specs.Numbers.{path_of}
use Rattle.pvd_type.proofs.Sets.{differs}

-- a path without dots is one name
pub path_of_name : (bs : List ℕ) → ((i : ℕ) → i < length bs → get_or bs i 0 ≢ 46) → path_of bs ≡ bs ∷ []
path_of_name [] h = refl
path_of_name (b ∷ bs) h =
    slice_split-cons_no (λ x. eqb x 46) b bs (differs b 46 (h 0 (omega arith)))
    ∙ ap (onto_first b) (path_of_name bs (λ i lt. h (suc i) (omega arith)))
