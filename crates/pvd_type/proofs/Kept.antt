-- One name more among those that are kept.
use Rattle.std.proofs.Common.{◌≡◌, ℕ, Bool, true, false, cond, ◌||◌, List, [], ◌∷◌, ◌++◌, refl, ap, ◌∙◌}
use Rattle.std.specs.Str.{bytes_eq}
use Rattle.std.specs.Cmp.Lexicographic.{nat_list_eq_equiv}
use Rattle.pvd_type.specs.Check.{contains}

last : (a : Bool) → (a || false) ≡ cond a true false
last true = refl
last false = refl

later : (a b c : Bool) → (a || cond b true c) ≡ cond b true (a || c)
later true true c = refl
later true false c = refl
later false b c = refl

pub contains_push : (q name : List ℕ) (xs : List (List ℕ)) → contains q (xs ++ name ∷ []) ≡ cond (bytes_eq name q) true (contains q xs)
contains_push q name [] = last (bytes_eq q name) ∙ ap (λ b. cond b true false) (nat_list_eq_equiv.symm q name)
contains_push q name (x ∷ xs) = ap (λ b. bytes_eq q x || b) (contains_push q name xs) ∙ later (bytes_eq q x) (bytes_eq name q) (contains q xs)
