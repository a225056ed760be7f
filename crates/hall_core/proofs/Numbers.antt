-- Lists of numbers.
use Rattle.std.proofs.Common.{◌≢◌, ℕ, zero, suc, List, ◌∷◌, arith}
use Rattle.hall_core.specs.Meanings.{Among}

pub not_first : (c x : ℕ) (xs : List ℕ) → x ≢ c → ¬ (Among c xs) → ¬ (Among c (x ∷ xs))
not_first c x xs ne out (zero, l, e) = ne e
not_first c x xs ne out (suc k, l, e) = out (k, omega arith, e)
