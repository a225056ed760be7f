-- The numbers that records hold.
use Rattle.std.proofs.Common.{◌≡◌, ℕ, suc, ◌+◌, ℤ, pos, negsuc, true, false, List, [], ◌∷◌, length, Option, None, Some, refl, sym, ◌∙◌, ap, arith}
use Rattle.std.proofs.lemmas.Bool.{false≢true, leb-true}
use Rattle.std.specs.Int.{is_negative}
use Rattle.std.specs.Prelude.{unsigned_abs}
use Rattle.rec_kinds.specs.declared.datum.Datum.TheVariants.{Num}
use Rattle.rec_kinds.specs.declared.state.RecState.{RecState}
use Rattle.prog_drill.specs.Drilling.{number_in, sum_of}

pub negative_is_none : (z : ℤ) → is_negative z ≡ true → 0 ≡ number_in (Num z)
negative_is_none (pos n) is = absurd (omega (arith, leb-true (suc n) 0 is))
negative_is_none (negsuc n) is = refl

pub positive_is_itself : (z : ℤ) → is_negative z ≡ false → unsigned_abs z ≡ number_in (Num z)
positive_is_itself (pos n) is = refl
positive_is_itself (negsuc n) is = absurd (false≢true (sym is))

pub sum_of_none : (states : List RecState) → length states ≡ 0 → 0 ≡ sum_of states
sum_of_none [] none = refl
sum_of_none (state ∷ states) none = absurd (omega (arith, none))

pub sum_of_more : (states : List RecState) (first : RecState) (rest : List RecState) (sum number : ℕ) → states ≡ first ∷ rest → sum ≡ sum_of rest → number ≡ number_in first.datum → sum + number ≡ sum_of states
sum_of_more states first rest sum number is one two = omega (arith, ap sum_of is, one, two)
