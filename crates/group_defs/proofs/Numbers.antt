-- The numbers of 32 bits that texts write.
use Rattle.std.proofs.Common.{◌≡◌, ℕ, ◌<◌, Bool, true, false, cond, ◌&&◌, List, [], ◌∷◌, length, Some, None, Result, Ok, Err, refl, ap, arith, w32, Decides}
use Rattle.std.specs.Prelude.{ℤ, pos, negsuc, nat_lt, FitsSigned}
use Rattle.std.specs.Char.{digit_value}
use Rattle.std.specs.List.{list_all}
use Rattle.std.specs.Result.{OkIff, result_ok}
use Rattle.std.specs.Str.Parse.{AllDigits, IsNumeral, ParsesSigned, without_leading_sign, signed_digits_value}
use Rattle.std.proofs.lemmas.Bool.{false≢true}
use Rattle.std.proofs.lemmas.Bool.Decides.{Decides-and, Decides-ltb, nat_tests}
use Rattle.rec_kinds.specs.Sorts.{within}
use Rattle.group_defs.specs.Members.{whole}

fits_tells : (z : ℤ) → Decides (within (negsuc 2147483647) (pos 2147483647) z) (FitsSigned w32 z)
fits_tells (pos n) = (λ e. record { sfits = grind (arith, nat_tests) }, λ f. let below : n < 2147483648 = f.sfits in grind (arith, nat_tests))
fits_tells (negsuc n) = (λ e. record { sfits = grind (arith, nat_tests) }, λ f. let below : n < 2147483648 = f.sfits in grind (arith, nat_tests))

digits_tell : (ds : List ℕ) → Decides (list_all (λ c. nat_lt (digit_value c) 10) ds) (AllDigits 10 ds)
digits_tell [] = (λ e. tt, λ h. refl)
digits_tell (c ∷ cs) = Decides-and (nat_lt (digit_value c) 10) (list_all (λ c. nat_lt (digit_value c) 10) cs) (Decides-ltb (digit_value c) 10) (digits_tell cs)

numeral_tells : (ds : List ℕ) → Decides (nat_lt 0 (length ds) && list_all (λ c. nat_lt (digit_value c) 10) ds) (IsNumeral 10 ds)
numeral_tells ds = Decides-and (nat_lt 0 (length ds)) (list_all (λ c. nat_lt (digit_value c) 10) ds) (Decides-ltb 0 (length ds)) (digits_tell ds)

gives : {E : Type 0} (P : Type 0) (test : Bool) → Decides test P → (v : ℤ) (r : Result ℤ E) → OkIff r P v → result_ok r ≡ cond test (Some v) None
gives P true d v (Ok x) h = ap Some h.1
gives P true d v (Err e) h = absurd (h (d.0 refl))
gives P false d v (Ok x) h = absurd (false≢true (d.1 h.0))
gives P false d v (Err e) h = refl

pub whole_is : {E : Type 0} (text : List ℕ) (r : Result ℤ E) → ParsesSigned w32 10 text r → result_ok r ≡ whole text
whole_is text r h =
    gives (IsNumeral 10 (without_leading_sign text) × FitsSigned w32 (signed_digits_value 10 text)) _
    (Decides-and _ (within (negsuc 2147483647) (pos 2147483647) (signed_digits_value 10 text)) (numeral_tells (without_leading_sign text)) (fits_tells (signed_digits_value 10 text)))
    (signed_digits_value 10 text) r h
