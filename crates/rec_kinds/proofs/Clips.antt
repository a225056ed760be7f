-- A number that is clipped to more than 64 bits stands on the same side of each number of 64 bits.
use Rattle.std.proofs.Common.{◌≡◌, ℤ, pos, negsuc, Bool, true, false, ◌&&◌, Option, None, Some, option_map, if◌then◌else◌, refl, ap, sym, ◌∙◌, arith, FitsSigned, w64}
use Rattle.std.specs.Option.{option_and_then}
use Rattle.std.specs.Prelude.{int_lt, int_le}
use Rattle.std.proofs.lemmas.Int.{ints}
use Rattle.std.proofs.lemmas.Bool.Decides.{nat_tests}
use Rattle.rec_kinds.specs.Clipping.{clip_int}
use Rattle.rec_kinds.specs.Sorts.{within}

low_side : (low m : ℤ) → FitsSigned w64 low → int_lt (clip_int m) low ≡ true → int_le low m ≡ false
low_side (pos a) (pos k) fits h = grind (arith, ints, nat_tests)
low_side (pos a) (negsuc k) fits h = refl
low_side (negsuc a) (pos k) fits h = grind (arith, ints, nat_tests)
low_side (negsuc a) (negsuc k) fits h = grind (arith, ints, nat_tests)

high_side : (high m : ℤ) → FitsSigned w64 high → int_lt high (clip_int m) ≡ true → int_le m high ≡ false
high_side (pos a) (pos k) fits h = grind (arith, ints, nat_tests)
high_side (pos a) (negsuc k) fits h = grind (arith, ints, nat_tests)
high_side (negsuc a) (pos k) fits h = refl
high_side (negsuc a) (negsuc k) fits h = grind (arith, ints, nat_tests)

from_low : (low m : ℤ) → FitsSigned w64 low → int_lt (clip_int m) low ≡ false → int_le low m ≡ true
from_low (pos a) (pos k) fits h = grind (arith, ints, nat_tests)
from_low (pos a) (negsuc k) fits h = grind (arith, ints, nat_tests)
from_low (negsuc a) (pos k) fits h = refl
from_low (negsuc a) (negsuc k) fits h = grind (arith, ints, nat_tests)

to_high : (high m : ℤ) → FitsSigned w64 high → int_lt high (clip_int m) ≡ false → int_le m high ≡ true
to_high (pos a) (pos k) fits h = grind (arith, ints, nat_tests)
to_high (pos a) (negsuc k) fits h = refl
to_high (negsuc a) (pos k) fits h = grind (arith, ints, nat_tests)
to_high (negsuc a) (negsuc k) fits h = grind (arith, ints, nat_tests)

unclipped : (low high m : ℤ) → FitsSigned w64 low → FitsSigned w64 high → int_le low m ≡ true → int_le m high ≡ true → clip_int m ≡ m
unclipped low (pos b) (pos k) fl fh h g = ap pos (grind (arith, ints, nat_tests))
unclipped low (negsuc b) (pos k) fl fh h g = grind (arith, ints, nat_tests)
unclipped (pos a) high (negsuc k) fl fh h g = grind (arith, ints, nat_tests)
unclipped (negsuc a) high (negsuc k) fl fh h g = ap negsuc (grind (arith, ints, nat_tests))

abbrev pub ranged : ℤ → ℤ → Option ℤ → Option ℤ
ranged low high o = option_and_then (λ n. if within low high n then Some n else None) o

pub is_below : (o : Option ℤ) (n low high a b : ℤ) → option_map clip_int o ≡ Some n → FitsSigned w64 low →
    int_lt a b ≡ true → a ≡ n → b ≡ low → None ≡ ranged low high o
is_below None n low high a b e fl h p q = refl
is_below (Some m) n low high a b e fl h p q =
    let k : clip_int m ≡ n = cc in
    let lower : int_lt (clip_int m) low ≡ true = ap (λ x. int_lt x low) (k ∙ sym p) ∙ (ap (int_lt a) (sym q) ∙ h) in
    sym (ap (λ x. if x && int_le m high then Some m else None) (low_side low m fl lower))

pub is_above : (o : Option ℤ) (n low high a b : ℤ) → option_map clip_int o ≡ Some n → FitsSigned w64 high →
    int_lt b a ≡ true → a ≡ n → b ≡ high → None ≡ ranged low high o
is_above None n low high a b e fh h p q = refl
is_above (Some m) n low high a b e fh h p q =
    let k : clip_int m ≡ n = cc in
    let upper : int_lt high (clip_int m) ≡ true = ap (int_lt high) (k ∙ sym p) ∙ (ap (λ x. int_lt x a) (sym q) ∙ h) in
    sym (ap (λ x. if int_le low m && x then Some m else None) (high_side high m fh upper) ∙ outside (int_le low m) m)
  where
    outside : (x : Bool) (m : ℤ) → (if x && false then Some m else None) ≡ None
    outside true m = refl
    outside false m = refl

pub is_between : (o : Option ℤ) (n low high a b x y : ℤ) → option_map clip_int o ≡ Some n → FitsSigned w64 low → FitsSigned w64 high →
    int_lt a b ≡ false → a ≡ n → b ≡ low → int_lt y x ≡ false → x ≡ n → y ≡ high → Some n ≡ ranged low high o
is_between None n low high a b x y e fl fh h p q g r s = absurd (cc)
is_between (Some m) n low high a b x y e fl fh h p q g r s =
    let k : clip_int m ≡ n = cc in
    let lower = from_low low m fl (ap (λ z. int_lt z low) (k ∙ sym p) ∙ (ap (int_lt a) (sym q) ∙ h)) in
    let upper = to_high high m fh (ap (int_lt high) (k ∙ sym r) ∙ (ap (λ z. int_lt z x) (sym s) ∙ g)) in
    ap Some (sym k ∙ unclipped low high m fl fh lower upper)
    ∙ sym (ap (λ z. if z && int_le m high then Some m else None) lower ∙ ap (λ z. if z then Some m else None) upper)
