-- Two values are the same just where they are equal.
use Rattle.std.proofs.Common.{◌≡◌, ℕ, zero, suc, ◌+◌, ◌<◌, Bool, true, false, not, cond, eqb, List, [], ◌∷◌, length, Option, Some, None, nat_cmp, refl, sym, ap, ◌∙◌, arith}
use Rattle.std.specs.Prelude.{slice_get, nat_eq, is_some}
use Rattle.std.specs.FinSet as fin
use Rattle.std.specs.FinSet.{contains-from_list}
use Rattle.std.specs.Cmp.{nat_cmp_total}
use Rattle.std.specs.Bool.{Decides, beq}
use Rattle.std.specs.Ordering.{int_eq, eq_by_cmp}
use Rattle.std.specs.Str.{bytes_eq}
use Rattle.std.specs.List.{list_any}
use Rattle.std.specs.Cmp.{booleans_Decides}
use Rattle.std.specs.Cmp.Lexicographic.{pointwise}
use Rattle.std.proofs.lemmas.Bool.{false≢true, eq-eqb}
use Rattle.std.proofs.lemmas.Bool.Decides.{Decides-eqb, Decides-int_eq}
use Rattle.std.proofs.lemmas.Slice.Eq.{bytes_eq-Decides, slice_eq-Decides}
use Rattle.pvd_type.specs.SameLaws.{both, and_true, same_tree-Decides}
use Rattle.pvd_type.specs.Same.{same_tree}
use Rattle.pvd_type.proofs.Sets.{by_cmp, differs}
use Rattle.pvd_value.specs.Data.{Data, Single, boolean, byte, short, int, long, ubyte, ushort, uint, ulong, float, double, text, Many, booleans, bytes, shorts, ints, longs, ubytes, ushorts, uints, ulongs, floats, doubles, texts, single, many, members, unset, selected, empty, carried, structs, unions, variants, Row, end, more, gap}
use Rattle.pvd_value.specs.Leaves.{known}
use Rattle.pvd_value.specs.Same.{same_single, same_many, same_data, same_row, same_slot, differing}

single_is : (x y : Single) → same_single x y ≡ true → x ≡ y
single_is (boolean a) (boolean b) h = ap boolean ((booleans_Decides a b).0 h)
single_is (byte a) (byte b) h = ap byte ((Decides-int_eq a b).0 h)
single_is (short a) (short b) h = ap short ((Decides-int_eq a b).0 h)
single_is (int a) (int b) h = ap int ((Decides-int_eq a b).0 h)
single_is (long a) (long b) h = ap long ((Decides-int_eq a b).0 h)
single_is (ubyte a) (ubyte b) h = ap ubyte ((Decides-eqb a b).0 h)
single_is (ushort a) (ushort b) h = ap ushort ((Decides-eqb a b).0 h)
single_is (uint a) (uint b) h = ap uint ((Decides-eqb a b).0 h)
single_is (ulong a) (ulong b) h = ap ulong ((Decides-eqb a b).0 h)
single_is (float a) (float b) h = ap float ((Decides-eqb a b).0 h)
single_is (double a) (double b) h = ap double ((Decides-eqb a b).0 h)
single_is (text a) (text b) h = ap text ((bytes_eq-Decides a b).0 h)
single_is _ _ h = absurd (false≢true h)

single_itself : (x : Single) → same_single x x ≡ true
single_itself (boolean a) = (booleans_Decides a a).1 refl
single_itself (byte a) = (Decides-int_eq a a).1 refl
single_itself (short a) = (Decides-int_eq a a).1 refl
single_itself (int a) = (Decides-int_eq a a).1 refl
single_itself (long a) = (Decides-int_eq a a).1 refl
single_itself (ubyte a) = (Decides-eqb a a).1 refl
single_itself (ushort a) = (Decides-eqb a a).1 refl
single_itself (uint a) = (Decides-eqb a a).1 refl
single_itself (ulong a) = (Decides-eqb a a).1 refl
single_itself (float a) = (Decides-eqb a a).1 refl
single_itself (double a) = (Decides-eqb a a).1 refl
single_itself (text a) = (bytes_eq-Decides a a).1 refl

many_is : (x y : Many) → same_many x y ≡ true → x ≡ y
many_is (booleans a) (booleans b) h = ap booleans ((slice_eq-Decides booleans_Decides a b (pointwise beq a b) refl).0 h)
many_is (bytes a) (bytes b) h = ap bytes ((slice_eq-Decides Decides-int_eq a b (pointwise int_eq a b) refl).0 h)
many_is (shorts a) (shorts b) h = ap shorts ((slice_eq-Decides Decides-int_eq a b (pointwise int_eq a b) refl).0 h)
many_is (ints a) (ints b) h = ap ints ((slice_eq-Decides Decides-int_eq a b (pointwise int_eq a b) refl).0 h)
many_is (longs a) (longs b) h = ap longs ((slice_eq-Decides Decides-int_eq a b (pointwise int_eq a b) refl).0 h)
many_is (ubytes a) (ubytes b) h = ap ubytes ((slice_eq-Decides Decides-eqb a b (pointwise nat_eq a b) refl).0 h)
many_is (ushorts a) (ushorts b) h = ap ushorts ((slice_eq-Decides Decides-eqb a b (pointwise nat_eq a b) refl).0 h)
many_is (uints a) (uints b) h = ap uints ((slice_eq-Decides Decides-eqb a b (pointwise nat_eq a b) refl).0 h)
many_is (ulongs a) (ulongs b) h = ap ulongs ((slice_eq-Decides Decides-eqb a b (pointwise nat_eq a b) refl).0 h)
many_is (floats a) (floats b) h = ap floats ((slice_eq-Decides Decides-eqb a b (pointwise nat_eq a b) refl).0 h)
many_is (doubles a) (doubles b) h = ap doubles ((slice_eq-Decides Decides-eqb a b (pointwise nat_eq a b) refl).0 h)
many_is (texts a) (texts b) h = ap texts ((slice_eq-Decides bytes_eq-Decides a b (pointwise bytes_eq a b) refl).0 h)
many_is _ _ h = absurd (false≢true h)

many_itself : (x : Many) → same_many x x ≡ true
many_itself (booleans a) = (slice_eq-Decides booleans_Decides a a (pointwise beq a a) refl).1 refl
many_itself (bytes a) = (slice_eq-Decides Decides-int_eq a a (pointwise int_eq a a) refl).1 refl
many_itself (shorts a) = (slice_eq-Decides Decides-int_eq a a (pointwise int_eq a a) refl).1 refl
many_itself (ints a) = (slice_eq-Decides Decides-int_eq a a (pointwise int_eq a a) refl).1 refl
many_itself (longs a) = (slice_eq-Decides Decides-int_eq a a (pointwise int_eq a a) refl).1 refl
many_itself (ubytes a) = (slice_eq-Decides Decides-eqb a a (pointwise nat_eq a a) refl).1 refl
many_itself (ushorts a) = (slice_eq-Decides Decides-eqb a a (pointwise nat_eq a a) refl).1 refl
many_itself (uints a) = (slice_eq-Decides Decides-eqb a a (pointwise nat_eq a a) refl).1 refl
many_itself (ulongs a) = (slice_eq-Decides Decides-eqb a a (pointwise nat_eq a a) refl).1 refl
many_itself (floats a) = (slice_eq-Decides Decides-eqb a a (pointwise nat_eq a a) refl).1 refl
many_itself (doubles a) = (slice_eq-Decides Decides-eqb a a (pointwise nat_eq a a) refl).1 refl
many_itself (texts a) = (slice_eq-Decides bytes_eq-Decides a a (pointwise bytes_eq a a) refl).1 refl

mutual
  data_is : (x y : Data) → same_data x y ≡ true → x ≡ y
  data_is (single x) (single y) h = ap single (single_is x y h)
  data_is (many x) (many y) h = ap many (many_is x y h)
  data_is (members x) (members y) h = ap members (row_is x y h)
  data_is unset unset h = refl
  data_is (selected m x) (selected n y) h =
      let p = both (eqb m n) (same_data x y) h in
      let e = data_is x y p.1 in
      λ i. selected ((Decides-eqb m n).0 p.0 i) (e i)
  data_is empty empty h = refl
  data_is (carried t x) (carried u y) h =
      let p = both (same_tree t u) (same_data x y) h in
      let e = data_is x y p.1 in
      λ i. carried ((same_tree-Decides t u).0 p.0 i) (e i)
  data_is (structs x) (structs y) h = ap structs (row_is x y h)
  data_is (unions x) (unions y) h = ap unions (row_is x y h)
  data_is (variants x) (variants y) h = ap variants (row_is x y h)
  data_is _ _ h = absurd (false≢true h)

  row_is : (x y : Row) → same_row x y ≡ true → x ≡ y
  row_is end end h = refl
  row_is (more x xs) (more y ys) h =
      let p = both (same_data x y) (same_row xs ys) h in
      let d = data_is x y p.0 in
      let e = row_is xs ys p.1 in
      λ i. more (d i) (e i)
  row_is (gap xs) (gap ys) h = ap gap (row_is xs ys h)
  row_is _ _ h = absurd (false≢true h)

mutual
  data_itself : (x : Data) → same_data x x ≡ true
  data_itself (single x) = single_itself x
  data_itself (many x) = many_itself x
  data_itself (members x) = row_itself x
  data_itself unset = refl
  data_itself (selected n x) = and_true (eqb n n) (same_data x x) ((Decides-eqb n n).1 refl) (data_itself x)
  data_itself empty = refl
  data_itself (carried t x) = and_true (same_tree t t) (same_data x x) ((same_tree-Decides t t).1 refl) (data_itself x)
  data_itself (structs x) = row_itself x
  data_itself (unions x) = row_itself x
  data_itself (variants x) = row_itself x

  row_itself : (x : Row) → same_row x x ≡ true
  row_itself end = refl
  row_itself (more x xs) = and_true (same_data x x) (same_row xs xs) (data_itself x) (row_itself xs)
  row_itself (gap xs) = row_itself xs

pub same_data-Decides : (x y : Data) → Decides (same_data x y) (x ≡ y)
same_data-Decides x y = (data_is x y, λ e. ap (same_data x) (sym e) ∙ data_itself x)

slot_is : (x y : Option Data) → same_slot x y ≡ true → x ≡ y
slot_is None None h = refl
slot_is (Some x) (Some y) h = ap Some (data_is x y h)
slot_is _ _ h = absurd (false≢true h)

slot_itself : (x : Option Data) → same_slot x x ≡ true
slot_itself None = refl
slot_itself (Some x) = data_itself x

slot_Decides : (x y : Option Data) → Decides (same_slot x y) (x ≡ y)
slot_Decides x y = (slot_is x y, λ e. ap (same_slot x) (sym e) ∙ slot_itself x)

-- no number below the first is among those that differ
differing_start : (q n : ℕ) (xs ys : List (Option Data)) → q < n → list_any (eq_by_cmp nat_cmp q) (differing n xs ys) ≡ false
differing_start q n [] ys h = refl
differing_start q n (x ∷ xs) [] h = refl
differing_start q n (x ∷ xs) (y ∷ ys) h = step (same_slot x y) (differing_start q (n + 1) xs ys (omega arith))
  where
    step : (b : Bool) → list_any (eq_by_cmp nat_cmp q) (differing (n + 1) xs ys) ≡ false
        → list_any (eq_by_cmp nat_cmp q) (cond b (differing (n + 1) xs ys) (n ∷ differing (n + 1) xs ys)) ≡ false
    step true e = e
    step false e = rw (by_cmp q n, differs q n (λ p. omega (arith, p))) e

-- whether the slots under one number of two values differ
abbrev differ_flag : Option (Option Data) → Option (Option Data) → Bool
differ_flag (Some x) (Some y) = not (same_slot x y)
differ_flag _ _ = false

any_differing : (n k : ℕ) (xs ys : List (Option Data)) → length xs ≡ length ys
    → list_any (eq_by_cmp nat_cmp (n + k)) (differing n xs ys) ≡ differ_flag (slice_get xs k) (slice_get ys k)
any_differing n k [] [] h = refl
any_differing n k [] (y ∷ ys) h = absurd cc
any_differing n k (x ∷ xs) [] h = absurd cc
any_differing n zero (x ∷ xs) (y ∷ ys) h =
    let e : n ≡ n + 0 = omega arith in
    ap (λ q. list_any (eq_by_cmp nat_cmp q) (differing n (x ∷ xs) (y ∷ ys))) (sym e) ∙ step (same_slot x y)
  where
    step : (b : Bool) → list_any (eq_by_cmp nat_cmp n) (cond b (differing (n + 1) xs ys) (n ∷ differing (n + 1) xs ys)) ≡ not b
    step true = differing_start n (n + 1) xs ys (omega arith)
    step false = rw (by_cmp n n, eq-eqb n n refl) refl
any_differing n (suc k) (x ∷ xs) (y ∷ ys) h =
    let e : n + suc k ≡ (n + 1) + k = omega arith in
    ap (λ q. list_any (eq_by_cmp nat_cmp q) (differing n (x ∷ xs) (y ∷ ys))) e ∙ step (same_slot x y) ∙ any_differing (n + 1) k xs ys (omega arith)
  where
    step : (b : Bool) → list_any (eq_by_cmp nat_cmp ((n + 1) + k)) (cond b (differing (n + 1) xs ys) (n ∷ differing (n + 1) xs ys))
        ≡ list_any (eq_by_cmp nat_cmp ((n + 1) + k)) (differing (n + 1) xs ys)
    step true = refl
    step false = rw (by_cmp ((n + 1) + k) n, differs ((n + 1) + k) n (λ p. omega (arith, p))) refl

-- two lists of one length have something under the same numbers
alike_at : (k : ℕ) (xs ys : List (Option Data)) → length xs ≡ length ys → is_some (slice_get xs k) ≡ is_some (slice_get ys k)
alike_at k [] [] h = refl
alike_at k [] (y ∷ ys) h = absurd cc
alike_at k (x ∷ xs) [] h = absurd cc
alike_at zero (x ∷ xs) (y ∷ ys) h = refl
alike_at (suc k) (x ∷ xs) (y ∷ ys) h = alike_at k xs ys (omega arith)

flag_tells : (a b : Option (Option Data)) → is_some a ≡ is_some b → Decides (differ_flag a b) (known a ≡ known b → ⊥)
flag_tells None None e = (λ h. absurd (false≢true h), λ h. absurd (h refl))
flag_tells None (Some y) e = absurd cc
flag_tells (Some x) None e = absurd cc
flag_tells (Some x) (Some y) e = tell (same_slot x y) (slot_Decides x y)
  where
    tell : (b : Bool) → Decides b (x ≡ y) → Decides (not b) (x ≡ y → ⊥)
    tell true d = (λ h. absurd (false≢true h), λ h. absurd (h (d.0 refl)))
    tell false d = (λ _. λ p. false≢true (d.1 p), λ _. refl)

-- the numbers at which two lists of slots differ are those at which the leaves do
pub in_differing : (xs ys : List (Option Data)) (k : ℕ) → length xs ≡ length ys
    → Decides (fin.contains (fin.from_list {R = nat_cmp} (differing 0 xs ys)) k) (known (slice_get xs k) ≡ known (slice_get ys k) → ⊥)
in_differing xs ys k h =
    let e : k ≡ 0 + k = omega arith in
    let is = contains-from_list nat_cmp_total (differing 0 xs ys) k ∙ ap (λ q. list_any (eq_by_cmp nat_cmp q) (differing 0 xs ys)) e ∙ any_differing 0 k xs ys h in
    let tells = flag_tells (slice_get xs k) (slice_get ys k) (alike_at k xs ys h) in
    (λ t. tells.0 (sym is ∙ t), λ other. is ∙ tells.1 other)
