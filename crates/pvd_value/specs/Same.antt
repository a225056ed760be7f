-- When two values are the same.
use Rattle.std.specs.Prelude.{ℕ, ◌+◌, Bool, true, false, ◌==◌, ◌&&◌, List, [], ◌∷◌, Option, Some, None, nat_eq, if◌then◌else◌}
use Rattle.std.specs.Bool.{beq}
use Rattle.std.specs.Ordering.{int_eq}
use Rattle.std.specs.Str.{bytes_eq}
use Rattle.std.specs.Cmp.Lexicographic.{pointwise}
use Rattle.pvd_type.specs.Same.{same_tree}
use Rattle.pvd_value.specs.Data.{Data, Single, boolean, byte, short, int, long, ubyte, ushort, uint, ulong, float, double, text, Many, booleans, bytes, shorts, ints, longs, ubytes, ushorts, uints, ulongs, floats, doubles, texts, single, many, members, unset, selected, empty, carried, structs, unions, variants, Row, end, more, gap}

abbrev pub same_single : Single → Single → Bool
same_single (boolean x) (boolean y) = beq x y
same_single (byte x) (byte y) = int_eq x y
same_single (short x) (short y) = int_eq x y
same_single (int x) (int y) = int_eq x y
same_single (long x) (long y) = int_eq x y
same_single (ubyte x) (ubyte y) = x == y
same_single (ushort x) (ushort y) = x == y
same_single (uint x) (uint y) = x == y
same_single (ulong x) (ulong y) = x == y
same_single (float x) (float y) = x == y
same_single (double x) (double y) = x == y
same_single (text x) (text y) = bytes_eq x y
same_single _ _ = false

abbrev pub same_many : Many → Many → Bool
same_many (booleans xs) (booleans ys) = pointwise beq xs ys
same_many (bytes xs) (bytes ys) = pointwise int_eq xs ys
same_many (shorts xs) (shorts ys) = pointwise int_eq xs ys
same_many (ints xs) (ints ys) = pointwise int_eq xs ys
same_many (longs xs) (longs ys) = pointwise int_eq xs ys
same_many (ubytes xs) (ubytes ys) = pointwise nat_eq xs ys
same_many (ushorts xs) (ushorts ys) = pointwise nat_eq xs ys
same_many (uints xs) (uints ys) = pointwise nat_eq xs ys
same_many (ulongs xs) (ulongs ys) = pointwise nat_eq xs ys
same_many (floats xs) (floats ys) = pointwise nat_eq xs ys
same_many (doubles xs) (doubles ys) = pointwise nat_eq xs ys
same_many (texts xs) (texts ys) = pointwise bytes_eq xs ys
same_many _ _ = false

abbrev mutual
  pub same_data : Data → Data → Bool
  same_data (single x) (single y) = same_single x y
  same_data (many xs) (many ys) = same_many xs ys
  same_data (members xs) (members ys) = same_row xs ys
  same_data unset unset = true
  same_data (selected m x) (selected n y) = (m == n) && same_data x y
  same_data empty empty = true
  same_data (carried t x) (carried u y) = same_tree t u && same_data x y
  same_data (structs xs) (structs ys) = same_row xs ys
  same_data (unions xs) (unions ys) = same_row xs ys
  same_data (variants xs) (variants ys) = same_row xs ys
  same_data _ _ = false

  pub same_row : Row → Row → Bool
  same_row end end = true
  same_row (more x xs) (more y ys) = same_data x y && same_row xs ys
  same_row (gap xs) (gap ys) = same_row xs ys
  same_row _ _ = false

-- what stands under one number of two values, nothing at a structure
abbrev pub same_slot : Option Data → Option Data → Bool
same_slot None None = true
same_slot (Some x) (Some y) = same_data x y
same_slot _ _ = false

-- the numbers, from n on, under which two values have different leaves
abbrev pub differing : ℕ → List (Option Data) → List (Option Data) → List ℕ
differing n (x ∷ xs) (y ∷ ys) = if same_slot x y then differing (n + 1) xs ys else n ∷ differing (n + 1) xs ys
differing n _ _ = []
