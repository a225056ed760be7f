-- What a value is.
use Rattle.std.specs.Prelude.{ℕ, ℤ, Bool, List}
use Rattle.pvd_type.specs.Tree.{Tree}

-- one scalar; floats are bit patterns
pub data Single : Type 0 where
  boolean : Bool → Single
  byte : ℤ → Single
  short : ℤ → Single
  int : ℤ → Single
  long : ℤ → Single
  ubyte : ℕ → Single
  ushort : ℕ → Single
  uint : ℕ → Single
  ulong : ℕ → Single
  float : ℕ → Single
  double : ℕ → Single
  text : List ℕ → Single

-- a list of scalars
pub data Many : Type 0 where
  booleans : List Bool → Many
  bytes : List ℤ → Many
  shorts : List ℤ → Many
  ints : List ℤ → Many
  longs : List ℤ → Many
  ubytes : List ℕ → Many
  ushorts : List ℕ → Many
  uints : List ℕ → Many
  ulongs : List ℕ → Many
  floats : List ℕ → Many
  doubles : List ℕ → Many
  texts : List (List ℕ) → Many

mutual
  pub data Data : Type 0 where
    single : Single → Data
    many : Many → Data
    -- a structure's values
    members : Row → Data
    -- a union without and with a member, by its place
    unset : Data
    selected : ℕ → Data → Data
    -- a variant without and with a value of its own type
    empty : Data
    carried : Tree → Data → Data
    -- lists of these
    structs : Row → Data
    unions : Row → Data
    variants : Row → Data

  -- values in order; a gap is a null element of a list
  pub data Row : Type 0 where
    end : Row
    more : Data → Row → Row
    gap : Row → Row
