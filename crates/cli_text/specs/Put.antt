-- What the words of a put give.
use Rattle.std.specs.Prelude.{◌≡◌, ℕ, ◌+◌, ◌-◌, Bool, true, false, not, ◌==◌, ◌&&◌, nat_lt, List, [], ◌∷◌, length, get_or, slice_get, codes, Option, Some, None, is_some, option_map, Result, Ok, Err, if◌then◌else◌}
use Rattle.std.specs.List.{position_or_len, before_first, after_first}
use Rattle.std.specs.Option.{option_and_then}
use Rattle.std.specs.Ordering.{nat_cmp}
use Rattle.std.specs.FinSet as set
use Rattle.std.specs.FinSet.{FinSet}
use Rattle.pvd_type.specs.declared.shape.Scalar.{Scalar}
use Rattle.pvd_type.specs.declared.shape.Scalar.TheVariants as scalar
use Rattle.pvd_type.specs.declared.shape.Extent.{Extent}
use Rattle.pvd_type.specs.declared.shape.Extent.TheVariants.{Variable, Bounded, Fixed}
use Rattle.pvd_type.specs.Tree.{Tree, leaf, node, Leaf, plain, bound_text, list, variant, variant_list, Fields, field}
use Rattle.pvd_type.specs.Numbers.{entered, is_leaf, numbered, number_at}
use Rattle.pvd_value.specs.Data.{Data, int, Many, booleans, bytes, shorts, ints, longs, ubytes, ushorts, uints, ulongs, floats, doubles, texts, single, many, members, Row, more}
use Rattle.pvd_value.specs.Fits.{fits_of, count_of}
use Rattle.pvd_value.specs.Leaves.{row_in, leaf_at}
use Rattle.cli_text.specs.declared.fault.Cause.{Cause}
use Rattle.cli_text.specs.declared.fault.Cause.TheVariants as cause
use Rattle.cli_text.specs.declared.fault.PutText.{PutText}
use Rattle.cli_text.specs.declared.fault.PutText.TheVariants as put
use Rattle.cli_text.specs.declared.words.Way.{Way}
use Rattle.cli_text.specs.declared.words.Way.TheVariants as way
use Rattle.cli_text.specs.Faults.{fault_at}
use Rattle.cli_text.specs.Words.{made, and_then, read_scalar, read_bounded, with_word, read_choice}

-- Where a word goes.

abbrev pub some_is : (Tree → Bool) → Option Tree → Bool
some_is test None = false
some_is test (Some t) = test t

-- the number of the leaf with this path
abbrev pub if_leaf : Tree → ℕ → Option ℕ
if_leaf t n = if some_is is_leaf (slice_get (numbered t) n) then Some n else None

abbrev pub leaf_number : Tree → List ℕ → Option ℕ
leaf_number t path = option_and_then (if_leaf t) (number_at path t)

-- what stands before and behind the first `=`
abbrev pub split_word : List ℕ → Option (List ℕ × List ℕ)
split_word w = if nat_lt (position_or_len (λ c. c == 61) w) (length w) then Some (before_first (λ c. c == 61) w, after_first (λ c. c == 61) w) else None

-- a word `PATH=TEXT`: the leaf with this path, and the text
abbrev pub named_leaf : Tree → List ℕ × List ℕ → Option (ℕ × List ℕ)
named_leaf t p = option_map (λ n. (n, p.1)) (leaf_number t p.0)

abbrev pub by_path : Tree → List ℕ → Option (ℕ × List ℕ)
by_path t w = option_and_then (named_leaf t) (split_word w)

-- the type of the node with this path
abbrev pub type_at : Tree → List ℕ → Option Tree
type_at t path = option_and_then (slice_get (numbered t)) (number_at path t)

abbrev pub is_int : Scalar → Bool
is_int scalar.I32 = true
is_int _ = false

abbrev pub is_string : Scalar → Bool
is_string scalar.Text = true
is_string _ = false

abbrev pub is_index : Tree → Bool
is_index (leaf (plain s)) = is_int s
is_index _ = false

abbrev pub is_choices : Tree → Bool
is_choices (leaf (list s e)) = is_string s
is_choices _ = false

-- whether `value` is an enum: an index and the texts of the choices (Normative Types, "enum_t")
abbrev pub is_enum : Tree → Bool
is_enum t = some_is is_index (type_at t (codes "value.index")) && some_is is_choices (type_at t (codes "value.choices"))

-- Where the words go: each to the leaf of its own path, where the first one names a leaf; else all to `value`, or to `value.index`
-- of an enum.
abbrev pub value_way : Tree → Option ℕ → Option Way
value_way t (Some n) = Some (way.Leaf n)
value_way t None = if is_enum t then option_map way.Choice (leaf_number t (codes "value.index")) else None

abbrev pub way_of : Tree → List ℕ → Option Way
way_of t first = if is_some (by_path t first) then Some way.Paths else value_way t (leaf_number t (codes "value"))

-- the number of the leaf to which all words go
abbrev pub way_number : Way → ℕ
way_number way.Paths = 0
way_number (way.Leaf n) = n
way_number (way.Choice n) = n

-- the leaf that a word gives, and the text that it gives
abbrev pub target : Way → Tree → List ℕ → Option (ℕ × List ℕ)
target way.Paths t w = by_path t w
target (way.Leaf n) t w = Some (n, w)
target (way.Choice n) t w = Some (n, w)

-- the texts of an enum's choices
abbrev pub texts_in : Data → List (List ℕ)
texts_in (many (texts xs)) = xs
texts_in _ = []

abbrev pub texts_of : Option Data → List (List ℕ)
texts_of None = []
texts_of (Some d) = texts_in d

abbrev pub choices_of : Tree → Data → List (List ℕ)
choices_of t v = texts_of (option_and_then (λ n. leaf_at n t v) (number_at (codes "value.choices") t))

-- What a word makes of a leaf.

-- an empty list of the same scalar
abbrev pub emptied : Many → Many
emptied (booleans xs) = booleans []
emptied (bytes xs) = bytes []
emptied (shorts xs) = shorts []
emptied (ints xs) = ints []
emptied (longs xs) = longs []
emptied (ubytes xs) = ubytes []
emptied (ushorts xs) = ushorts []
emptied (uints xs) = uints []
emptied (ulongs xs) = ulongs []
emptied (floats xs) = floats []
emptied (doubles xs) = doubles []
emptied (texts xs) = texts []

-- whether a list of this extent with so many elements has room for one more
abbrev pub has_room : Extent → ℕ → Bool
has_room Variable n = true
has_room (Bounded bound) n = nat_lt n bound
has_room (Fixed size) n = nat_lt n size

-- what was read, where there is room for it
abbrev pub if_room : {A : Type 0} → Bool → A → Result A Cause
if_room room x = if room then Ok x else Err cause.OutOfRange

-- what was read, where it is the first word that gives this scalar
abbrev pub if_first : {A : Type 0} → Bool → A → Result A Cause
if_first first x = if first then Ok x else Err cause.NoField

-- a list of this extent with a word as one element more
abbrev pub extended : Extent → List ℕ → Many → Result Many Cause
extended e t xs = and_then (if_room (has_room e (count_of xs))) (with_word xs t)

-- the first word for a list empties it, and each extends it
abbrev pub give_list : Extent → Bool → List ℕ → Data → Result Data Cause
give_list e first t (many xs) = made many (extended e t (if first then emptied xs else xs))
give_list e first t _ = Err cause.NoField

-- an index by its choice, and each other scalar by itself
abbrev pub give_plain : Way → List (List ℕ) → Scalar → List ℕ → Result Data Cause
give_plain (way.Choice n) choices s t = made (λ z. single (int z)) (read_choice choices t)
give_plain way.Paths choices s t = made single (read_scalar s t)
give_plain (way.Leaf n) choices s t = made single (read_scalar s t)

-- A scalar is given by one word alone. Unions, variants and lists of these can't be given.
abbrev pub give : Way → List (List ℕ) → Bool → List ℕ → Leaf → Data → Result Data Cause
give w choices first t (plain s) v = and_then (if_first first) (give_plain w choices s t)
give w choices first t (bound_text bound) v = and_then (if_first first) (made single (read_bounded bound t))
give w choices first t (list s e) v = give_list e first t v
give w choices first t variant v = Err cause.NoField
give w choices first t variant_list v = Err cause.NoField

-- the same of a node, which may be no leaf
abbrev pub given : (Leaf → Data → Result Data Cause) → Tree → Data → Result Data Cause
given f (leaf l) v = f l v
given f (node kind id fs) v = Err cause.NoField

-- The value in which the leaf of number k is what f makes of it. Numbers are counted from the node's own 0.
abbrev mutual
  pub put_at : (Leaf → Data → Result Data Cause) → ℕ → Tree → Data → Result Data Cause
  put_at f k (leaf l) v = f l v
  put_at f k (node kind id fs) v = entered kind (made members (put_among f (k - 1) fs (row_in v))) (Err cause.NoField)

  pub put_among : (Leaf → Data → Result Data Cause) → ℕ → Fields → Row → Result Row Cause
  put_among f k (field name t fs) (more v vs) =
      if nat_lt k (length (numbered t)) then made (λ w. more w vs) (put_at f k t v)
      else made (more v) (put_among f (k - length (numbered t)) fs vs)
  put_among f k fs vs = Err cause.NoField

-- The words one after another: the leaves that were given so far, and the value with them.

-- a leaf that is given stands among those that were
abbrev pub give_at : Way → List (List ℕ) → Tree → FinSet nat_cmp × Data → Option (ℕ × List ℕ) → Result (FinSet nat_cmp × Data) Cause
give_at w choices t s None = Err cause.NoField
give_at w choices t s (Some p) =
    made (λ v. (set.insert s.0 p.0, v)) (put_at (give w choices (not (set.contains s.0 p.0)) p.1) p.0 t s.1)

abbrev pub put_word : Way → List (List ℕ) → Tree → FinSet nat_cmp × Data → List ℕ → Result (FinSet nat_cmp × Data) Cause
put_word w choices t s word = give_at w choices t s (target w t word)

-- these words, of which the first stands in this position; the first that is refused decides
abbrev pub at_position : {A : Type 0} → ℕ → Result A Cause → Result A PutText
at_position position (Ok x) = Ok x
at_position position (Err c) = Err (fault_at c position)

abbrev pub put_from : Way → List (List ℕ) → Tree → ℕ → FinSet nat_cmp × Data → List (List ℕ) → Result (FinSet nat_cmp × Data) PutText
put_from w choices t position s [] = Ok s
put_from w choices t position s (word ∷ words) =
    and_then (λ after. put_from w choices t (position + 1) after words) (at_position position (put_word w choices t s word))

-- Only a list of a fixed length that the words don't fill makes a value that doesn't fit; this shows at the last word.
abbrev pub if_fits : Tree → ℕ → FinSet nat_cmp × Data → Result (FinSet nat_cmp × Data) PutText
if_fits t last s = if fits_of 16 s.1 t then Ok s else Err (put.OutOfRange last)

abbrev pub put_by : Tree → Data → List (List ℕ) → Option Way → Result (FinSet nat_cmp × Data) PutText
put_by t v words None = Err (put.NoField 0)
put_by t v words (Some w) = and_then (if_fits t (length words - 1)) (put_from w (choices_of t v) t 0 (set.empty, v) words)

-- What words give of a type, over a present value: the leaves that they give and the value with them, or the first fault.
abbrev pub put_of : Tree → Data → List (List ℕ) → Result (FinSet nat_cmp × Data) PutText
put_of t v words = put_by t v words (way_of t (get_or words 0 []))

-- what a put answers is what the words give, or want of memory
abbrev pub Puts : {P : Type 0} → (P → FinSet nat_cmp × Data) → Result P PutText → Result (FinSet nat_cmp × Data) PutText → Type 0
Puts view (Ok p) given = given ≡ Ok (view p)
Puts view (Err put.NoMemory) given = Unit {0}
Puts view (Err fault) given = given ≡ Err fault

-- the same of a call that changes what was given so far
abbrev pub PutsEach : Result (Unit {0}) PutText → FinSet nat_cmp × Data → Result (FinSet nat_cmp × Data) PutText → Type 0
PutsEach (Ok x) after given = given ≡ Ok after
PutsEach (Err put.NoMemory) after given = Unit {0}
PutsEach (Err fault) after given = given ≡ Err fault
