-- A merge in whose mask no number of a value stands, and the leaves that such a set marks.
use Rattle.std.proofs.Common.{◌≡◌, ℕ, ◌+◌, ◌<◌, ◌≤◌, Bool, true, false, ◌||◌, cond, List, [], ◌++◌, length, refl, ap, ◌∙◌, arith}
use Rattle.std.proofs.lemmas.Bool.{false≢true}
use Rattle.std.proofs.lemmas.List.{length-append}
use Rattle.pvd_type.specs.SameLaws.{both}
use Rattle.pvd_type.specs.Tree.{Tree, leaf, node, struct, union, struct_list, union_list, Fields, no_fields, field}
use Rattle.pvd_type.specs.Numbers.{numbered, numbered_fields}
use Rattle.pvd_type.proofs.Sizes.{some_number}
use Rattle.pvd_value.specs.Data.{Data, members, Row, more}
use Rattle.pvd_value.specs.Fits.{fits_of, row_fits}
use Rattle.pvd_value.specs.Leaves.{row_in, leaves_under, leaves_among}
use Rattle.pvd_value.specs.Merge.{merged, merged_row}
use Rattle.pvd_value.proofs.Slots.{row_of_struct}

-- none of so many numbers from n on passes
abbrev pub Misses : (ℕ → Bool) → ℕ → ℕ → Type 0
Misses mask n count = (k : ℕ) → n ≤ k → k < n + count → mask k ≡ false

pub struct_whole : (left : ℕ) (v : Data) (id : List ℕ) (fs : Fields) → fits_of left v (node struct id fs) ≡ true → members (row_in v) ≡ v
struct_whole left (members vs) id fs h = refl
struct_whole left _ id fs h = absurd (false≢true h)

keeps_leaf : (mask : ℕ → Bool) (n : ℕ) (a b : Data) → Misses mask n 1 → cond (mask n) b a ≡ a
keeps_leaf mask n a b none = ap (λ (m : Bool). cond m b a) (none n (omega arith) (omega arith))

mutual
  pub merged_none : (left : ℕ) (mask : ℕ → Bool) (n : ℕ) (t : Tree) (a b : Data) → fits_of left a t ≡ true → fits_of left b t ≡ true → Misses mask n (length (numbered t)) → merged mask n t a b ≡ a
  merged_none left mask n (leaf l) a b h g none = keeps_leaf mask n a b none
  merged_none left mask n (node struct id fs) a b h g none =
      ap members (merged_row_none left mask (n + 1) fs (row_in a) (row_in b) (row_of_struct left a id fs h) (row_of_struct left b id fs g) (λ k from to. none k (omega (arith, from)) (omega (arith, to))))
      ∙ struct_whole left a id fs h
  merged_none left mask n (node union id fs) a b h g none = keeps_leaf mask n a b none
  merged_none left mask n (node struct_list id fs) a b h g none = keeps_leaf mask n a b none
  merged_none left mask n (node union_list id fs) a b h g none = keeps_leaf mask n a b none

  merged_row_none : (left : ℕ) (mask : ℕ → Bool) (n : ℕ) (fs : Fields) (a b : Row) → row_fits left a fs ≡ true → row_fits left b fs ≡ true → Misses mask n (length (numbered_fields fs)) → merged_row mask n fs a b ≡ a
  merged_row_none left mask n no_fields a b h g none = refl
  merged_row_none left mask n (field name t fs) (more x a) (more y b) h g none =
      let p = both (fits_of left x t) (row_fits left a fs) h in
      let q = both (fits_of left y t) (row_fits left b fs) g in
      let len = length-append (numbered t) (numbered_fields fs) in
      (λ i. more (merged_none left mask n t x y p.0 q.0 (λ k from to. none k from (omega (arith, to, len))) i)
      (merged_row_none left mask (n + length (numbered t)) fs a b p.1 q.1 (λ k from to. none k (omega (arith, from)) (omega (arith, to, len))) i))
  merged_row_none left mask n (field name t fs) (more x a) _ h g none = absurd (false≢true g)
  merged_row_none left mask n (field name t fs) _ b h g none = absurd (false≢true h)

-- nothing is marked at or below a node of none of whose numbers a set has any
mutual
  pub under_none : (marked : ℕ → Bool) (inside : Bool) (n : ℕ) (t : Tree) → (inside || marked n) ≡ false → Misses marked n (length (numbered t)) → leaves_under marked inside n t ≡ []
  under_none marked inside n (leaf l) h none = rw h refl
  under_none marked inside n (node struct id fs) h none = rw h (among_none marked (n + 1) fs (λ k from to. none k (omega (arith, from)) (omega (arith, to))))
  under_none marked inside n (node union id fs) h none = rw h refl
  under_none marked inside n (node struct_list id fs) h none = rw h refl
  under_none marked inside n (node union_list id fs) h none = rw h refl

  among_none : (marked : ℕ → Bool) (n : ℕ) (fs : Fields) → Misses marked n (length (numbered_fields fs)) → leaves_among marked false n fs ≡ []
  among_none marked n no_fields none = refl
  among_none marked n (field name t fs) none =
      let len = length-append (numbered t) (numbered_fields fs) in
      let first = under_none marked false n t (none n (omega arith) (omega (arith, len, some_number t))) (λ k from to. none k from (omega (arith, to, len))) in
      let rest = among_none marked (n + length (numbered t)) fs (λ k from to. none k (omega (arith, from)) (omega (arith, to, len))) in
      (λ i. first i ++ rest i)
