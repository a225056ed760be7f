-- Leaves that are picked from one value and placed in another.
use Rattle.std.proofs.Common.{◌≡◌, ℕ, ◌+◌, Bool, true, false, cond, List, [], ◌∷◌, ◌++◌, length, drop, refl, sym, ap, ◌∙◌, arith, append_assoc}
use Rattle.std.proofs.lemmas.Bool.{false≢true}
use Rattle.std.proofs.lemmas.List.{length-append, append-nil}
use Rattle.pvd_type.specs.SameLaws.{both}
use Rattle.pvd_type.specs.Tree.{Tree, leaf, node, struct, union, struct_list, union_list, Fields, no_fields, field}
use Rattle.pvd_type.specs.Numbers.{numbered, numbered_fields, is_leaf}
use Rattle.pvd_value.specs.Data.{Data, members, Row, more}
use Rattle.pvd_value.specs.Fits.{fits_of, row_fits}
use Rattle.pvd_value.specs.Leaves.{row_in}
use Rattle.pvd_value.specs.Merge.{merged, merged_row, picked, picked_row, first_or, left_by, left_by_row, placed, placed_row}
use Rattle.pvd_value.proofs.Slots.{row_of_struct}
use Rattle.pvd_value.proofs.Unmarked.{Misses, struct_whole}

-- Of a leaf: it alone is picked, placed and taken.
module _ (mask : ℕ → Bool) (n : ℕ) where
  pub lone_picked : (t : Tree) (b : Data) → is_leaf t ≡ true → picked mask n t b ≡ cond (mask n) (b ∷ []) []
  lone_picked (leaf l) b h = refl
  lone_picked (node struct id fs) b h = absurd cc
  lone_picked (node union id fs) b h = refl
  lone_picked (node struct_list id fs) b h = refl
  lone_picked (node union_list id fs) b h = refl

  pub lone_placed : (t : Tree) (a : Data) (ds : List Data) → is_leaf t ≡ true → placed mask n t a ds ≡ cond (mask n) (first_or a ds) a
  lone_placed (leaf l) a ds h = refl
  lone_placed (node struct id fs) a ds h = absurd cc
  lone_placed (node union id fs) a ds h = refl
  lone_placed (node struct_list id fs) a ds h = refl
  lone_placed (node union_list id fs) a ds h = refl

  pub lone_left : (t : Tree) (ds : List Data) → is_leaf t ≡ true → left_by mask n t ds ≡ cond (mask n) (drop 1 ds) ds
  lone_left (leaf l) ds h = refl
  lone_left (node struct id fs) ds h = absurd cc
  lone_left (node union id fs) ds h = refl
  lone_left (node struct_list id fs) ds h = refl
  lone_left (node union_list id fs) ds h = refl

unmarked : {A : Type 0} (mask : ℕ → Bool) (n : ℕ) (x y : A) → Misses mask n 1 → cond (mask n) x y ≡ y
unmarked mask n x y none = ap (λ (m : Bool). cond m x y) (none n (omega arith) (omega arith))

-- where no number is marked nothing is picked
mutual
  pub picked_none : (mask : ℕ → Bool) (n : ℕ) (t : Tree) (b : Data) → Misses mask n (length (numbered t)) → picked mask n t b ≡ []
  picked_none mask n (leaf l) b none = unmarked mask n (b ∷ []) [] none
  picked_none mask n (node struct id fs) b none =
      picked_row_none mask (n + 1) fs (row_in b) (λ k from to. none k (omega (arith, from)) (omega (arith, to)))
  picked_none mask n (node union id fs) b none = unmarked mask n (b ∷ []) [] none
  picked_none mask n (node struct_list id fs) b none = unmarked mask n (b ∷ []) [] none
  picked_none mask n (node union_list id fs) b none = unmarked mask n (b ∷ []) [] none

  picked_row_none : (mask : ℕ → Bool) (n : ℕ) (fs : Fields) (b : Row) → Misses mask n (length (numbered_fields fs)) → picked_row mask n fs b ≡ []
  picked_row_none mask n (field name t fs) (more y b) none =
      let len = length-append (numbered t) (numbered_fields fs) in
      (λ i. picked_none mask n t y (λ k from to. none k from (omega (arith, to, len))) i
      ++ picked_row_none mask (n + length (numbered t)) fs b (λ k from to. none k (omega (arith, from)) (omega (arith, to, len))) i)
  picked_row_none mask n _ b none = refl

-- nor taken
mutual
  pub left_none : (mask : ℕ → Bool) (n : ℕ) (t : Tree) (ds : List Data) → Misses mask n (length (numbered t)) → left_by mask n t ds ≡ ds
  left_none mask n (leaf l) ds none = unmarked mask n (drop 1 ds) ds none
  left_none mask n (node struct id fs) ds none =
      left_row_none mask (n + 1) fs ds (λ k from to. none k (omega (arith, from)) (omega (arith, to)))
  left_none mask n (node union id fs) ds none = unmarked mask n (drop 1 ds) ds none
  left_none mask n (node struct_list id fs) ds none = unmarked mask n (drop 1 ds) ds none
  left_none mask n (node union_list id fs) ds none = unmarked mask n (drop 1 ds) ds none

  left_row_none : (mask : ℕ → Bool) (n : ℕ) (fs : Fields) (ds : List Data) → Misses mask n (length (numbered_fields fs)) → left_by_row mask n fs ds ≡ ds
  left_row_none mask n no_fields ds none = refl
  left_row_none mask n (field name t fs) ds none =
      let len = length-append (numbered t) (numbered_fields fs) in
      ap (left_by_row mask (n + length (numbered t)) fs) (left_none mask n t ds (λ k from to. none k from (omega (arith, to, len))))
      ∙ left_row_none mask (n + length (numbered t)) fs ds (λ k from to. none k (omega (arith, from)) (omega (arith, to, len)))

-- and a value stays as it is
mutual
  pub placed_none : (left : ℕ) (mask : ℕ → Bool) (n : ℕ) (t : Tree) (a : Data) (ds : List Data) → fits_of left a t ≡ true → Misses mask n (length (numbered t)) → placed mask n t a ds ≡ a
  placed_none left mask n (leaf l) a ds h none = unmarked mask n (first_or a ds) a none
  placed_none left mask n (node struct id fs) a ds h none =
      ap members (placed_row_none left mask (n + 1) fs (row_in a) ds (row_of_struct left a id fs h) (λ k from to. none k (omega (arith, from)) (omega (arith, to))))
      ∙ struct_whole left a id fs h
  placed_none left mask n (node union id fs) a ds h none = unmarked mask n (first_or a ds) a none
  placed_none left mask n (node struct_list id fs) a ds h none = unmarked mask n (first_or a ds) a none
  placed_none left mask n (node union_list id fs) a ds h none = unmarked mask n (first_or a ds) a none

  placed_row_none : (left : ℕ) (mask : ℕ → Bool) (n : ℕ) (fs : Fields) (a : Row) (ds : List Data) → row_fits left a fs ≡ true → Misses mask n (length (numbered_fields fs)) → placed_row mask n fs a ds ≡ a
  placed_row_none left mask n no_fields a ds h none = refl
  placed_row_none left mask n (field name t fs) (more x a) ds h none =
      let p = both (fits_of left x t) (row_fits left a fs) h in
      let len = length-append (numbered t) (numbered_fields fs) in
      (λ i. more (placed_none left mask n t x ds p.0 (λ k from to. none k from (omega (arith, to, len))) i)
      (placed_row_none left mask (n + length (numbered t)) fs a (left_by mask n t ds) p.1 (λ k from to. none k (omega (arith, from)) (omega (arith, to, len))) i))
  placed_row_none left mask n (field name t fs) _ ds h none = absurd (false≢true h)

took : (m : Bool) (b : Data) (rest : List Data) → cond m (drop 1 (cond m (b ∷ []) [] ++ rest)) (cond m (b ∷ []) [] ++ rest) ≡ rest
took true b rest = refl
took false b rest = refl

-- what was picked is taken
mutual
  pub left_picked : (left : ℕ) (mask : ℕ → Bool) (n : ℕ) (t : Tree) (b : Data) (rest : List Data) → fits_of left b t ≡ true → left_by mask n t (picked mask n t b ++ rest) ≡ rest
  left_picked left mask n (leaf l) b rest h = took (mask n) b rest
  left_picked left mask n (node struct id fs) b rest h = left_picked_row left mask (n + 1) fs (row_in b) rest (row_of_struct left b id fs h)
  left_picked left mask n (node union id fs) b rest h = took (mask n) b rest
  left_picked left mask n (node struct_list id fs) b rest h = took (mask n) b rest
  left_picked left mask n (node union_list id fs) b rest h = took (mask n) b rest

  left_picked_row : (left : ℕ) (mask : ℕ → Bool) (n : ℕ) (fs : Fields) (b : Row) (rest : List Data) → row_fits left b fs ≡ true → left_by_row mask n fs (picked_row mask n fs b ++ rest) ≡ rest
  left_picked_row left mask n no_fields b rest h = refl
  left_picked_row left mask n (field name t fs) (more y b) rest h =
      let p = both (fits_of left y t) (row_fits left b fs) h in
      let others = picked_row mask (n + length (numbered t)) fs b in
      ap (λ (ds : List Data). left_by_row mask (n + length (numbered t)) fs (left_by mask n t ds)) (append_assoc (picked mask n t y) others rest)
      ∙ ap (left_by_row mask (n + length (numbered t)) fs) (left_picked left mask n t y (others ++ rest) p.0)
      ∙ left_picked_row left mask (n + length (numbered t)) fs b rest p.1
  left_picked_row left mask n (field name t fs) _ rest h = absurd (false≢true h)

put : (m : Bool) (a b : Data) (rest : List Data) → cond m (first_or a (cond m (b ∷ []) [] ++ rest)) a ≡ cond m b a
put true a b rest = refl
put false a b rest = refl

-- what was picked and placed is merged
mutual
  pub placed_picked : (left : ℕ) (mask : ℕ → Bool) (n : ℕ) (t : Tree) (a b : Data) (rest : List Data) → fits_of left a t ≡ true → fits_of left b t ≡ true
      → placed mask n t a (picked mask n t b ++ rest) ≡ merged mask n t a b
  placed_picked left mask n (leaf l) a b rest h g = put (mask n) a b rest
  placed_picked left mask n (node struct id fs) a b rest h g =
      ap members (placed_picked_row left mask (n + 1) fs (row_in a) (row_in b) rest (row_of_struct left a id fs h) (row_of_struct left b id fs g))
  placed_picked left mask n (node union id fs) a b rest h g = put (mask n) a b rest
  placed_picked left mask n (node struct_list id fs) a b rest h g = put (mask n) a b rest
  placed_picked left mask n (node union_list id fs) a b rest h g = put (mask n) a b rest

  placed_picked_row : (left : ℕ) (mask : ℕ → Bool) (n : ℕ) (fs : Fields) (a b : Row) (rest : List Data) → row_fits left a fs ≡ true → row_fits left b fs ≡ true
      → placed_row mask n fs a (picked_row mask n fs b ++ rest) ≡ merged_row mask n fs a b
  placed_picked_row left mask n no_fields a b rest h g = refl
  placed_picked_row left mask n (field name t fs) (more x a) (more y b) rest h g =
      let p = both (fits_of left x t) (row_fits left a fs) h in
      let q = both (fits_of left y t) (row_fits left b fs) g in
      let next = n + length (numbered t) in
      let others = picked_row mask next fs b in
      ap (λ (ds : List Data). more (placed mask n t x ds) (placed_row mask next fs a (left_by mask n t ds))) (append_assoc (picked mask n t y) others rest)
      ∙ (λ i. more (placed_picked left mask n t x y (others ++ rest) p.0 q.0 i) (placed_row mask next fs a (left_picked left mask n t y (others ++ rest) q.0 i)))
      ∙ ap (more (merged mask n t x y)) (placed_picked_row left mask next fs a b rest p.1 q.1)
  placed_picked_row left mask n (field name t fs) (more x a) _ rest h g = absurd (false≢true g)
  placed_picked_row left mask n (field name t fs) _ b rest h g = absurd (false≢true h)

pub whole_picked : (mask : ℕ → Bool) (t : Tree) (a b : Data) → fits_of 16 a t ≡ true → fits_of 16 b t ≡ true → placed mask 0 t a (picked mask 0 t b) ≡ merged mask 0 t a b
whole_picked mask t a b h g = ap (placed mask 0 t a) (sym (append-nil (picked mask 0 t b))) ∙ placed_picked 16 mask 0 t a b [] h g
