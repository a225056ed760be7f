-- The leaves of values that fit.
use Rattle.std.proofs.Common.{◌≡◌, ℕ, zero, suc, ◌+◌, ◌-◌, ◌<◌, Bool, true, false, cond, ◌||◌, List, [], ◌∷◌, ◌++◌, length, map, Option, Some, None, refl, sym, ap, ◌∙◌, arith, add-zero}
use Rattle.std.specs.Prelude.{slice_get, is_some, unwrap_or}
use Rattle.std.proofs.lemmas.List.{map-append, length-map}
use Rattle.std.proofs.lemmas.Bool.{false≢true}
use Rattle.pvd_type.specs.SameLaws.{both, and_true}
use Rattle.pvd_type.specs.Tree.{Tree, leaf, node, struct, union, struct_list, union_list, Fields, no_fields, field}
use Rattle.pvd_type.specs.Numbers.{numbered, numbered_fields, is_leaf}
use Rattle.pvd_type.proofs.Leaves.{leaf_flag}
use Rattle.pvd_value.specs.Data.{Data, members, Row, end, more}
use Rattle.pvd_value.specs.Fits.{fits_of, row_fits}
use Rattle.pvd_value.specs.Leaves.{row_in, slots, row_slots, known, leaf_at, leaves_under}
use Rattle.pvd_value.specs.Merge.{merged, merged_row}
use Rattle.pvd_value.specs.Same.{same_slot, differing}

-- Of a leaf: it alone stands under its number.
module _ (t : Tree) (v : Data) where
  pub lone_slot : is_leaf t ≡ true → slots t v ≡ Some v ∷ []
  lone_slot h = by t h
    where
      by : (t : Tree) → is_leaf t ≡ true → slots t v ≡ Some v ∷ []
      by (leaf l) h = refl
      by (node struct id fs) h = absurd cc
      by (node union id fs) h = refl
      by (node struct_list id fs) h = refl
      by (node union_list id fs) h = refl

  pub leaf_here : (n : ℕ) → n ≡ 0 → is_leaf t ≡ true → Some v ≡ leaf_at n t v
  leaf_here n e h = rw e (ap (λ xs. known (slice_get xs 0)) (sym (lone_slot h)))

  pub leaf_past : (n : ℕ) → (n ≡ 0 → ⊥) → is_leaf t ≡ true → None ≡ leaf_at n t v
  leaf_past zero other h = absurd (other refl)
  leaf_past (suc n) other h = ap (λ xs. known (slice_get xs (suc n))) (sym (lone_slot h))

pub lone_under : (marked : ℕ → Bool) (inside : Bool) (n : ℕ) (t : Tree) → is_leaf t ≡ true → leaves_under marked inside n t ≡ cond (inside || marked n) (n ∷ []) []
lone_under marked inside n (leaf l) h = refl
lone_under marked inside n (node struct id fs) h = absurd cc
lone_under marked inside n (node union id fs) h = refl
lone_under marked inside n (node struct_list id fs) h = refl
lone_under marked inside n (node union_list id fs) h = refl

pub lone_merged : (mask : ℕ → Bool) (n : ℕ) (t : Tree) (a b : Data) → is_leaf t ≡ true → merged mask n t a b ≡ cond (mask n) b a
lone_merged mask n (leaf l) a b h = refl
lone_merged mask n (node struct id fs) a b h = absurd cc
lone_merged mask n (node union id fs) a b h = refl
lone_merged mask n (node struct_list id fs) a b h = refl
lone_merged mask n (node union_list id fs) a b h = refl

-- a value that fits a structure is the row of its members' values
pub row_of_struct : (left : ℕ) (v : Data) (id : List ℕ) (fs : Fields) → fits_of left v (node struct id fs) ≡ true → row_fits left (row_in v) fs ≡ true
row_of_struct left (members vs) id fs h = h
row_of_struct left _ id fs h = absurd (false≢true h)

mutual
  -- there is something just under the leaves' numbers
  flags : (left : ℕ) (v : Data) (t : Tree) → fits_of left v t ≡ true → map is_some (slots t v) ≡ map is_leaf (numbered t)
  flags left v (leaf l) h = refl
  flags left v (node struct id fs) h = ap (λ bs. false ∷ bs) (row_flags left (row_in v) fs (row_of_struct left v id fs h))
  flags left v (node union id fs) h = refl
  flags left v (node struct_list id fs) h = refl
  flags left v (node union_list id fs) h = refl

  row_flags : (left : ℕ) (vs : Row) (fs : Fields) → row_fits left vs fs ≡ true → map is_some (row_slots fs vs) ≡ map is_leaf (numbered_fields fs)
  row_flags left end no_fields h = refl
  row_flags left (more v vs) (field name t fs) h =
      let p = both (fits_of left v t) (row_fits left vs fs) h in
      map-append is_some (slots t v) (row_slots fs vs) ∙ (λ i. flags left v t p.0 i ++ row_flags left vs fs p.1 i) ∙ sym (map-append is_leaf (numbered t) (numbered_fields fs))
  row_flags left _ _ h = absurd (false≢true h)

pub slots_length : (left : ℕ) (v : Data) (t : Tree) → fits_of left v t ≡ true → length (slots t v) ≡ length (numbered t)
slots_length left v t h = sym (length-map (slots t v) is_some) ∙ ap length (flags left v t h) ∙ length-map (numbered t) is_leaf

pub row_slots_length : (left : ℕ) (vs : Row) (fs : Fields) → row_fits left vs fs ≡ true → length (row_slots fs vs) ≡ length (numbered_fields fs)
row_slots_length left vs fs h = sym (length-map (row_slots fs vs) is_some) ∙ ap length (row_flags left vs fs h) ∙ length-map (numbered_fields fs) is_leaf

flag_known : (xs : List (Option Data)) (k : ℕ) → is_some (known (slice_get xs k)) ≡ unwrap_or (slice_get (map is_some xs) k) false
flag_known [] k = refl
flag_known (None ∷ xs) zero = refl
flag_known (Some x ∷ xs) zero = refl
flag_known (x ∷ xs) (suc k) = flag_known xs k

-- a value has a leaf just under the numbers of its type's leaves
pub leaf_known : (left : ℕ) (v : Data) (t : Tree) (k : ℕ) → fits_of left v t ≡ true → is_some (leaf_at k t v) ≡ leaf_flag (numbered t) k
leaf_known left v t k h = flag_known (slots t v) k ∙ ap (λ bs. unwrap_or (slice_get bs k) false) (flags left v t h)

-- what stands below a structure has the numbers after the structure's own
pub below : (n : ℕ) (xs : List (Option Data)) → 0 < n → known (slice_get xs (n - 1)) ≡ known (slice_get (None ∷ xs) n)
below zero xs h = absurd (omega arith)
below (suc n) xs h = let e : suc n - 1 ≡ n = omega arith in ap (λ k. known (slice_get xs k)) e

-- the slots of b under the numbers in a mask, from n on, and those of a elsewhere
abbrev pub chosen : (ℕ → Bool) → ℕ → List (Option Data) → List (Option Data) → List (Option Data)
chosen mask n (x ∷ xs) (y ∷ ys) = cond (mask n) y x ∷ chosen mask (n + 1) xs ys
chosen mask n _ _ = []

chosen-append : (mask : ℕ → Bool) (n : ℕ) (xs ys us vs : List (Option Data)) → length xs ≡ length ys → chosen mask n (xs ++ us) (ys ++ vs) ≡ chosen mask n xs ys ++ chosen mask (n + length xs) us vs
chosen-append mask n [] [] us vs h = ap (λ k. chosen mask k us vs) (sym (add-zero n))
chosen-append mask n [] (y ∷ ys) us vs h = absurd cc
chosen-append mask n (x ∷ xs) [] us vs h = absurd cc
chosen-append mask n (x ∷ xs) (y ∷ ys) us vs h =
    let e : (n + 1) + length xs ≡ n + suc (length xs) = omega arith in
    ap (λ zs. cond (mask n) y x ∷ zs) (chosen-append mask (n + 1) xs ys us vs (omega arith) ∙ ap (λ k. chosen mask (n + 1) xs ys ++ chosen mask k us vs) e)

both_same : (b : Bool) (x : Option Data) → x ≡ cond b x x
both_same true x = refl
both_same false x = refl

chosen_at : (mask : ℕ → Bool) (n k : ℕ) (xs ys : List (Option Data)) → length xs ≡ length ys
    → known (slice_get (chosen mask n xs ys) k) ≡ cond (mask (n + k)) (known (slice_get ys k)) (known (slice_get xs k))
chosen_at mask n k [] [] h = both_same (mask (n + k)) None
chosen_at mask n k [] (y ∷ ys) h = absurd cc
chosen_at mask n k (x ∷ xs) [] h = absurd cc
chosen_at mask n zero (x ∷ xs) (y ∷ ys) h =
    let e : n ≡ n + 0 = omega arith in
    elim (mask n) as (λ b. cond b y x ≡ cond b y x) [ true ↦ refl | false ↦ refl ] ∙ ap (λ m. cond (mask m) y x) e
chosen_at mask n (suc k) (x ∷ xs) (y ∷ ys) h =
    let e : (n + 1) + k ≡ n + suc k = omega arith in
    chosen_at mask (n + 1) k xs ys (omega arith) ∙ ap (λ m. cond (mask m) (known (slice_get ys k)) (known (slice_get xs k))) e

one_slot : (b : Bool) (x y : Data) → Some (cond b y x) ∷ [] ≡ cond b (Some y) (Some x) ∷ []
one_slot true x y = refl
one_slot false x y = refl

mutual
  -- a merge has the slots that the mask chooses
  merged_slots : (left : ℕ) (mask : ℕ → Bool) (n : ℕ) (t : Tree) (a b : Data) → fits_of left a t ≡ true → fits_of left b t ≡ true
      → slots t (merged mask n t a b) ≡ chosen mask n (slots t a) (slots t b)
  merged_slots left mask n (leaf l) a b h g = one_slot (mask n) a b
  merged_slots left mask n (node struct id fs) a b h g =
      λ i. both_same (mask n) None i ∷ merged_row_slots left mask (n + 1) fs (row_in a) (row_in b) (row_of_struct left a id fs h) (row_of_struct left b id fs g) i
  merged_slots left mask n (node union id fs) a b h g = one_slot (mask n) a b
  merged_slots left mask n (node struct_list id fs) a b h g = one_slot (mask n) a b
  merged_slots left mask n (node union_list id fs) a b h g = one_slot (mask n) a b

  merged_row_slots : (left : ℕ) (mask : ℕ → Bool) (n : ℕ) (fs : Fields) (a b : Row) → row_fits left a fs ≡ true → row_fits left b fs ≡ true
      → row_slots fs (merged_row mask n fs a b) ≡ chosen mask n (row_slots fs a) (row_slots fs b)
  merged_row_slots left mask n no_fields a b h g = refl
  merged_row_slots left mask n (field name t fs) (more x a) (more y b) h g =
      let p = both (fits_of left x t) (row_fits left a fs) h in
      let q = both (fits_of left y t) (row_fits left b fs) g in
      let len = slots_length left x t p.0 in
      let long : length (slots t x) ≡ length (slots t y) = len ∙ sym (slots_length left y t q.0) in
      (λ i. merged_slots left mask n t x y p.0 q.0 i ++ merged_row_slots left mask (n + length (numbered t)) fs a b p.1 q.1 i)
      ∙ ap (λ k. chosen mask n (slots t x) (slots t y) ++ chosen mask (n + k) (row_slots fs a) (row_slots fs b)) (sym len)
      ∙ sym (chosen-append mask n (slots t x) (slots t y) (row_slots fs a) (row_slots fs b) long)
  merged_row_slots left mask n (field name t fs) (more x a) _ h g = absurd (false≢true g)
  merged_row_slots left mask n (field name t fs) _ b h g = absurd (false≢true h)

-- under each number a merge has the leaf of b where the mask has the number, and else that of a
pub merged_leaf : (left : ℕ) (mask : ℕ → Bool) (t : Tree) (a b : Data) (k : ℕ) → fits_of left a t ≡ true → fits_of left b t ≡ true
    → leaf_at k t (merged mask 0 t a b) ≡ cond (mask k) (leaf_at k t b) (leaf_at k t a)
merged_leaf left mask t a b k h g =
    let e : 0 + k ≡ k = omega arith in
    ap (λ xs. known (slice_get xs k)) (merged_slots left mask 0 t a b h g)
    ∙ chosen_at mask 0 k (slots t a) (slots t b) (slots_length left a t h ∙ sym (slots_length left b t g))
    ∙ ap (λ m. cond (mask m) (leaf_at k t b) (leaf_at k t a)) e

one_of : (left : ℕ) (c : Bool) (t : Tree) (a b : Data) → fits_of left a t ≡ true → fits_of left b t ≡ true → fits_of left (cond c b a) t ≡ true
one_of left true t a b h g = g
one_of left false t a b h g = h

mutual
  -- a merge of values that fit fits
  pub merged_fits : (left : ℕ) (mask : ℕ → Bool) (n : ℕ) (t : Tree) (a b : Data) → fits_of left a t ≡ true → fits_of left b t ≡ true → fits_of left (merged mask n t a b) t ≡ true
  merged_fits left mask n (leaf l) a b h g = one_of left (mask n) (leaf l) a b h g
  merged_fits left mask n (node struct id fs) a b h g =
      merged_row_fits left mask (n + 1) fs (row_in a) (row_in b) (row_of_struct left a id fs h) (row_of_struct left b id fs g)
  merged_fits left mask n (node union id fs) a b h g = one_of left (mask n) (node union id fs) a b h g
  merged_fits left mask n (node struct_list id fs) a b h g = one_of left (mask n) (node struct_list id fs) a b h g
  merged_fits left mask n (node union_list id fs) a b h g = one_of left (mask n) (node union_list id fs) a b h g

  merged_row_fits : (left : ℕ) (mask : ℕ → Bool) (n : ℕ) (fs : Fields) (a b : Row) → row_fits left a fs ≡ true → row_fits left b fs ≡ true → row_fits left (merged_row mask n fs a b) fs ≡ true
  merged_row_fits left mask n no_fields a b h g = h
  merged_row_fits left mask n (field name t fs) (more x a) (more y b) h g =
      let p = both (fits_of left x t) (row_fits left a fs) h in
      let q = both (fits_of left y t) (row_fits left b fs) g in
      and_true (fits_of left (merged mask n t x y) t) (row_fits left (merged_row mask (n + length (numbered t)) fs a b) fs)
      (merged_fits left mask n t x y p.0 q.0) (merged_row_fits left mask (n + length (numbered t)) fs a b p.1 q.1)
  merged_row_fits left mask n (field name t fs) (more x a) _ h g = absurd (false≢true g)
  merged_row_fits left mask n (field name t fs) _ b h g = absurd (false≢true h)

-- differences are found one list after another
pub differing-append : (n : ℕ) (xs ys us vs : List (Option Data)) → length xs ≡ length ys → differing n (xs ++ us) (ys ++ vs) ≡ differing n xs ys ++ differing (n + length xs) us vs
differing-append n [] [] us vs h = ap (λ k. differing k us vs) (sym (add-zero n))
differing-append n [] (y ∷ ys) us vs h = absurd cc
differing-append n (x ∷ xs) [] us vs h = absurd cc
differing-append n (x ∷ xs) (y ∷ ys) us vs h =
    let e : (n + 1) + length xs ≡ n + suc (length xs) = omega arith in
    step (same_slot x y) (differing-append (n + 1) xs ys us vs (omega arith) ∙ ap (λ k. differing (n + 1) xs ys ++ differing k us vs) e)
  where
    step : (b : Bool) → differing (n + 1) (xs ++ us) (ys ++ vs) ≡ differing (n + 1) xs ys ++ differing (n + suc (length xs)) us vs
        → cond b (differing (n + 1) (xs ++ us) (ys ++ vs)) (n ∷ differing (n + 1) (xs ++ us) (ys ++ vs)) ≡ cond b (differing (n + 1) xs ys) (n ∷ differing (n + 1) xs ys) ++ differing (n + suc (length xs)) us vs
    step true e = e
    step false e = ap (λ zs. n ∷ zs) e
