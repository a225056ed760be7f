-- Merges of values whose nodes are numbered from any number on.
use Rattle.std.proofs.Common.{◌≡◌, ℕ, suc, ◌+◌, ◌<◌, ◌≤◌, Bool, true, false, cond, List, length, refl, sym, ap, ◌∙◌, arith}
use Rattle.std.proofs.lemmas.Bool.{false≢true}
use Rattle.std.proofs.lemmas.List.{length-append}
use Rattle.pvd_type.specs.SameLaws.{both}
use Rattle.pvd_type.specs.Tree.{Tree, leaf, node, struct, union, struct_list, union_list, Fields, no_fields, field}
use Rattle.pvd_type.specs.Numbers.{numbered, numbered_fields}
use Rattle.pvd_value.specs.Data.{Data, members, Row, more}
use Rattle.pvd_value.specs.Fits.{fits_of, row_fits}
use Rattle.pvd_value.specs.Leaves.{row_in}
use Rattle.pvd_value.specs.Merge.{merged, merged_row}
use Rattle.pvd_value.proofs.Slots.{row_of_struct}
use Rattle.pvd_value.proofs.Unmarked.{Misses, struct_whole}

-- ---- where no number is in the mask, the old value stays

stays : (mask : ℕ → Bool) (n : ℕ) (a b : Data) → Misses mask n 1 → cond (mask n) b a ≡ a
stays mask n a b none = ap (λ (m : Bool). cond m b a) (none n (omega arith) (omega arith))

module _ (mask : ℕ → Bool) where
  mutual
    pub unmarked : (n : ℕ) (t : Tree) (a b : Data) → fits_of 16 a t ≡ true → Misses mask n (length (numbered t)) → merged mask n t a b ≡ a
    unmarked n (leaf l) a b h none = stays mask n a b none
    unmarked n (node struct id fs) a b h none =
        ap members (unmarked_row (n + 1) fs (row_in a) (row_in b) (row_of_struct 16 a id fs h) (λ k from to. none k (omega (arith, from)) (omega (arith, to))))
        ∙ struct_whole 16 a id fs h
    unmarked n (node union id fs) a b h none = stays mask n a b none
    unmarked n (node struct_list id fs) a b h none = stays mask n a b none
    unmarked n (node union_list id fs) a b h none = stays mask n a b none

    pub unmarked_row : (n : ℕ) (fs : Fields) (a b : Row) → row_fits 16 a fs ≡ true → Misses mask n (length (numbered_fields fs)) → merged_row mask n fs a b ≡ a
    unmarked_row n no_fields a b h none = refl
    unmarked_row n (field name t fs) (more x a) (more y b) h none =
        let p = both (fits_of 16 x t) (row_fits 16 a fs) h in
        let len = length-append (numbered t) (numbered_fields fs) in
        (λ i. more (unmarked n t x y p.0 (λ k from to. none k from (omega (arith, to, len))) i)
        (unmarked_row (n + length (numbered t)) fs a b p.1 (λ k from to. none k (omega (arith, from)) (omega (arith, to, len))) i))
    unmarked_row n (field name t fs) (more x a) _ h none = refl
    unmarked_row n (field name t fs) _ b h none = absurd (false≢true h)

-- ---- what is taken from a value twice

either_same : (m : Bool) (a : Data) → cond m a a ≡ a
either_same true a = refl
either_same false a = refl

either_again : (m : Bool) (a b : Data) → cond m (cond m b a) a ≡ cond m b a
either_again true a b = refl
either_again false a b = refl

module _ (mask : ℕ → Bool) where
  mutual
    -- a value with leaves of its own
    pub merged_same : (n : ℕ) (t : Tree) (a : Data) → fits_of 16 a t ≡ true → merged mask n t a a ≡ a
    merged_same n (leaf l) a h = either_same (mask n) a
    merged_same n (node struct id fs) a h = ap members (merged_row_same (n + 1) fs (row_in a) (row_of_struct 16 a id fs h)) ∙ struct_whole 16 a id fs h
    merged_same n (node union id fs) a h = either_same (mask n) a
    merged_same n (node struct_list id fs) a h = either_same (mask n) a
    merged_same n (node union_list id fs) a h = either_same (mask n) a

    pub merged_row_same : (n : ℕ) (fs : Fields) (a : Row) → row_fits 16 a fs ≡ true → merged_row mask n fs a a ≡ a
    merged_row_same n no_fields a h = refl
    merged_row_same n (field name t fs) (more x a) h =
        let p = both (fits_of 16 x t) (row_fits 16 a fs) h in
        (λ i. more (merged_same n t x p.0 i) (merged_row_same (n + length (numbered t)) fs a p.1 i))
    merged_row_same n (field name t fs) _ h = absurd (false≢true h)

  mutual
    -- what was taken is taken again
    pub merged_again : (n : ℕ) (t : Tree) (a b : Data) → fits_of 16 a t ≡ true → fits_of 16 b t ≡ true → merged mask n t a (merged mask n t a b) ≡ merged mask n t a b
    merged_again n (leaf l) a b h g = either_again (mask n) a b
    merged_again n (node struct id fs) a b h g = ap members (merged_row_again (n + 1) fs (row_in a) (row_in b) (row_of_struct 16 a id fs h) (row_of_struct 16 b id fs g))
    merged_again n (node union id fs) a b h g = either_again (mask n) a b
    merged_again n (node struct_list id fs) a b h g = either_again (mask n) a b
    merged_again n (node union_list id fs) a b h g = either_again (mask n) a b

    merged_row_again : (n : ℕ) (fs : Fields) (a b : Row) → row_fits 16 a fs ≡ true → row_fits 16 b fs ≡ true
        → merged_row mask n fs a (merged_row mask n fs a b) ≡ merged_row mask n fs a b
    merged_row_again n no_fields a b h g = refl
    merged_row_again n (field name t fs) (more x a) (more y b) h g =
        let p = both (fits_of 16 x t) (row_fits 16 a fs) h in
        let q = both (fits_of 16 y t) (row_fits 16 b fs) g in
        (λ i. more (merged_again n t x y p.0 q.0 i) (merged_row_again (n + length (numbered t)) fs a b p.1 q.1 i))
    merged_row_again n (field name t fs) (more x a) _ h g = absurd (false≢true g)
    merged_row_again n (field name t fs) _ b h g = absurd (false≢true h)

-- ---- numbers that are counted from elsewhere

-- two masks have the same numbers among so many, each from a start of its own
abbrev pub AreAlike : (ℕ → Bool) → ℕ → (ℕ → Bool) → ℕ → ℕ → Type 0
AreAlike f n g m count = (k : ℕ) → k < count → f (n + k) ≡ g (m + k)

one_alike : (f : ℕ → Bool) (n : ℕ) (g : ℕ → Bool) (m : ℕ) (a b : Data) → AreAlike f n g m 1 → cond (f n) b a ≡ cond (g m) b a
one_alike f n g m a b same =
    let zero_n : n ≡ n + 0 = omega arith in
    let zero_m : m + 0 ≡ m = omega arith in
    ap (λ (c : Bool). cond c b a) (ap f zero_n ∙ same 0 (omega arith) ∙ ap g zero_m)

module _ (f g : ℕ → Bool) where
  moved : (n m d count rest : ℕ) → d + rest ≤ count → AreAlike f n g m count → AreAlike f (n + d) g (m + d) rest
  moved n m d count rest within same k lt =
      let left : (n + d) + k ≡ n + (d + k) = omega arith in
      let right : m + (d + k) ≡ (m + d) + k = omega arith in
      ap f left ∙ same (d + k) (omega (arith, lt, within)) ∙ ap g right

  fewer : (n m count rest : ℕ) → rest ≤ count → AreAlike f n g m count → AreAlike f n g m rest
  fewer n m count rest within same k lt = same k (omega (arith, lt, within))

  mutual
    pub alike : (n m : ℕ) (t : Tree) (a b : Data) → AreAlike f n g m (length (numbered t)) → merged f n t a b ≡ merged g m t a b
    alike n m (leaf l) a b same = one_alike f n g m a b same
    alike n m (node struct id fs) a b same = ap members (row_alike (n + 1) (m + 1) fs (row_in a) (row_in b) (moved n m 1 _ _ (omega arith) same))
    alike n m (node union id fs) a b same = one_alike f n g m a b same
    alike n m (node struct_list id fs) a b same = one_alike f n g m a b same
    alike n m (node union_list id fs) a b same = one_alike f n g m a b same

    row_alike : (n m : ℕ) (fs : Fields) (a b : Row) → AreAlike f n g m (length (numbered_fields fs)) → merged_row f n fs a b ≡ merged_row g m fs a b
    row_alike n m (field name t fs) (more x a) (more y b) same =
        let len = length-append (numbered t) (numbered_fields fs) in
        (λ i. more (alike n m t x y (fewer n m _ _ (omega (arith, len)) same) i)
        (row_alike (n + length (numbered t)) (m + length (numbered t)) fs a b (moved n m (length (numbered t)) _ _ (omega (arith, len)) same) i))
    row_alike n m _ _ _ same = refl
