-- A part that is written is in the grammar.
use Rattle.std.proofs.Common.{◌≡◌, ◌∙◌, ℕ, zero, suc, ◌+◌, ◌<◌, ◌≤◌, Bool, true, false, cond, ◌&&◌, nat_cmp, List, [], ◌∷◌, ◌++◌, length, refl, sym, ap, arith, add-zero}
use Rattle.std.specs.List.{filter, list_any}
use Rattle.std.specs.Ordering.{eq_by_cmp}
use Rattle.std.specs.Cmp.{nat_cmp_total}
use Rattle.std.specs.FinSet.{FinSet, contains, contains-from_list}
use Rattle.std.proofs.lemmas.Bool.{false≢true, eqb-true}
use Rattle.std.proofs.lemmas.List.{length-append}
use Rattle.std.proofs.lemmas.List.Elements.{filter-append}
use Rattle.std.proofs.lemmas.Map.Views.{any-filter_same}
use Rattle.pva_wire.specs.declared.order.Order.{Order}
use Rattle.pva_wire.specs.Bits.{AllLow, canonical_bits}
use Rattle.pva_wire.proofs.BitsRead.{canonical_bits_spell}
use Rattle.pvd_type.specs.Tree.{Tree, leaf, node, struct, union, struct_list, union_list, Fields, no_fields, field}
use Rattle.pvd_type.specs.Numbers.{is_leaf, numbered, numbered_fields, leaves, leaves_from}
use Rattle.pvd_type.specs.SameLaws.{both}
use Rattle.pvd_type.proofs.Counts.{few_numbers}
use Rattle.pvd_type.proofs.Leaves.{leaf_flag, in_leaves}
use Rattle.pvd_type.proofs.Sets.{same, by_cmp}
use Rattle.pvd_value.specs.Data.{Data, single, many, members, unset, selected, empty, carried, structs, unions, variants, Row, end, more}
use Rattle.pvd_value.specs.Fits.{fits_of, row_fits}
use Rattle.pvd_value.specs.Blank.{blank_of, blank_row}
use Rattle.pvd_value.specs.Leaves.{leaves_under, leaves_among, marked_leaves}
use Rattle.pvd_value.specs.Merge.{merged, merged_row}
use Rattle.pvd_desc.specs.Types.{Types}
use Rattle.pvd_codec.specs.Grammar.{SpellsLeaf, SpellsMarked, SpellsMarkedRow, AllInside}
use Rattle.pvd_codec.specs.Written.{canonical_leaf, canonical_marked, canonical_marked_row, CanLeaf, CanMarked, CanMarkedRow, HoldsLeaves, WrittenIsPart}
use Rattle.pvd_codec.proofs.Spelled.{value_written}

-- a leaf of a part is spelled as the leaf that it is
pub as_leaf : (m : ℕ → Bool) (n : ℕ) (o : Order) (v : Data) (t : Tree) (before : Types) (bytes : List ℕ) (after : Types) → is_leaf t ≡ true → SpellsLeaf (m n) o v t before bytes after → SpellsMarked m n o v t before bytes after
as_leaf m n o (single x) (node struct id fs) before bytes after leaf_is h = absurd (false≢true leaf_is)
as_leaf m n o (single x) t before bytes after leaf_is h = h
as_leaf m n o (many xs) (node struct id fs) before bytes after leaf_is h = absurd (false≢true leaf_is)
as_leaf m n o (many xs) t before bytes after leaf_is h = h
as_leaf m n o (members vs) (node struct id fs) before bytes after leaf_is h = absurd (false≢true leaf_is)
as_leaf m n o (members vs) t before bytes after leaf_is h = h
as_leaf m n o unset (node struct id fs) before bytes after leaf_is h = absurd (false≢true leaf_is)
as_leaf m n o unset t before bytes after leaf_is h = h
as_leaf m n o (selected k v) (node struct id fs) before bytes after leaf_is h = absurd (false≢true leaf_is)
as_leaf m n o (selected k v) t before bytes after leaf_is h = h
as_leaf m n o empty (node struct id fs) before bytes after leaf_is h = absurd (false≢true leaf_is)
as_leaf m n o empty t before bytes after leaf_is h = h
as_leaf m n o (carried u v) (node struct id fs) before bytes after leaf_is h = absurd (false≢true leaf_is)
as_leaf m n o (carried u v) t before bytes after leaf_is h = h
as_leaf m n o (structs vs) (node struct id fs) before bytes after leaf_is h = absurd (false≢true leaf_is)
as_leaf m n o (structs vs) t before bytes after leaf_is h = h
as_leaf m n o (unions vs) (node struct id fs) before bytes after leaf_is h = absurd (false≢true leaf_is)
as_leaf m n o (unions vs) t before bytes after leaf_is h = h
as_leaf m n o (variants vs) (node struct id fs) before bytes after leaf_is h = absurd (false≢true leaf_is)
as_leaf m n o (variants vs) t before bytes after leaf_is h = h

-- a marked leaf, or a blank one
leaf_written : (o : Order) (before : Types) (b : Bool) (v : Data) (t : Tree) → fits_of 16 v t ≡ true → CanLeaf b v t → SpellsLeaf b o (cond b v (blank_of t)) t before (canonical_leaf o b v t) before
leaf_written o before true v t h can = value_written o before 16 v t h can
leaf_written o before false v t h can = (refl, refl, refl)

module _ (o : Order) (before : Types) (m : ℕ → Bool) where
  mutual
    marked_written : (n : ℕ) (v : Data) (t : Tree) → fits_of 16 v t ≡ true → CanMarked m n v t → SpellsMarked m n o (merged m n t (blank_of t) v) t before (canonical_marked o m n v t) before
    marked_written n (members vs) (node struct id fs) h can = marked_row_written (n + 1) vs fs h can
    marked_written n (single x) (leaf l) h can = as_leaf m n o (merged m n (leaf l) (blank_of (leaf l)) (single x)) (leaf l) before (canonical_marked o m n (single x) (leaf l)) before refl (leaf_written o before (m n) (single x) (leaf l) h can)
    marked_written n (many xs) (leaf l) h can = as_leaf m n o (merged m n (leaf l) (blank_of (leaf l)) (many xs)) (leaf l) before (canonical_marked o m n (many xs) (leaf l)) before refl (leaf_written o before (m n) (many xs) (leaf l) h can)
    marked_written n unset (node union id fs) h can = as_leaf m n o (merged m n (node union id fs) (blank_of (node union id fs)) unset) (node union id fs) before (canonical_marked o m n unset (node union id fs)) before refl (leaf_written o before (m n) unset (node union id fs) h can)
    marked_written n (selected k v) (node union id fs) h can = as_leaf m n o (merged m n (node union id fs) (blank_of (node union id fs)) (selected k v)) (node union id fs) before (canonical_marked o m n (selected k v) (node union id fs)) before refl (leaf_written o before (m n) (selected k v) (node union id fs) h can)
    marked_written n empty (leaf l) h can = as_leaf m n o (merged m n (leaf l) (blank_of (leaf l)) empty) (leaf l) before (canonical_marked o m n empty (leaf l)) before refl (leaf_written o before (m n) empty (leaf l) h can)
    marked_written n (carried u v) (leaf l) h can = as_leaf m n o (merged m n (leaf l) (blank_of (leaf l)) (carried u v)) (leaf l) before (canonical_marked o m n (carried u v) (leaf l)) before refl (leaf_written o before (m n) (carried u v) (leaf l) h can)
    marked_written n (structs vs) (node struct_list id fs) h can = as_leaf m n o (merged m n (node struct_list id fs) (blank_of (node struct_list id fs)) (structs vs)) (node struct_list id fs) before (canonical_marked o m n (structs vs) (node struct_list id fs)) before refl (leaf_written o before (m n) (structs vs) (node struct_list id fs) h can)
    marked_written n (unions vs) (node union_list id fs) h can = as_leaf m n o (merged m n (node union_list id fs) (blank_of (node union_list id fs)) (unions vs)) (node union_list id fs) before (canonical_marked o m n (unions vs) (node union_list id fs)) before refl (leaf_written o before (m n) (unions vs) (node union_list id fs) h can)
    marked_written n (variants vs) (leaf l) h can = as_leaf m n o (merged m n (leaf l) (blank_of (leaf l)) (variants vs)) (leaf l) before (canonical_marked o m n (variants vs) (leaf l)) before refl (leaf_written o before (m n) (variants vs) (leaf l) h can)
    marked_written n _ _ h can = absurd (false≢true h)

    marked_row_written : (n : ℕ) (vs : Row) (fs : Fields) → row_fits 16 vs fs ≡ true → CanMarkedRow m n vs fs
        → SpellsMarkedRow m n o (merged_row m n fs (blank_row fs) vs) fs before (canonical_marked_row o m n vs fs) before
    marked_row_written n end no_fields h can = (refl, refl)
    marked_row_written n (more v vs) (field name t fs) h can =
        let p = both (fits_of 16 v t) (row_fits 16 vs fs) h in (
          canonical_marked o m n v t,
          canonical_marked_row o m (n + length (numbered t)) vs fs,
          before,
          marked_written n v t p.0 can.0,
          marked_row_written (n + length (numbered t)) vs fs p.1 can.1,
          refl,
        )
    marked_row_written n _ _ h can = absurd (false≢true h)

-- whether the nodes under the marked ones of these numbers are leaves
abbrev Flagged : (ℕ → Bool) → ℕ → List Tree → Type 0
Flagged m n ts = (k : ℕ) → k < length ts → m (n + k) ≡ true → leaf_flag ts k ≡ true

flag_left : (xs ys : List Tree) (k : ℕ) → k < length xs → leaf_flag (xs ++ ys) k ≡ leaf_flag xs k
flag_left [] ys k h = absurd (omega arith)
flag_left (x ∷ xs) ys zero h = refl
flag_left (x ∷ xs) ys (suc k) h = flag_left xs ys k (omega arith)

flag_right : (xs ys : List Tree) (k : ℕ) → leaf_flag (xs ++ ys) (length xs + k) ≡ leaf_flag ys k
flag_right [] ys k = let e : 0 + k ≡ k = omega arith in ap (leaf_flag ys) e
flag_right (x ∷ xs) ys k =
    let e : suc (length xs) + k ≡ suc (length xs + k) = omega arith in
    ap (leaf_flag (x ∷ (xs ++ ys))) e ∙ flag_right xs ys k

flag_past : (ts : List Tree) (k : ℕ) → length ts ≤ k → leaf_flag ts k ≡ false
flag_past [] k h = refl
flag_past (t ∷ ts) zero h = absurd (omega arith)
flag_past (t ∷ ts) (suc k) h = flag_past ts k (omega arith)

not_true : (b : Bool) → (b ≡ true → ⊥) → b ≡ false
not_true true h = absurd (h refl)
not_true false h = refl

-- the marked ones of the first nodes, and of those after them
flagged_left : (m : ℕ → Bool) (n : ℕ) (xs ys : List Tree) → Flagged m n (xs ++ ys) → Flagged m n xs
flagged_left m n xs ys h k within marked = sym (flag_left xs ys k within) ∙ h k (omega (arith, length-append xs ys)) marked

flagged_right : (m : ℕ → Bool) (n : ℕ) (xs ys : List Tree) → Flagged m n (xs ++ ys) → Flagged m (n + length xs) ys
flagged_right m n xs ys h k within marked =
    let e : n + (length xs + k) ≡ (n + length xs) + k = omega arith in
    sym (flag_right xs ys k) ∙ h (length xs + k) (omega (arith, length-append xs ys)) (ap m e ∙ marked)

one_more : (b : Bool) (n : ℕ) (r s z : List ℕ) → r ≡ s ++ z → cond b (n ∷ r) r ≡ cond b (n ∷ s) s ++ z
one_more true n r s z e = ap (λ (xs : List ℕ). n ∷ xs) e
one_more false n r s z e = e

pub leaves_apart : (n : ℕ) (xs ys : List Tree) → leaves_from n (xs ++ ys) ≡ leaves_from n xs ++ leaves_from (n + length xs) ys
leaves_apart n [] ys = ap (λ k. leaves_from k ys) (sym (add-zero n))
leaves_apart n (x ∷ xs) ys =
    let e : (n + 1) + length xs ≡ n + suc (length xs) = omega arith in
    one_more (is_leaf x) n (leaves_from (n + 1) (xs ++ ys)) (leaves_from (n + 1) xs) (leaves_from (n + suc (length xs)) ys)
    (leaves_apart (n + 1) xs ys ∙ ap (λ k. leaves_from (n + 1) xs ++ leaves_from k ys) e)

mutual
  under_is : (m : ℕ → Bool) (n : ℕ) (t : Tree) → Flagged m n (numbered t) → leaves_under m false n t ≡ filter m (leaves_from n (numbered t))
  under_is m n (leaf l) h = refl
  under_is m n (node struct id fs) h =
      let e : n + 0 ≡ n = omega arith in
      let none : m n ≡ false = not_true (m n) (λ p. false≢true (h 0 (omega arith) (ap m e ∙ p))) in
      let rest : Flagged m (n + 1) (numbered_fields fs) = λ k within marked. h (suc k) (omega arith) (let f : n + suc k ≡ (n + 1) + k = omega arith in ap m f ∙ marked) in
      ap (λ b. leaves_among m b (n + 1) fs) none ∙ among_is m (n + 1) fs rest
  under_is m n (node union id fs) h = refl
  under_is m n (node struct_list id fs) h = refl
  under_is m n (node union_list id fs) h = refl

  among_is : (m : ℕ → Bool) (n : ℕ) (fs : Fields) → Flagged m n (numbered_fields fs) → leaves_among m false n fs ≡ filter m (leaves_from n (numbered_fields fs))
  among_is m n no_fields h = refl
  among_is m n (field name t fs) h =
      let xs = numbered t in
      let ys = numbered_fields fs in
      (λ i. under_is m n t (flagged_left m n xs ys h) i ++ among_is m (n + length xs) fs (flagged_right m n xs ys h) i)
      ∙ sym (filter-append m (leaves_from n xs) (leaves_from (n + length xs) ys))
      ∙ ap (filter m) (sym (leaves_apart n xs ys))

module _ (t : Tree) (mask : FinSet nat_cmp) (holds : HoldsLeaves t mask) where
  inside : AllInside t mask
  inside q past = not_true (contains mask q) (λ p. false≢true (sym (flag_past (numbered t) q past) ∙ sym (in_leaves t q) ∙ holds q p))

  flagged : Flagged (contains mask) 0 (numbered t)
  flagged k within marked = let e : 0 + k ≡ k = omega arith in sym (in_leaves t k) ∙ holds k (ap (contains mask) (sym e) ∙ marked)

  is_known : (b c : Bool) → (b ≡ true → c ≡ true) → b ≡ (b && c)
  is_known true c h = sym (h refl)
  is_known false c h = refl

  -- leaves alone stand for themselves
  themselves : mask ≡ marked_leaves t mask
  themselves = same mask (marked_leaves t mask) (λ q.
      let ks = leaves_from 0 (numbered t) in
      let test : ℕ → Bool = eq_by_cmp nat_cmp q in
      let all : contains (leaves t) q ≡ list_any test ks = contains-from_list nat_cmp_total ks q in
      let kept : list_any test (filter (contains mask) ks) ≡ (contains mask q && list_any test ks) =
      any-filter_same test (contains mask) (contains mask q) (λ k e. ap (contains mask) (sym (eqb-true q k (sym (by_cmp q k) ∙ e)))) ks in
      is_known (contains mask q) (list_any test ks) (λ p. sym all ∙ holds q p)
      ∙ sym kept
      ∙ ap (list_any test) (sym (under_is (contains mask) 0 t flagged))
      ∙ sym (contains-from_list nat_cmp_total (leaves_under (contains mask) false 0 t) q))

pub part_written : WrittenIsPart
part_written o before t mask v type fits holds can =
    let low : AllLow mask = λ q far. inside t mask holds q (omega (arith, few_numbers t type)) in (
      canonical_bits o mask,
      canonical_marked o (contains mask) 0 v t,
      mask,
      canonical_bits_spell o mask low,
      inside t mask holds,
      themselves t mask holds,
      marked_written o before (contains mask) 0 v t fits can,
      refl,
    )
