-- What is printed of a part is the same of what was said and of what was read.
use Rattle.std.proofs.Common.{◌≡◌, ℕ, ◌+◌, Bool, true, false, cond, ◌&&◌, List, [], ◌++◌, length, refl}
use Rattle.std.specs.Ordering.{nat_cmp}
use Rattle.std.specs.FinSet.{FinSet, contains}
use Rattle.pvd_type.specs.Numbers.{numbered}
use Rattle.pvd_type.specs.Tree.{Tree, leaf, node, struct, union, struct_list, union_list, Fields, no_fields, field}
use Rattle.pvd_value.specs.Blank.{blank_of, blank_row, blank_leaf}
use Rattle.pvd_value.specs.Data.{Data, members, Row, end, more, gap}
use Rattle.pvd_value.specs.Fits.{fits_of, row_fits}
use Rattle.pvd_value.specs.Merge.{merged, merged_row}
use Rattle.cli_text.specs.Lines.{leaf_line, lines_of, lines_among, path_to, part_text}
use Rattle.pva_messages.specs.Fields.{PartData}
use Rattle.pva_messages.specs.Written.{seen_part}

and_left : (a b : Bool) → (a && b) ≡ true → a ≡ true
and_left true b h = refl
and_left false b h = absurd cc

and_right : (a b : Bool) → (a && b) ≡ true → b ≡ true
and_right true b h = h
and_right false b h = absurd cc

marked_line : (b over : Bool) (path : List ℕ) (t : Tree) (v blank : Data) → leaf_line b over path t (cond b v blank) ≡ leaf_line b over path t v
marked_line true over path t v blank = refl
marked_line false over path t v blank = refl

module _ (m over : ℕ → Bool) (left : ℕ) where
  mutual
    seen_lines : (n : ℕ) (path : List ℕ) (t : Tree) (v : Data) → fits_of left v t ≡ true → lines_of m over n path t (merged m n t (blank_of t) v) ≡ lines_of m over n path t v
    seen_lines n path (leaf l) v fits = marked_line (m n) (over n) path (leaf l) v (blank_leaf l)
    seen_lines n path (node struct id fs) (members vs) fits = seen_among (n + 1) path fs vs fits
    seen_lines n path (node struct id fs) v fits = absurd cc
    seen_lines n path (node union id fs) v fits = marked_line (m n) (over n) path (node union id fs) v (blank_of (node union id fs))
    seen_lines n path (node struct_list id fs) v fits = marked_line (m n) (over n) path (node struct_list id fs) v (blank_of (node struct_list id fs))
    seen_lines n path (node union_list id fs) v fits = marked_line (m n) (over n) path (node union_list id fs) v (blank_of (node union_list id fs))

    seen_among : (n : ℕ) (path : List ℕ) (fs : Fields) (vs : Row) → row_fits left vs fs ≡ true → lines_among m over n path fs (merged_row m n fs (blank_row fs) vs) ≡ lines_among m over n path fs vs
    seen_among n path no_fields vs fits = refl
    seen_among n path (field name t fs) (more v vs) fits =
        let one = seen_lines n (path_to path name) t v (and_left (fits_of left v t) (row_fits left vs fs) fits) in
        let others = seen_among (n + length (numbered t)) path fs vs (and_right (fits_of left v t) (row_fits left vs fs) fits) in
        λ i. one i ++ others i
    seen_among n path (field name t fs) end fits = absurd cc
    seen_among n path (field name t fs) (gap vs) fits = absurd cc

pub seen_text : (p : PartData) (over : FinSet nat_cmp) → fits_of 16 p.value p.ty ≡ true → part_text p.mask over p.ty (seen_part p).value ≡ part_text p.mask over p.ty p.value
seen_text p over fits = seen_lines (contains p.mask) (contains over) 16 0 [] p.ty p.value fits
