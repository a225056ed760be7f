-- What spells a value of a type spells one that fits it.
use Rattle.std.proofs.Common.{◌≡◌, ℕ, ◌+◌, ◌-◌, Bool, true, false, List, length, Option, Some, None, refl, ap, ◌∙◌, arith}
use Rattle.std.proofs.lemmas.Bool.{lt-ltb, le-leb, eq-eqb}
use Rattle.std.specs.FinSet.{contains}
use Rattle.pva_wire.specs.declared.order.Order.{Order}
use Rattle.pvd_type.specs.declared.shape.Scalar.{Scalar}
use Rattle.pvd_type.specs.declared.shape.Extent.{Extent}
use Rattle.pvd_type.specs.declared.shape.Extent.TheVariants.{Variable, Bounded, Fixed}
use Rattle.pvd_type.specs.Tree.{Tree, leaf, node, plain, bound_text, list, variant, variant_list, struct, union, struct_list, union_list, Fields, no_fields, field}
use Rattle.pvd_type.specs.Same.{same_scalar}
use Rattle.pvd_type.specs.SameLaws.{and_true, same_tree-Decides}
use Rattle.pvd_type.specs.Numbers.{numbered}
use Rattle.pvd_value.specs.Data as value
use Rattle.pvd_value.specs.Data.{Data, Single, Many, single, many, members, unset, selected, empty, carried, structs, unions, variants, Row, end, more, gap}
use Rattle.pvd_value.specs.Fits.{scalar_of, element_of, count_of, allows, within_text, member_at, some_and, fits_of, row_fits, all_fit}
use Rattle.pvd_value.proofs.Blanks.{blank_fits}
use Rattle.pvd_desc.specs.Types.{Types}
use Rattle.pvd_codec.specs.Grammar.{SpellsList, SpellsBoundText, on_some, Spells, SpellsRow, SpellsElements, SpellsLeaf, SpellsMarked, SpellsMarkedRow}
use Rattle.pvd_codec.specs.Found.{FullFits, PartFits}

same_as : (s t : Scalar) → s ≡ t → same_scalar s t ≡ true
same_as s t h = (same_tree-Decides (leaf (plain s)) (leaf (plain t))).1 (ap (λ (x : Scalar). leaf (plain x)) h)

list_fits : (o : Order) (e : Extent) (bytes : List ℕ) (xs : Many) → SpellsList o e bytes xs → allows e (count_of xs) ≡ true
list_fits o Variable bytes xs h = refl
list_fits o (Bounded bound) bytes xs h = le-leb (count_of xs) bound h.0
list_fits o (Fixed size) bytes xs h = eq-eqb (count_of xs) size h.0

bound_fits : (o : Order) (bound : ℕ) (bytes : List ℕ) (x : Single) → SpellsBoundText o bound bytes x → within_text x bound ≡ true
bound_fits o bound bytes (value.text t) h = le-leb (length t) bound h.0
bound_fits o bound bytes _ h = absurd h

some_fits : (P : Tree → Type 0) (test : Tree → Bool) (m : Option Tree) → ((t : Tree) → P t → test t ≡ true) → on_some P m → some_and test m ≡ true
some_fits P test None each h = absurd h
some_fits P test (Some t) each h = each t h

mutual
  pub spelled_fits : (left : ℕ) (o : Order) (v : Data) (t : Tree) (before : Types) (bytes : List ℕ) (after : Types) → Spells left o v t before bytes after → fits_of left v t ≡ true
  spelled_fits left o (single x) (leaf (plain s)) before bytes after h = same_as (scalar_of x) s h.0
  spelled_fits left o (single x) (leaf (bound_text bound)) before bytes after h = bound_fits o bound bytes x h.0
  spelled_fits left o (many xs) (leaf (list s e)) before bytes after h = and_true (same_scalar (element_of xs) s) (allows e (count_of xs)) (same_as (element_of xs) s h.0) (list_fits o e bytes xs h.1)
  spelled_fits left o (members vs) (node struct id fs) before bytes after h = spelled_row_fits left o vs fs before bytes after h
  spelled_fits left o unset (node union id fs) before bytes after h = refl
  spelled_fits left o (selected n v) (node union id fs) before bytes after h =
      some_fits (λ t. Spells left o v t before h.1 after) (fits_of left v) (member_at n fs) (λ t spelled. spelled_fits left o v t before h.1 after spelled) h.3
  spelled_fits left o empty (leaf variant) before bytes after h = lt-ltb 0 left h.0
  spelled_fits left o (carried t v) (leaf variant) before bytes after h = and_true _ (fits_of (left - 1) v t) (lt-ltb 0 left h.3) (spelled_fits (left - 1) o v t h.2 h.1 after h.5)
  spelled_fits left o (structs vs) (node struct_list id fs) before bytes after h = elements_fit left o vs (node struct id fs) before h.1 after h.3
  spelled_fits left o (unions vs) (node union_list id fs) before bytes after h = elements_fit left o vs (node union id fs) before h.1 after h.3
  spelled_fits left o (variants vs) (leaf variant_list) before bytes after h = elements_fit left o vs (leaf variant) before h.1 after h.3
  spelled_fits left o _ _ before bytes after h = absurd h

  spelled_row_fits : (left : ℕ) (o : Order) (vs : Row) (fs : Fields) (before : Types) (bytes : List ℕ) (after : Types) → SpellsRow left o vs fs before bytes after → row_fits left vs fs ≡ true
  spelled_row_fits left o end no_fields before bytes after h = refl
  spelled_row_fits left o (more v vs) (field name t fs) before bytes after h =
      and_true (fits_of left v t) (row_fits left vs fs) (spelled_fits left o v t before h.0 h.2 h.3) (spelled_row_fits left o vs fs h.2 h.1 after h.4)
  spelled_row_fits left o _ _ before bytes after h = absurd h

  elements_fit : (left : ℕ) (o : Order) (vs : Row) (t : Tree) (before : Types) (bytes : List ℕ) (after : Types) → SpellsElements left o vs t before bytes after → all_fit left vs t ≡ true
  elements_fit left o end t before bytes after h = refl
  elements_fit left o (gap vs) t before bytes after h = elements_fit left o vs t h.2 h.1 after h.4
  elements_fit left o (more v vs) t before bytes after h = and_true (fits_of left v t) (all_fit left vs t) (spelled_fits left o v t before h.0 h.2 h.4) (elements_fit left o vs t h.2 h.1 after h.5)

pub full_fits : FullFits
full_fits o before t bytes v after h = spelled_fits 16 o v t before bytes after h

slot_fits : (b : Bool) (o : Order) (v : Data) (t : Tree) (before : Types) (bytes : List ℕ) (after : Types) → SpellsLeaf b o v t before bytes after → fits_of 16 v t ≡ true
slot_fits true o v t before bytes after h = spelled_fits 16 o v t before bytes after h
slot_fits false o v t before bytes after h = ap (λ (d : Data). fits_of 16 d t) h.0 ∙ blank_fits 16 t (omega arith)

module _ (marked : ℕ → Bool) (o : Order) where
  mutual
    marked_fits : (n : ℕ) (v : Data) (t : Tree) (before : Types) (bytes : List ℕ) (after : Types) → SpellsMarked marked n o v t before bytes after → fits_of 16 v t ≡ true
    marked_fits n (members vs) (node struct id fs) before bytes after h = marked_row_fits (n + 1) vs fs before bytes after h
    marked_fits n v (node struct id fs) before bytes after h = absurd h
    marked_fits n v t before bytes after h = slot_fits (marked n) o v t before bytes after h

    marked_row_fits : (n : ℕ) (vs : Row) (fs : Fields) (before : Types) (bytes : List ℕ) (after : Types) → SpellsMarkedRow marked n o vs fs before bytes after → row_fits 16 vs fs ≡ true
    marked_row_fits n end no_fields before bytes after h = refl
    marked_row_fits n (more v vs) (field name t fs) before bytes after h =
        and_true (fits_of 16 v t) (row_fits 16 vs fs) (marked_fits n v t before h.0 h.2 h.3) (marked_row_fits (n + length (numbered t)) vs fs h.2 h.1 after h.4)
    marked_row_fits n _ _ before bytes after h = absurd h

pub part_fits : PartFits
part_fits o before t bytes mask v after (head, tail, bits, spelled, inside, is, values, parts) = marked_fits (contains mask) o 0 v t before tail after values
