-- What a type is: a tree of shapes.
use Rattle.std.specs.Prelude.{◌≡◌, ℕ, zero, suc, List, [], ◌∷◌, get_or, refl}
use Rattle.std.proofs.Common.{ap}
use Rattle.std.specs.Coded.{Coded, code_by}
use base.Stored.{Gv, gnil, gnum, gcons}
use Rattle.pvd_type.specs.declared.shape.Scalar.{Scalar}
use Rattle.pvd_type.specs.declared.shape.Scalar.TheVariants.{Bool, I8, I16, I32, I64, U8, U16, U32, U64, F32, F64, Text}
use Rattle.pvd_type.specs.declared.shape.Extent.{Extent}
use Rattle.pvd_type.specs.declared.shape.Extent.TheVariants.{Variable, Bounded, Fixed}

-- a shape without members
pub data Leaf : Type 0 where
  plain : Scalar → Leaf
  bound_text : ℕ → Leaf
  list : Scalar → Extent → Leaf
  variant : Leaf
  variant_list : Leaf

-- a shape with members
pub data Kind : Type 0 where
  struct : Kind
  union : Kind
  struct_list : Kind
  union_list : Kind

mutual
  pub data Tree : Type 0 where
    leaf : Leaf → Tree
    node : Kind → List ℕ → Fields → Tree

  -- members, each with its name, in order
  pub data Fields : Type 0 where
    no_fields : Fields
    field : List ℕ → Tree → Fields → Fields

abbrev pub count_fields : Fields → ℕ
count_fields no_fields = 0
count_fields (field name t fs) = suc (count_fields fs)

abbrev coded_gv : Coded Gv
coded_gv = record { code = λ x. x; inj = λ x y p. p }

abbrev scalar_code : Scalar → Gv
scalar_code Bool = gnum 0
scalar_code I8 = gnum 1
scalar_code I16 = gnum 2
scalar_code I32 = gnum 3
scalar_code I64 = gnum 4
scalar_code U8 = gnum 5
scalar_code U16 = gnum 6
scalar_code U32 = gnum 7
scalar_code U64 = gnum 8
scalar_code F32 = gnum 9
scalar_code F64 = gnum 10
scalar_code Text = gnum 11

abbrev scalars : List Scalar
scalars = Bool ∷ I8 ∷ I16 ∷ I32 ∷ I64 ∷ U8 ∷ U16 ∷ U32 ∷ U64 ∷ F32 ∷ F64 ∷ Text ∷ []

abbrev scalar_back : Gv → Scalar
scalar_back (gnum n) = get_or scalars n Bool
scalar_back _ = Bool

abbrev scalar_law : (s : Scalar) → scalar_back (scalar_code s) ≡ s
scalar_law Bool = refl
scalar_law I8 = refl
scalar_law I16 = refl
scalar_law I32 = refl
scalar_law I64 = refl
scalar_law U8 = refl
scalar_law U16 = refl
scalar_law U32 = refl
scalar_law U64 = refl
scalar_law F32 = refl
scalar_law F64 = refl
scalar_law Text = refl

abbrev extent_code : Extent → Gv
extent_code Variable = gnil
extent_code (Bounded n) = gcons (gnum 0) (gnum n)
extent_code (Fixed n) = gcons (gnum 1) (gnum n)

abbrev extent_back : Gv → Extent
extent_back (gcons (gnum zero) (gnum n)) = Bounded n
extent_back (gcons (gnum (suc k)) (gnum n)) = Fixed n
extent_back _ = Variable

abbrev extent_law : (e : Extent) → extent_back (extent_code e) ≡ e
extent_law Variable = refl
extent_law (Bounded n) = refl
extent_law (Fixed n) = refl

abbrev leaf_code : Leaf → Gv
leaf_code (plain s) = gcons (gnum 0) (scalar_code s)
leaf_code (bound_text n) = gcons (gnum 1) (gnum n)
leaf_code (list s e) = gcons (gnum 2) (gcons (scalar_code s) (extent_code e))
leaf_code variant = gnum 0
leaf_code variant_list = gnil

abbrev leaf_back : Gv → Leaf
leaf_back (gcons (gnum zero) s) = plain (scalar_back s)
leaf_back (gcons (gnum (suc zero)) (gnum n)) = bound_text n
leaf_back (gcons (gnum (suc (suc k))) (gcons s e)) = list (scalar_back s) (extent_back e)
leaf_back (gnum n) = variant
leaf_back _ = variant_list

abbrev leaf_law : (l : Leaf) → leaf_back (leaf_code l) ≡ l
leaf_law (plain s) = ap plain (scalar_law s)
leaf_law (bound_text n) = refl
leaf_law (list s e) = λ i. list (scalar_law s i) (extent_law e i)
leaf_law variant = refl
leaf_law variant_list = refl

abbrev kind_code : Kind → Gv
kind_code struct = gnum 0
kind_code union = gnum 1
kind_code struct_list = gnum 2
kind_code union_list = gnum 3

abbrev kind_back : Gv → Kind
kind_back (gnum (suc zero)) = union
kind_back (gnum (suc (suc zero))) = struct_list
kind_back (gnum (suc (suc (suc n)))) = union_list
kind_back _ = struct

abbrev kind_law : (k : Kind) → kind_back (kind_code k) ≡ k
kind_law struct = refl
kind_law union = refl
kind_law struct_list = refl
kind_law union_list = refl

-- the bytes as a list of numbers
abbrev text_code : List ℕ → Gv
text_code [] = gnil
text_code (x ∷ xs) = gcons (gnum x) (text_code xs)

abbrev text_back : Gv → List ℕ
text_back (gcons (gnum x) r) = x ∷ text_back r
text_back _ = []

abbrev text_law : (xs : List ℕ) → text_back (text_code xs) ≡ xs
text_law [] = refl
text_law (x ∷ xs) = ap (λ ys. x ∷ ys) (text_law xs)

abbrev mutual
  tree_code : Tree → Gv
  tree_code (leaf l) = gcons gnil (leaf_code l)
  tree_code (node k id fs) = gcons (gcons (kind_code k) (text_code id)) (fields_code fs)

  fields_code : Fields → Gv
  fields_code no_fields = gnil
  fields_code (field name t fs) = gcons (gcons (text_code name) (tree_code t)) (fields_code fs)

abbrev mutual
  tree_back : Gv → Tree
  tree_back (gcons (gcons k id) fs) = node (kind_back k) (text_back id) (fields_back fs)
  tree_back (gcons gnil l) = leaf (leaf_back l)
  tree_back _ = leaf variant

  fields_back : Gv → Fields
  fields_back (gcons (gcons name t) fs) = field (text_back name) (tree_back t) (fields_back fs)
  fields_back _ = no_fields

abbrev mutual
  tree_law : (t : Tree) → tree_back (tree_code t) ≡ t
  tree_law (leaf l) = ap leaf (leaf_law l)
  tree_law (node k id fs) = λ i. node (kind_law k i) (text_law id i) (fields_law fs i)

  fields_law : (fs : Fields) → fields_back (fields_code fs) ≡ fs
  fields_law no_fields = refl
  fields_law (field name t fs) = λ i. field (text_law name i) (tree_law t i) (fields_law fs i)

-- trees can be told apart
abbrev pub coded_tree : Coded Tree
coded_tree = code_by Gv coded_gv tree_code tree_back tree_law
