-- Two types are the same just where they are equal.
use Rattle.std.specs.Prelude.{◌≡◌, Bool, true, false, ◌&&◌, refl}
use Rattle.std.specs.Bool.{Decides}
use Rattle.std.specs.Str.{bytes_eq}
use Rattle.std.specs.Cmp.{IsEquivalence}
use Rattle.std.proofs.Common.{sym, ap, ◌∙◌}
use Rattle.std.proofs.lemmas.Bool.{false≢true}
use Rattle.std.proofs.lemmas.Bool.Decides.{Decides-eqb}
use Rattle.std.proofs.lemmas.Slice.Eq.{bytes_eq-Decides}
use Rattle.pvd_type.specs.Tree.{Tree, leaf, node, Leaf, plain, bound_text, list, variant, variant_list, Kind, struct, union, struct_list, union_list, Fields, no_fields, field}
use Rattle.pvd_type.specs.Same.{same_scalar, same_extent, same_leaf, same_kind, same_tree, same_fields}
use Rattle.pvd_type.specs.declared.shape.Scalar.{Scalar}
use Rattle.pvd_type.specs.declared.shape.Scalar.TheVariants as scalar
use Rattle.pvd_type.specs.declared.shape.Extent.{Extent}
use Rattle.pvd_type.specs.declared.shape.Extent.TheVariants.{Variable, Bounded, Fixed}

pub both : (a b : Bool) → (a && b) ≡ true → (a ≡ true) × (b ≡ true)
both true b h = (refl, h)
both false b h = absurd (false≢true h)

pub and_true : (a b : Bool) → a ≡ true → b ≡ true → (a && b) ≡ true
and_true a b h k = ap (λ x. x && b) h ∙ k

scalar_is : (s t : Scalar) → same_scalar s t ≡ true → s ≡ t
scalar_is scalar.Bool scalar.Bool h = refl
scalar_is scalar.I8 scalar.I8 h = refl
scalar_is scalar.I16 scalar.I16 h = refl
scalar_is scalar.I32 scalar.I32 h = refl
scalar_is scalar.I64 scalar.I64 h = refl
scalar_is scalar.U8 scalar.U8 h = refl
scalar_is scalar.U16 scalar.U16 h = refl
scalar_is scalar.U32 scalar.U32 h = refl
scalar_is scalar.U64 scalar.U64 h = refl
scalar_is scalar.F32 scalar.F32 h = refl
scalar_is scalar.F64 scalar.F64 h = refl
scalar_is scalar.Text scalar.Text h = refl
scalar_is _ _ h = absurd (false≢true h)

scalar_itself : (s : Scalar) → same_scalar s s ≡ true
scalar_itself scalar.Bool = refl
scalar_itself scalar.I8 = refl
scalar_itself scalar.I16 = refl
scalar_itself scalar.I32 = refl
scalar_itself scalar.I64 = refl
scalar_itself scalar.U8 = refl
scalar_itself scalar.U16 = refl
scalar_itself scalar.U32 = refl
scalar_itself scalar.U64 = refl
scalar_itself scalar.F32 = refl
scalar_itself scalar.F64 = refl
scalar_itself scalar.Text = refl

extent_is : (e f : Extent) → same_extent e f ≡ true → e ≡ f
extent_is Variable Variable h = refl
extent_is (Bounded m) (Bounded n) h = ap Bounded ((Decides-eqb m n).0 h)
extent_is (Fixed m) (Fixed n) h = ap Fixed ((Decides-eqb m n).0 h)
extent_is _ _ h = absurd (false≢true h)

extent_itself : (e : Extent) → same_extent e e ≡ true
extent_itself Variable = refl
extent_itself (Bounded n) = (Decides-eqb n n).1 refl
extent_itself (Fixed n) = (Decides-eqb n n).1 refl

leaf_is : (l m : Leaf) → same_leaf l m ≡ true → l ≡ m
leaf_is (plain s) (plain t) h = ap plain (scalar_is s t h)
leaf_is (bound_text m) (bound_text n) h = ap bound_text ((Decides-eqb m n).0 h)
leaf_is (list s e) (list t f) h = let p = both (same_scalar s t) (same_extent e f) h in λ i. list (scalar_is s t p.0 i) (extent_is e f p.1 i)
leaf_is variant variant h = refl
leaf_is variant_list variant_list h = refl
leaf_is _ _ h = absurd (false≢true h)

leaf_itself : (l : Leaf) → same_leaf l l ≡ true
leaf_itself (plain s) = scalar_itself s
leaf_itself (bound_text n) = (Decides-eqb n n).1 refl
leaf_itself (list s e) = and_true (same_scalar s s) (same_extent e e) (scalar_itself s) (extent_itself e)
leaf_itself variant = refl
leaf_itself variant_list = refl

kind_is : (k j : Kind) → same_kind k j ≡ true → k ≡ j
kind_is struct struct h = refl
kind_is union union h = refl
kind_is struct_list struct_list h = refl
kind_is union_list union_list h = refl
kind_is _ _ h = absurd (false≢true h)

kind_itself : (k : Kind) → same_kind k k ≡ true
kind_itself struct = refl
kind_itself union = refl
kind_itself struct_list = refl
kind_itself union_list = refl

mutual
  tree_is : (t u : Tree) → same_tree t u ≡ true → t ≡ u
  tree_is (leaf l) (leaf m) h = ap leaf (leaf_is l m h)
  tree_is (node k id fs) (node j name gs) h =
      let p = both (same_kind k j) (bytes_eq id name && same_fields fs gs) h in
      let q = both (bytes_eq id name) (same_fields fs gs) p.1 in
      let e = fields_is fs gs q.1 in
      λ i. node (kind_is k j p.0 i) ((bytes_eq-Decides id name).0 q.0 i) (e i)
  tree_is _ _ h = absurd (false≢true h)

  fields_is : (fs gs : Fields) → same_fields fs gs ≡ true → fs ≡ gs
  fields_is no_fields no_fields h = refl
  fields_is (field name t fs) (field other u gs) h =
      let p = both (bytes_eq name other) (same_tree t u && same_fields fs gs) h in
      let q = both (same_tree t u) (same_fields fs gs) p.1 in
      let d = tree_is t u q.0 in
      let e = fields_is fs gs q.1 in
      λ i. field ((bytes_eq-Decides name other).0 p.0 i) (d i) (e i)
  fields_is _ _ h = absurd (false≢true h)

mutual
  tree_itself : (t : Tree) → same_tree t t ≡ true
  tree_itself (leaf l) = leaf_itself l
  tree_itself (node k id fs) =
      and_true (same_kind k k) (bytes_eq id id && same_fields fs fs) (kind_itself k) (and_true (bytes_eq id id) (same_fields fs fs) ((bytes_eq-Decides id id).1 refl) (fields_itself fs))

  fields_itself : (fs : Fields) → same_fields fs fs ≡ true
  fields_itself no_fields = refl
  fields_itself (field name t fs) =
      and_true (bytes_eq name name) (same_tree t t && same_fields fs fs) ((bytes_eq-Decides name name).1 refl) (and_true (same_tree t t) (same_fields fs fs) (tree_itself t) (fields_itself fs))

pub same_tree-Decides : (t u : Tree) → Decides (same_tree t u) (t ≡ u)
same_tree-Decides t u = (tree_is t u, λ e. ap (same_tree t) (sym e) ∙ tree_itself t)

-- a test that tells equal values is an equivalence
pub equivalence : {K : Type 0} (E : K → K → Bool) → ((x y : K) → Decides (E x y) (x ≡ y)) → IsEquivalence E
equivalence E d = record {
  refl = λ x. (d x x).1 refl;
  symm = λ x y. one (E x y) (E y x) (λ h. (d y x).1 (sym ((d x y).0 h))) (λ h. (d x y).1 (sym ((d y x).0 h)));
  congr = λ x y z h. ap (λ w. E w z) ((d x y).0 h);
}
  where
    one : (a b : Bool) → (a ≡ true → b ≡ true) → (b ≡ true → a ≡ true) → a ≡ b
    one true b f g = sym (f refl)
    one false true f g = g refl
    one false false f g = refl

pub same_tree-equiv : IsEquivalence same_tree
same_tree-equiv = equivalence same_tree same_tree-Decides
