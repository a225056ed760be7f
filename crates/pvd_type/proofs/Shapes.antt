-- What each form of a shape stands for.
use Rattle.std.proofs.Common.{Bool, ◌≡◌, ℕ, true, false, refl, rules, Global}
use Rattle.std.specs.declared.sync.Arc.{Arc}
use Rattle.pvd_type.specs.Tree.{Tree, leaf, node, plain, bound_text, list, variant, variant_list, struct, union, struct_list, union_list}
use Rattle.pvd_type.specs.Numbers.{is_leaf}
use Rattle.pvd_type.specs.Same.{same_kind, same_tree}
use Rattle.pvd_type.specs.View.{shape_view, members_view}
use Rattle.pvd_type.specs.declared.shape.Node.{Node, out-Node}
use Rattle.pvd_type.specs.declared.shape.Scalar.{Scalar}
use Rattle.pvd_type.specs.declared.shape.Extent.{Extent}
use Rattle.pvd_type.specs.declared.shape.Shape.{Shape, Plain, BoundText, List, Struct, Struct', Union, Union', StructList, StructList', UnionList, UnionList', Variant, VariantList, the_lemmas}

pub plain_is : (s : Scalar) → shape_view (Plain s) ≡ leaf (plain s)
plain_is s = search (rules, the_lemmas)

pub bound_text_is : (n : ℕ) → shape_view (BoundText n) ≡ leaf (bound_text n)
bound_text_is n = search (rules, the_lemmas)

pub list_is : (s : Scalar) (e : Extent) → shape_view (List s e) ≡ leaf (list s e)
list_is s e = search (rules, the_lemmas)

module _ (n : Arc Node Global) where
  pub struct_is : shape_view (Struct n) ≡ node struct (out-Node n.value).id (members_view (out-Node n.value).members.items)
  struct_is = search (rules, the_lemmas)

  pub union_is : shape_view (Union n) ≡ node union (out-Node n.value).id (members_view (out-Node n.value).members.items)
  union_is = search (rules, the_lemmas)

  pub struct_list_is : shape_view (StructList n) ≡ node struct_list (out-Node n.value).id (members_view (out-Node n.value).members.items)
  struct_list_is = search (rules, the_lemmas)

  pub union_list_is : shape_view (UnionList n) ≡ node union_list (out-Node n.value).id (members_view (out-Node n.value).members.items)
  union_list_is = search (rules, the_lemmas)

pub variant_is : shape_view Variant ≡ leaf variant
variant_is = search (rules, the_lemmas)

pub variant_list_is : shape_view VariantList ≡ leaf variant_list
variant_list_is = search (rules, the_lemmas)

abbrev shared : Arc (Unit {0}) Global → Node → Arc Node Global
shared p n = record { ptr = p.ptr; value = n }

-- a shape that is no structure has no numbers below it
pub unentered : (b : Shape) → ((n : Arc Node Global) → b ≡ Struct n → ⊥) → is_leaf (shape_view b) ≡ true
unentered (Plain s) h = rw (plain_is s) refl
unentered (BoundText n) h = rw (bound_text_is n) refl
unentered (List s e) h = rw (list_is s e) refl
unentered (Struct' p n) h = absurd (h (shared p n) refl)
unentered (Union' p n) h = rw (union_is (shared p n)) refl
unentered (StructList' p n) h = rw (struct_list_is (shared p n)) refl
unentered (UnionList' p n) h = rw (union_list_is (shared p n)) refl
unentered Variant h = rw variant_is refl
unentered VariantList h = rw variant_list_is refl

abbrev pub is_union : Tree → Bool
is_union (leaf l) = false
is_union (node k id fs) = same_kind k union

-- a shape that is no union
pub unchosen : (b : Shape) → ((n : Arc Node Global) → b ≡ Union n → ⊥) → is_union (shape_view b) ≡ false
unchosen (Plain s) h = rw (plain_is s) refl
unchosen (BoundText n) h = rw (bound_text_is n) refl
unchosen (List s e) h = rw (list_is s e) refl
unchosen (Struct' p n) h = rw (struct_is (shared p n)) refl
unchosen (Union' p n) h = absurd (h (shared p n) refl)
unchosen (StructList' p n) h = rw (struct_list_is (shared p n)) refl
unchosen (UnionList' p n) h = rw (union_list_is (shared p n)) refl
unchosen Variant h = rw variant_is refl
unchosen VariantList h = rw variant_list_is refl

-- A shape of another form is another type.
pub other_plain : (s : Scalar) (b : Shape) → ((x : Scalar) → b ≡ Plain x → ⊥) → false ≡ same_tree (shape_view (Plain s)) (shape_view b)
other_plain s (Plain x) h = absurd (h x refl)
other_plain s (BoundText x) h = rw (plain_is s, bound_text_is x) refl
other_plain s (List x y) h = rw (plain_is s, list_is x y) refl
other_plain s (Struct' p m) h = rw (plain_is s, struct_is (shared p m)) refl
other_plain s (Union' p m) h = rw (plain_is s, union_is (shared p m)) refl
other_plain s (StructList' p m) h = rw (plain_is s, struct_list_is (shared p m)) refl
other_plain s (UnionList' p m) h = rw (plain_is s, union_list_is (shared p m)) refl
other_plain s Variant h = rw (plain_is s, variant_is) refl
other_plain s VariantList h = rw (plain_is s, variant_list_is) refl

pub other_bound_text : (n : ℕ) (b : Shape) → ((x : ℕ) → b ≡ BoundText x → ⊥) → false ≡ same_tree (shape_view (BoundText n)) (shape_view b)
other_bound_text n (Plain x) h = rw (bound_text_is n, plain_is x) refl
other_bound_text n (BoundText x) h = absurd (h x refl)
other_bound_text n (List x y) h = rw (bound_text_is n, list_is x y) refl
other_bound_text n (Struct' p m) h = rw (bound_text_is n, struct_is (shared p m)) refl
other_bound_text n (Union' p m) h = rw (bound_text_is n, union_is (shared p m)) refl
other_bound_text n (StructList' p m) h = rw (bound_text_is n, struct_list_is (shared p m)) refl
other_bound_text n (UnionList' p m) h = rw (bound_text_is n, union_list_is (shared p m)) refl
other_bound_text n Variant h = rw (bound_text_is n, variant_is) refl
other_bound_text n VariantList h = rw (bound_text_is n, variant_list_is) refl

pub other_list : (s : Scalar) (e : Extent) (b : Shape) → ((x : Scalar) (y : Extent) → b ≡ List x y → ⊥) → false ≡ same_tree (shape_view (List s e)) (shape_view b)
other_list s e (Plain x) h = rw (list_is s e, plain_is x) refl
other_list s e (BoundText x) h = rw (list_is s e, bound_text_is x) refl
other_list s e (List x y) h = absurd (h x y refl)
other_list s e (Struct' p m) h = rw (list_is s e, struct_is (shared p m)) refl
other_list s e (Union' p m) h = rw (list_is s e, union_is (shared p m)) refl
other_list s e (StructList' p m) h = rw (list_is s e, struct_list_is (shared p m)) refl
other_list s e (UnionList' p m) h = rw (list_is s e, union_list_is (shared p m)) refl
other_list s e Variant h = rw (list_is s e, variant_is) refl
other_list s e VariantList h = rw (list_is s e, variant_list_is) refl

pub other_struct : (n : Arc Node Global) (b : Shape) → ((x : Arc Node Global) → b ≡ Struct x → ⊥) → false ≡ same_tree (shape_view (Struct n)) (shape_view b)
other_struct n (Plain x) h = rw (struct_is n, plain_is x) refl
other_struct n (BoundText x) h = rw (struct_is n, bound_text_is x) refl
other_struct n (List x y) h = rw (struct_is n, list_is x y) refl
other_struct n (Struct' p m) h = absurd (h (shared p m) refl)
other_struct n (Union' p m) h = rw (struct_is n, union_is (shared p m)) refl
other_struct n (StructList' p m) h = rw (struct_is n, struct_list_is (shared p m)) refl
other_struct n (UnionList' p m) h = rw (struct_is n, union_list_is (shared p m)) refl
other_struct n Variant h = rw (struct_is n, variant_is) refl
other_struct n VariantList h = rw (struct_is n, variant_list_is) refl

pub other_union : (n : Arc Node Global) (b : Shape) → ((x : Arc Node Global) → b ≡ Union x → ⊥) → false ≡ same_tree (shape_view (Union n)) (shape_view b)
other_union n (Plain x) h = rw (union_is n, plain_is x) refl
other_union n (BoundText x) h = rw (union_is n, bound_text_is x) refl
other_union n (List x y) h = rw (union_is n, list_is x y) refl
other_union n (Struct' p m) h = rw (union_is n, struct_is (shared p m)) refl
other_union n (Union' p m) h = absurd (h (shared p m) refl)
other_union n (StructList' p m) h = rw (union_is n, struct_list_is (shared p m)) refl
other_union n (UnionList' p m) h = rw (union_is n, union_list_is (shared p m)) refl
other_union n Variant h = rw (union_is n, variant_is) refl
other_union n VariantList h = rw (union_is n, variant_list_is) refl

pub other_struct_list : (n : Arc Node Global) (b : Shape) → ((x : Arc Node Global) → b ≡ StructList x → ⊥) → false ≡ same_tree (shape_view (StructList n)) (shape_view b)
other_struct_list n (Plain x) h = rw (struct_list_is n, plain_is x) refl
other_struct_list n (BoundText x) h = rw (struct_list_is n, bound_text_is x) refl
other_struct_list n (List x y) h = rw (struct_list_is n, list_is x y) refl
other_struct_list n (Struct' p m) h = rw (struct_list_is n, struct_is (shared p m)) refl
other_struct_list n (Union' p m) h = rw (struct_list_is n, union_is (shared p m)) refl
other_struct_list n (StructList' p m) h = absurd (h (shared p m) refl)
other_struct_list n (UnionList' p m) h = rw (struct_list_is n, union_list_is (shared p m)) refl
other_struct_list n Variant h = rw (struct_list_is n, variant_is) refl
other_struct_list n VariantList h = rw (struct_list_is n, variant_list_is) refl

pub other_union_list : (n : Arc Node Global) (b : Shape) → ((x : Arc Node Global) → b ≡ UnionList x → ⊥) → false ≡ same_tree (shape_view (UnionList n)) (shape_view b)
other_union_list n (Plain x) h = rw (union_list_is n, plain_is x) refl
other_union_list n (BoundText x) h = rw (union_list_is n, bound_text_is x) refl
other_union_list n (List x y) h = rw (union_list_is n, list_is x y) refl
other_union_list n (Struct' p m) h = rw (union_list_is n, struct_is (shared p m)) refl
other_union_list n (Union' p m) h = rw (union_list_is n, union_is (shared p m)) refl
other_union_list n (StructList' p m) h = rw (union_list_is n, struct_list_is (shared p m)) refl
other_union_list n (UnionList' p m) h = absurd (h (shared p m) refl)
other_union_list n Variant h = rw (union_list_is n, variant_is) refl
other_union_list n VariantList h = rw (union_list_is n, variant_list_is) refl
