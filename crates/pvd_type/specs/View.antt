-- The tree that a shape stands for.
use Rattle.std.specs.Prelude.{ℕ, List, [], ◌∷◌, map}
use Rattle.pvd_type.specs.Tree.{Tree, leaf, node, plain, bound_text, list, variant, variant_list, struct, union, struct_list, union_list, Fields, no_fields, field}
use Rattle.pvd_type.specs.declared.shape.Shape.{Shape, fold-Shape}
use Rattle.pvd_type.specs.declared.shape.Node.{Node, fold-Node}
use Rattle.pvd_type.specs.declared.shape.Member.{Member, fold-Member}
use Rattle.pvd_type.specs.declared.shape.Shape.TheOpen.{Shape-F, Node-F, Member-F}

-- members as they stand in a vector
abbrev pub fields_of : List (List ℕ × Tree) → Fields
fields_of [] = no_fields
fields_of (m ∷ ms) = field m.0 m.1 (fields_of ms)

-- one level, with each part inside already seen
abbrev pub shape_step : Shape-F Tree (List ℕ × Tree) (List ℕ × Fields) → Tree
shape_step (Shape-F.Plain s) = leaf (plain s)
shape_step (Shape-F.BoundText n) = leaf (bound_text n)
shape_step (Shape-F.List s e) = leaf (list s e)
shape_step (Shape-F.Struct n) = node struct n.value.0 n.value.1
shape_step (Shape-F.Union n) = node union n.value.0 n.value.1
shape_step (Shape-F.StructList n) = node struct_list n.value.0 n.value.1
shape_step (Shape-F.UnionList n) = node union_list n.value.0 n.value.1
shape_step Shape-F.Variant = leaf variant
shape_step Shape-F.VariantList = leaf variant_list

abbrev pub member_step : Member-F Tree (List ℕ × Tree) (List ℕ × Fields) → List ℕ × Tree
member_step m = (m.name, m.shape)

abbrev pub node_step : Node-F Tree (List ℕ × Tree) (List ℕ × Fields) → List ℕ × Fields
node_step n = (n.id, fields_of n.members.items)

abbrev pub shape_view : Shape → Tree
shape_view = fold-Shape Tree (List ℕ × Tree) (List ℕ × Fields) shape_step member_step node_step

abbrev pub member_view : Member → List ℕ × Tree
member_view = fold-Member Tree (List ℕ × Tree) (List ℕ × Fields) shape_step member_step node_step

abbrev pub node_view : Node → List ℕ × Fields
node_view = fold-Node Tree (List ℕ × Tree) (List ℕ × Fields) shape_step member_step node_step

abbrev pub members_view : List Member → Fields
members_view ms = fields_of (map member_view ms)

abbrev pub names_of : List Member → List (List ℕ)
names_of ms = map (λ m. m.name) ms
