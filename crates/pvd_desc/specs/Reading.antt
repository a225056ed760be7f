-- Reading a description from left to right, with the first fault that is met and how many bytes are left from its item on.
use Rattle.std.specs.Prelude.{◌≡◌, ℕ, zero, suc, ◌+◌, ◌-◌, Bool, true, List, [], ◌∷◌, ◌++◌, length, get_or, Option, Some, None, Result, Ok, Err, nat_lt, ◌==◌, if◌then◌else◌}
use Rattle.std.specs.FinMap.{get}
use Rattle.pva_wire.specs.declared.order.Order.{Order}
use Rattle.pva_wire.specs.declared.fault.Cause as wire
use Rattle.pva_wire.specs.declared.fault.Cause.TheVariants.{Short}
use Rattle.pva_wire.specs.declared.fault.Stop as wire_stop
use Rattle.pva_wire.specs.declared.fault.Stop.TheVariants as wire_stops
use Rattle.pva_wire.specs.Reading.{◌>>=◌, number_of, number_at, count_at, counted_at, text_at}
use Rattle.pvd_type.specs.declared.shape.Extent.TheVariants.{Variable, Bounded, Fixed}
use Rattle.pvd_type.specs.declared.checking.TypeFault.{TypeFault}
use Rattle.pvd_type.specs.declared.checking.TypeFault.TheVariants.{TooDeep, TooMany}
use Rattle.pvd_type.specs.Tree.{Tree, leaf, node, Leaf, plain, bound_text, list, variant, variant_list, Kind, struct, union, Fields, no_fields, field}
use Rattle.pvd_type.specs.Numbers.{nodes}
use Rattle.pvd_type.specs.Check.{below, first_fault, label_fault}
use Rattle.pvd_desc.specs.Types.{Types, define_all}
use Rattle.pvd_desc.specs.Code.{code_of, takes, element, is_element, list_tree}
use Rattle.pvd_desc.specs.declared.code.Code.{Code}
use Rattle.pvd_desc.specs.declared.code.Code.TheVariants as code
use Rattle.pvd_desc.specs.declared.code.Element.{Element}
use Rattle.pvd_desc.specs.declared.code.Element.TheVariants as elements
use Rattle.pvd_desc.specs.declared.fault.DescCause.{DescCause}
use Rattle.pvd_desc.specs.declared.fault.DescCause.TheVariants.{Wire, Shape, UnknownCode, UnknownId}
use Rattle.pvd_desc.specs.declared.fault.DescStop.{DescStop}
use Rattle.pvd_desc.specs.declared.fault.DescStop.TheVariants as stops

-- something and the bytes after it
abbrev pub Part : Type 0 → Type 0
Part A = Result (A × List ℕ) (DescCause × ℕ)

-- something, how many nodes there are after it, the bytes after it, and the types that are known then
abbrev pub Read : Type 0 → Type 0
Read A = Result (A × ℕ × List ℕ × Types) (DescCause × ℕ)

abbrev pub lifted : {A : Type 0} → Result A (wire.Cause × ℕ) → Result A (DescCause × ℕ)
lifted (Ok x) = Ok x
lifted (Err e) = Err (Wire e.0, e.1)

abbrev pub lifted_stop : wire_stop.Stop → DescStop
lifted_stop wire_stops.Memory = stops.Memory
lifted_stop (wire_stops.Fault cause left) = stops.Fault (Wire cause) left

-- What a function returned, seen by view, is what reading gives, unless memory ran out.
abbrev pub Fails : {Y : Type 0} → DescStop → Result Y (DescCause × ℕ) → Type 0
Fails stops.Memory read = Unit {0}
Fails (stops.Fault cause left) read = read ≡ Err (cause, left)

abbrev pub Gives : {X Y : Type 0} → (X → Y) → Result X DescStop → Result Y (DescCause × ℕ) → Type 0
Gives view (Ok x) read = read ≡ Ok (view x)
Gives view (Err e) read = Fails e read

-- a 16-bit id
abbrev pub id_at : Order → List ℕ → Part ℕ
id_at order bytes = lifted (number_at order 2 bytes)

-- what follows the code of a definition
unfoldable pub definition : List ℕ → Option (List ℕ)
definition [] = None
definition (b ∷ rest) = if b == 0xFD then Some rest else None

-- The ids of definitions that stand one after another, and the bytes from the first other code on.
unfoldable pub chain_at : Order → List ℕ → Part (List ℕ)
chain_at order [] = Ok ([], [])
chain_at order (b ∷ []) = if b == 0xFD then Err (Wire Short, 0) else Ok ([], b ∷ [])
chain_at order (b ∷ x ∷ []) = if b == 0xFD then Err (Wire Short, 1) else Ok ([], b ∷ x ∷ [])
chain_at order (b ∷ x ∷ y ∷ rest) =
    if b == 0xFD then (chain_at order rest >>= λ c. Ok (number_of order 2 (x ∷ y ∷ []) ∷ c.0, c.1)) else Ok ([], b ∷ x ∷ y ∷ rest)

-- the fault of a node on a level that has so many nodes before it; its name has the fault given
abbrev pub here_fault : ℕ → ℕ → Option TypeFault → Option TypeFault
here_fault level seen named = if nat_lt 32 level then Some TooDeep else if nat_lt 4095 seen then Some TooMany else named

abbrev pub unless : {A : Type 0} → Option TypeFault → ℕ → A → Result A (DescCause × ℕ)
unless None left x = Ok x
unless (Some f) left x = Err (Shape f, left)

abbrev pub here_at : ℕ → ℕ → Option TypeFault → ℕ → Result (Unit {0}) (DescCause × ℕ)
here_at level seen named left = unless (here_fault level seen named) left tt

abbrev pub known : Code → ℕ → List ℕ → Part Code
known code.Unknown b rest = Err (UnknownCode b, suc (length rest))
known c b rest = Ok (c, rest)

-- a code byte that stands for a type
unfoldable pub code_at : List ℕ → Part Code
code_at [] = Err (Wire Short, 0)
code_at (b ∷ rest) = known (code_of b) b rest

unfoldable pub sized_at : Order → (ℕ → Leaf) → ℕ → Types → List ℕ → Read Tree
sized_at order make seen types bytes = lifted (count_at order bytes) >>= λ n. Ok (leaf (make n.0), seen + 1, n.1, types)

-- whether a cached type may stand here
abbrev pub wants : Option Element → Tree → Bool
wants None t = true
wants (Some e) t = is_element e t

abbrev pub cached_of : Option Element → DescCause × ℕ → ℕ → ℕ → ℕ → ℕ → ℕ → Option Tree → Types → List ℕ → Read Tree
cached_of wanted other level seen left place id None types rest = Err (UnknownId id, place)
cached_of wanted other level seen left place id (Some t) types rest =
    if wants wanted t then unless (first_fault (seen + 1) (below level t)) left (t, seen + nodes t, rest, types) else Err other

-- A cached type: an id. The nodes below the type's root are counted at the code, from which so many bytes were left.
unfoldable pub cached_at : Order → Option Element → DescCause × ℕ → ℕ → ℕ → ℕ → Types → List ℕ → Read Tree
cached_at order wanted other level seen left types bytes =
    id_at order bytes >>= λ i. cached_of wanted other level seen left (length bytes) i.0 (get types i.0) types i.1

abbrev pub Members : Type 0
Members = ℕ → ℕ → Types → List ℕ → Read Fields

-- A node and its parts on a level, where members are read by the function given: so many, with so many nodes before the first.
module _ (order : Order) (level : ℕ) (fields : Members) where
  -- what stands in a node: an id, a count and members
  unfoldable pub inside_at : ℕ → Types → List ℕ → Read (List ℕ × Fields)
  inside_at seen types bytes =
      lifted (text_at order bytes) >>= λ id. lifted (counted_at order 2 id.1) >>= λ n. fields n.0 (seen + 1) types n.1 >>= λ fs. Ok ((id.0, fs.0), fs.1, fs.2, fs.3)

  abbrev pub members_at : Kind → ℕ → Types → List ℕ → Read Tree
  members_at kind seen types bytes = inside_at seen types bytes >>= λ p. Ok (node kind p.0.0 p.0.1, p.1, p.2, p.3)

  unfoldable pub element_of : Element → DescCause × ℕ → ℕ → ℕ → Types → Code → List ℕ → Read Tree
  element_of e other left seen types code.Cached rest = cached_at order (Some e) other level seen left types rest
  element_of e other left seen types c rest = if takes e c then members_at (element e) seen types rest else Err other

  -- an element from its code on, as `other` where it is of another kind, under these ids
  abbrev pub coded_element_at : List ℕ → Element → DescCause × ℕ → ℕ → Types → List ℕ → Read Tree
  coded_element_at ids e other seen types bytes =
      code_at bytes >>= λ c. element_of e other (length bytes) seen types c.0 c.1 >>= λ t. Ok (list_tree t.0, t.1, t.2, define_all ids t.0 t.3)

  -- The element of a list of nodes. That it is of another kind is a fault at its first byte.
  unfoldable pub element_at : Element → ℕ → Types → List ℕ → Read Tree
  element_at e seen types bytes =
      chain_at order bytes >>= λ ids. code_at ids.1 >>= λ c.
      element_of e (UnknownCode (get_or bytes 0 0), length bytes) (length ids.1) seen types c.0 c.1 >>= λ t.
      Ok (list_tree t.0, t.1, t.2, define_all ids.0 t.0 t.3)

  -- what follows a code, from which so many bytes were left
  unfoldable pub parts_at : Code → ℕ → ℕ → Types → List ℕ → Read Tree
  parts_at (code.Plain s) left seen types rest = Ok (leaf (plain s), seen + 1, rest, types)
  parts_at (code.List s) left seen types rest = Ok (leaf (list s Variable), seen + 1, rest, types)
  parts_at (code.Bounded s) left seen types rest = sized_at order (λ n. list s (Bounded n)) seen types rest
  parts_at (code.Fixed s) left seen types rest = sized_at order (λ n. list s (Fixed n)) seen types rest
  parts_at code.BoundText left seen types rest = sized_at order bound_text seen types rest
  parts_at code.Variant left seen types rest = Ok (leaf variant, seen + 1, rest, types)
  parts_at code.VariantList left seen types rest = Ok (leaf variant_list, seen + 1, rest, types)
  parts_at code.Struct left seen types rest = members_at struct seen types rest
  parts_at code.Union left seen types rest = members_at union seen types rest
  parts_at code.StructList left seen types rest = element_at elements.Struct seen types rest
  parts_at code.UnionList left seen types rest = element_at elements.Union seen types rest
  parts_at code.Cached left seen types rest = cached_at order None (UnknownCode 254, left) level seen left types rest
  parts_at code.Unknown left seen types rest = Err (UnknownCode 0, left)

  -- a node from its code on, under these ids
  abbrev pub coded_at : List ℕ → ℕ → Option TypeFault → Types → List ℕ → Read Tree
  coded_at ids seen named types bytes =
      code_at bytes >>= λ c. here_at level seen named (length bytes) >>= λ u. parts_at c.0 (length bytes) seen types c.1 >>= λ t.
      Ok (t.0, t.1, t.2, define_all ids t.0 t.3)

  -- a node that has so many nodes before it, and whose name has the fault given
  unfoldable pub node_on : ℕ → Option TypeFault → Types → List ℕ → Read Tree
  node_on seen named types bytes =
      chain_at order bytes >>= λ ids. code_at ids.1 >>= λ c. here_at level seen named (length ids.1) >>= λ u.
      parts_at c.0 (length ids.1) seen types c.1 >>= λ t. Ok (t.0, t.1, t.2, define_all ids.0 t.0 t.3)

abbrev pub Nodes : Type 0
Nodes = ℕ → Option TypeFault → Types → List ℕ → Read Tree

-- a member
unfoldable pub member_with : Order → Nodes → ℕ → List (List ℕ) → Types → List ℕ → Read (List ℕ × Tree)
member_with order nodes_at seen before types bytes =
    lifted (text_at order bytes) >>= λ name. nodes_at seen (label_fault (Some (record { name = name.0; before = before }))) types name.1 >>= λ t.
    Ok ((name.0, t.0), t.1, t.2, t.3)

-- so many members, after these names
unfoldable pub fields_with : Order → Nodes → List (List ℕ) → Members
fields_with order nodes_at before zero seen types bytes = Ok (no_fields, seen, bytes, types)
fields_with order nodes_at before (suc n) seen types bytes =
    member_with order nodes_at seen before types bytes >>= λ m.
    fields_with order nodes_at (before ++ m.0.0 ∷ []) n m.1 m.3 m.2 >>= λ fs. Ok (field m.0.0 m.0.1 fs.0, fs.1, fs.2, fs.3)

abbrev pub no_members : Members
no_members n seen types bytes = Err (Shape TooDeep, 0)

-- The members of a node, where so many levels are left below it. The 33rd level has no nodes.
unfoldable pub fields_below : Order → ℕ → Members
fields_below order zero = no_members
fields_below order (suc room) = fields_with order (node_on order (33 - room) (fields_below order room)) []

abbrev pub node_at : Order → ℕ → Nodes
node_at order room = node_on order (33 - room) (fields_below order room)

-- what follows the code of a null description
unfoldable pub null : List ℕ → Option (List ℕ)
null [] = None
null (b ∷ rest) = if b == 0xFF then Some rest else None

-- what follows the code of a cached type
unfoldable pub cached : List ℕ → Option (List ℕ)
cached [] = None
cached (b ∷ rest) = if b == 0xFE then Some rest else None

abbrev pub desc_of : Option (List ℕ) → Read Tree → Types → Result (Option Tree × List ℕ × Types) (DescCause × ℕ)
desc_of (Some rest) read types = Ok (None, rest, types)
desc_of None read types = read >>= λ t. Ok (Some t.0, t.2, t.3)

-- a description, or null
unfoldable pub desc_at : Order → Types → List ℕ → Result (Option Tree × List ℕ × Types) (DescCause × ℕ)
desc_at order types bytes = desc_of (null bytes) (node_at order 32 0 None types bytes) types
