-- Which bytes describe a type, after some types were defined.
use Rattle.std.specs.Prelude.{◌≡◌, ◌⊎◌, ℕ, ◌+◌, List, [], ◌∷◌, ◌++◌, Option, Some, None, Ok}
use Rattle.std.specs.FinMap.{get}
use Rattle.pva_wire.specs.declared.order.Order.{Order}
use Rattle.pva_wire.specs.Spelling.{IsBytes, IsSize, IsText, SpellsNumber, SpellsSize, SpellsText, canonical_size, canonical_text}
use Rattle.pvd_type.specs.declared.shape.Extent.TheVariants.{Variable, Bounded, Fixed}
use Rattle.pvd_type.specs.Tree.{Tree, leaf, node, Leaf, plain, bound_text, list, variant, variant_list, Kind, struct, union, struct_list, union_list, Fields, no_fields, field, count_fields}
use Rattle.pvd_type.specs.Check.{IsType}
use Rattle.pvd_desc.specs.Types.{Types, define_all}
use Rattle.pvd_desc.specs.Code.{scalar_code}
use Rattle.pvd_desc.specs.Reading.{desc_at}

-- a code and a size
abbrev pub SpellsSized : Order → ℕ → ℕ → List ℕ → Type 0
SpellsSized order code n bytes = (size : List ℕ) × SpellsSize order size (Some n) × (bytes ≡ code ∷ size)

abbrev pub SpellsLeaf : Order → Leaf → List ℕ → Type 0
SpellsLeaf order (plain s) bytes = bytes ≡ scalar_code s ∷ []
SpellsLeaf order (list s Variable) bytes = bytes ≡ (scalar_code s + 0x08) ∷ []
SpellsLeaf order (list s (Bounded n)) bytes = SpellsSized order (scalar_code s + 0x10) n bytes
SpellsLeaf order (list s (Fixed n)) bytes = SpellsSized order (scalar_code s + 0x18) n bytes
SpellsLeaf order (bound_text n) bytes = SpellsSized order 0x83 n bytes
SpellsLeaf order variant bytes = bytes ≡ 0x82 ∷ []
SpellsLeaf order variant_list bytes = bytes ≡ 0x8A ∷ []

-- definitions of these ids, one after another
abbrev pub SpellsChain : Order → List ℕ → List ℕ → Type 0
SpellsChain order [] bytes = bytes ≡ []
SpellsChain order (id ∷ ids) bytes =
    (head : List ℕ) × (tail : List ℕ) × SpellsNumber order 2 head id × SpellsChain order ids tail × (bytes ≡ 0xFD ∷ (head ++ tail))

-- a cached type
abbrev pub SpellsCached : Order → Types → Tree → List ℕ → Types → Type 0
SpellsCached order before t bytes after =
    (id : ℕ) × (tail : List ℕ) × SpellsNumber order 2 tail id × (get before id ≡ Some t) × (bytes ≡ 0xFE ∷ tail) × (after ≡ before)

-- Definitions of a type, and then the type as the relation given has it, or a cached one.
abbrev pub Named : Order → Types → Tree → (List ℕ → Types → Type 0) → List ℕ → Types → Type 0
Named order before t Row bytes after =
    (ids : List ℕ) × (head : List ℕ) × (body : List ℕ) × (mid : Types) × SpellsChain order ids head
    × (SpellsCached order before t body mid ⊎ Row body mid) × (after ≡ define_all ids t mid) × (bytes ≡ head ++ body)

-- a code and what stands in a node, as the relation given has it
abbrev pub Coded : ℕ → (List ℕ → Types → Type 0) → List ℕ → Types → Type 0
Coded code Inside bytes after = (body : List ℕ) × Inside body after × (bytes ≡ code ∷ body)

abbrev pub NodeRow : Order → Types → Kind → List ℕ → Fields → (List ℕ → Types → Type 0) → List ℕ → Types → Type 0
NodeRow order before struct id fs Inside = Coded 0x80 Inside
NodeRow order before union id fs Inside = Coded 0x81 Inside
NodeRow order before struct_list id fs Inside = Coded 0x88 (Named order before (node struct id fs) (Coded 0x80 Inside))
NodeRow order before union_list id fs Inside = Coded 0x89 (Named order before (node union id fs) (Coded 0x81 Inside))

-- an id, a count and members, as the relation given has them
abbrev pub SpellsInside : Order → List ℕ → ℕ → (List ℕ → Types → Type 0) → List ℕ → Types → Type 0
SpellsInside order id count Members bytes after =
    (text : List ℕ) × (size : List ℕ) × (tail : List ℕ) × SpellsText order text id × SpellsSize order size (Some count) × Members tail after × (bytes ≡ text ++ (size ++ tail))

abbrev mutual
  pub SpellsNode : Order → Types → Tree → List ℕ → Types → Type 0
  SpellsNode order before (leaf l) = Named order before (leaf l) (λ bytes after. SpellsLeaf order l bytes × (after ≡ before))
  SpellsNode order before (node k id fs) = Named order before (node k id fs) (NodeRow order before k id fs (SpellsInside order id (count_fields fs) (SpellsMembers order before fs)))

  pub SpellsMembers : Order → Types → Fields → List ℕ → Types → Type 0
  SpellsMembers order before no_fields bytes after = (bytes ≡ []) × (after ≡ before)
  SpellsMembers order before (field name t fs) bytes after =
      (head : List ℕ) × (body : List ℕ) × (tail : List ℕ) × (mid : Types) × SpellsText order head name × SpellsNode order before t body mid × SpellsMembers order mid fs tail after
      × (bytes ≡ head ++ (body ++ tail))

-- A description: null, or a type that has no fault as a whole.
abbrev pub Desc : Order → Types → Option Tree → List ℕ → Types → Type 0
Desc order before None bytes after = (bytes ≡ 0xFF ∷ []) × (after ≡ before)
Desc order before (Some t) bytes after = SpellsNode order before t bytes after × IsType t

-- the one description that is written
abbrev pub written_leaf : Order → Leaf → List ℕ
written_leaf order (plain s) = scalar_code s ∷ []
written_leaf order (list s Variable) = (scalar_code s + 0x08) ∷ []
written_leaf order (list s (Bounded n)) = (scalar_code s + 0x10) ∷ canonical_size order n
written_leaf order (list s (Fixed n)) = (scalar_code s + 0x18) ∷ canonical_size order n
written_leaf order (bound_text n) = 0x83 ∷ canonical_size order n
written_leaf order variant = 0x82 ∷ []
written_leaf order variant_list = 0x8A ∷ []

abbrev pub kind_codes : Kind → List ℕ
kind_codes struct = 0x80 ∷ []
kind_codes union = 0x81 ∷ []
kind_codes struct_list = 0x88 ∷ (0x80 ∷ [])
kind_codes union_list = 0x89 ∷ (0x81 ∷ [])

abbrev mutual
  pub written : Order → Tree → List ℕ
  written order (leaf l) = written_leaf order l
  written order (node k id fs) = kind_codes k ++ (canonical_text order id ++ (canonical_size order (count_fields fs) ++ written_fields order fs))

  pub written_fields : Order → Fields → List ℕ
  written_fields order no_fields = []
  written_fields order (field name t fs) = canonical_text order name ++ (written order t ++ written_fields order fs)

-- the size of a leaf has a spelling
abbrev pub CanLeaf : Leaf → Type 0
CanLeaf (plain s) = Unit {0}
CanLeaf (list s Variable) = Unit {0}
CanLeaf (list s (Bounded n)) = IsSize n
CanLeaf (list s (Fixed n)) = IsSize n
CanLeaf (bound_text n) = IsSize n
CanLeaf variant = Unit {0}
CanLeaf variant_list = Unit {0}

-- the sizes and texts of a type have spellings
abbrev mutual
  pub CanSpell : Tree → Type 0
  CanSpell (leaf l) = CanLeaf l
  CanSpell (node k id fs) = IsText id × IsSize (count_fields fs) × CanSpellFields fs

  pub CanSpellFields : Fields → Type 0
  CanSpellFields no_fields = Unit {0}
  CanSpellFields (field name t fs) = IsText name × CanSpell t × CanSpellFields fs

-- the description of a type, or null
abbrev pub canonical_desc : Order → Option Tree → List ℕ
canonical_desc order None = 0xFF ∷ []
canonical_desc order (Some t) = written order t

-- the description has a spelling
abbrev pub CanDesc : Option Tree → Type 0
CanDesc None = Unit {0}
CanDesc (Some t) = CanSpell t × IsType t

-- What is written is read back, whatever follows, and defines nothing.
abbrev pub ReadBack : Type 0
ReadBack = (order : Order) (before : Types) (t : Option Tree) (rest : List ℕ) → CanDesc t → desc_at order before (canonical_desc order t ++ rest) ≡ Ok (t, rest, before)

-- the laws
abbrev pub Found : Type 0
Found = (order : Order) (before : Types) (bytes : List ℕ) (t : Option Tree) (rest : List ℕ) (after : Types) → IsBytes bytes → desc_at order before bytes ≡ Ok (t, rest, after)
    → (front : List ℕ) × Desc order before t front after × (bytes ≡ front ++ rest)

abbrev pub Only : Type 0
Only = (order : Order) (before : Types) (front rest : List ℕ) (t : Option Tree) (after : Types) → Desc order before t front after → desc_at order before (front ++ rest) ≡ Ok (t, rest, after)

abbrev pub Unique : Type 0
Unique = (order : Order) (before : Types) (a b r s : List ℕ) (t u : Option Tree) (after later : Types) → Desc order before t a after → Desc order before u b later → a ++ r ≡ b ++ s → (t ≡ u) × (r ≡ s) × (after ≡ later)
