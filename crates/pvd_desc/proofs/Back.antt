-- What is written is in the grammar.
use Rattle.std.proofs.Common.{inr, ℕ, ◌++◌, ◌∷◌, [], List, Some, None, refl}
use Rattle.pva_wire.specs.declared.order.Order.{Order}
use Rattle.pva_wire.specs.Spelling.{canonical_size, canonical_text}
use Rattle.pva_wire.proofs.OneReading.{canonical_spells, canonical_text_spells}
use Rattle.pvd_type.specs.declared.shape.Extent.TheVariants.{Variable, Bounded, Fixed}
use Rattle.pvd_type.specs.Tree.{Tree, leaf, node, Leaf, plain, bound_text, list, variant, variant_list, Kind, struct, union, struct_list, union_list, Fields, no_fields, field, count_fields}
use Rattle.pvd_desc.specs.Types.{Types}
use Rattle.pvd_desc.specs.Grammar.{SpellsLeaf, SpellsNode, SpellsMembers, Named, NodeRow, CanLeaf, CanSpell, CanSpellFields, written, written_fields, written_leaf, kind_codes, ReadBack}
use Rattle.pvd_desc.proofs.OnlyThis.{only_this}

leaf_written : (o : Order) (l : Leaf) → CanLeaf l → SpellsLeaf o l (written_leaf o l)
leaf_written o (plain s) h = refl
leaf_written o (list s Variable) h = refl
leaf_written o (list s (Bounded n)) h = (canonical_size o n, canonical_spells o n h, refl)
leaf_written o (list s (Fixed n)) h = (canonical_size o n, canonical_spells o n h, refl)
leaf_written o (bound_text n) h = (canonical_size o n, canonical_spells o n h, refl)
leaf_written o variant h = refl
leaf_written o variant_list h = refl

-- a row without definitions before it
bare : (o : Order) (before : Types) (t : Tree) (Row : List ℕ → Types → Type 0) (bytes : List ℕ) → Row bytes before → Named o before t Row bytes before
bare o before t Row bytes row = ([], [], bytes, before, refl, inr row, refl, refl)

row_written : (o : Order) (before : Types) (k : Kind) (id : List ℕ) (fs : Fields) (Inside : List ℕ → Types → Type 0) (body : List ℕ) → Inside body before → NodeRow o before k id fs Inside (kind_codes k ++ body) before
row_written o before struct id fs Inside body h = (body, h, refl)
row_written o before union id fs Inside body h = (body, h, refl)
row_written o before struct_list id fs Inside body h = (0x80 ∷ body, bare o before (node struct id fs) _ (0x80 ∷ body) (body, h, refl), refl)
row_written o before union_list id fs Inside body h = (0x81 ∷ body, bare o before (node union id fs) _ (0x81 ∷ body) (body, h, refl), refl)

mutual
  pub node_written : (o : Order) (before : Types) (t : Tree) → CanSpell t → SpellsNode o before t (written o t) before
  node_written o before (leaf l) h = bare o before (leaf l) _ (written_leaf o l) (leaf_written o l h, refl)
  node_written o before (node k id fs) h =
      bare o before (node k id fs) _ (written o (node k id fs))
      (row_written o before k id fs _ (canonical_text o id ++ (canonical_size o (count_fields fs) ++ written_fields o fs))
      (canonical_text o id, canonical_size o (count_fields fs), written_fields o fs, canonical_text_spells o id h.0.1 h.0.0, canonical_spells o (count_fields fs) h.1, fields_written o before fs h.2, refl))

  pub fields_written : (o : Order) (before : Types) (fs : Fields) → CanSpellFields fs → SpellsMembers o before fs (written_fields o fs) before
  fields_written o before no_fields h = (refl, refl)
  fields_written o before (field name t fs) h =
      (canonical_text o name, written o t, written_fields o fs, before, canonical_text_spells o name h.0.1 h.0.0, node_written o before t h.1, fields_written o before fs h.2, refl)

pub read_back : ReadBack
read_back o before None rest can = only_this o before (0xFF ∷ []) rest None before (refl, refl)
read_back o before (Some t) rest can = only_this o before (written o t) rest (Some t) before (node_written o before t can.0, can.1)
