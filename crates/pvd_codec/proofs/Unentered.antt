-- A leaf by itself: what is written of it and read as it, where it is marked.
use Rattle.std.proofs.Common.{◌≡◌, ℕ, Bool, true, refl}
use Rattle.pva_wire.specs.declared.order.Order.{Order}
use Rattle.pvd_type.specs.Tree.{Tree, leaf, node, struct, union, struct_list, union_list}
use Rattle.pvd_type.specs.Numbers.{is_leaf}
use Rattle.pvd_value.specs.Data.{Data, single, many, members, unset, selected, empty, carried, structs, unions, variants}
use Rattle.pvd_codec.specs.Reading.{State, slot_at, marked_with}
use Rattle.pvd_codec.specs.Written.{canonical_leaf, canonical_marked, CanLeaf, CanMarked}

module _ (o : Order) (marked : ℕ → Bool) (n : ℕ) where
  pub leaf_written : (v : Data) (t : Tree) → is_leaf t ≡ true → canonical_marked o marked n v t ≡ canonical_leaf o (marked n) v t
  leaf_written v (node struct id fs) h = absurd cc
  leaf_written (single x) (leaf l) h = refl
  leaf_written (many xs) (leaf l) h = refl
  leaf_written (members vs) (leaf l) h = refl
  leaf_written unset (leaf l) h = refl
  leaf_written (selected k v) (leaf l) h = refl
  leaf_written empty (leaf l) h = refl
  leaf_written (carried u v) (leaf l) h = refl
  leaf_written (structs vs) (leaf l) h = refl
  leaf_written (unions vs) (leaf l) h = refl
  leaf_written (variants vs) (leaf l) h = refl
  leaf_written (single x) (node union id fs) h = refl
  leaf_written (many xs) (node union id fs) h = refl
  leaf_written (members vs) (node union id fs) h = refl
  leaf_written unset (node union id fs) h = refl
  leaf_written (selected k v) (node union id fs) h = refl
  leaf_written empty (node union id fs) h = refl
  leaf_written (carried u v) (node union id fs) h = refl
  leaf_written (structs vs) (node union id fs) h = refl
  leaf_written (unions vs) (node union id fs) h = refl
  leaf_written (variants vs) (node union id fs) h = refl
  leaf_written (single x) (node struct_list id fs) h = refl
  leaf_written (many xs) (node struct_list id fs) h = refl
  leaf_written (members vs) (node struct_list id fs) h = refl
  leaf_written unset (node struct_list id fs) h = refl
  leaf_written (selected k v) (node struct_list id fs) h = refl
  leaf_written empty (node struct_list id fs) h = refl
  leaf_written (carried u v) (node struct_list id fs) h = refl
  leaf_written (structs vs) (node struct_list id fs) h = refl
  leaf_written (unions vs) (node struct_list id fs) h = refl
  leaf_written (variants vs) (node struct_list id fs) h = refl
  leaf_written (single x) (node union_list id fs) h = refl
  leaf_written (many xs) (node union_list id fs) h = refl
  leaf_written (members vs) (node union_list id fs) h = refl
  leaf_written unset (node union_list id fs) h = refl
  leaf_written (selected k v) (node union_list id fs) h = refl
  leaf_written empty (node union_list id fs) h = refl
  leaf_written (carried u v) (node union_list id fs) h = refl
  leaf_written (structs vs) (node union_list id fs) h = refl
  leaf_written (unions vs) (node union_list id fs) h = refl
  leaf_written (variants vs) (node union_list id fs) h = refl

  pub leaf_read : (t : Tree) (st : State) → is_leaf t ≡ true → marked_with o marked n t st ≡ slot_at (marked n) o t st
  unfolding marked_with
  leaf_read (node struct id fs) st h = absurd cc
  leaf_read (leaf l) st h = refl
  leaf_read (node union id fs) st h = refl
  leaf_read (node struct_list id fs) st h = refl
  leaf_read (node union_list id fs) st h = refl

pub leaf_can : (marked : ℕ → Bool) (n : ℕ) (v : Data) (t : Tree) → is_leaf t ≡ true → CanLeaf (marked n) v t → CanMarked marked n v t
leaf_can marked n v (node struct id fs) h can = absurd cc
leaf_can marked n (single x) (leaf l) h can = can
leaf_can marked n (many xs) (leaf l) h can = can
leaf_can marked n (members vs) (leaf l) h can = can
leaf_can marked n unset (leaf l) h can = can
leaf_can marked n (selected k v) (leaf l) h can = can
leaf_can marked n empty (leaf l) h can = can
leaf_can marked n (carried u v) (leaf l) h can = can
leaf_can marked n (structs vs) (leaf l) h can = can
leaf_can marked n (unions vs) (leaf l) h can = can
leaf_can marked n (variants vs) (leaf l) h can = can
leaf_can marked n (single x) (node union id fs) h can = can
leaf_can marked n (many xs) (node union id fs) h can = can
leaf_can marked n (members vs) (node union id fs) h can = can
leaf_can marked n unset (node union id fs) h can = can
leaf_can marked n (selected k v) (node union id fs) h can = can
leaf_can marked n empty (node union id fs) h can = can
leaf_can marked n (carried u v) (node union id fs) h can = can
leaf_can marked n (structs vs) (node union id fs) h can = can
leaf_can marked n (unions vs) (node union id fs) h can = can
leaf_can marked n (variants vs) (node union id fs) h can = can
leaf_can marked n (single x) (node struct_list id fs) h can = can
leaf_can marked n (many xs) (node struct_list id fs) h can = can
leaf_can marked n (members vs) (node struct_list id fs) h can = can
leaf_can marked n unset (node struct_list id fs) h can = can
leaf_can marked n (selected k v) (node struct_list id fs) h can = can
leaf_can marked n empty (node struct_list id fs) h can = can
leaf_can marked n (carried u v) (node struct_list id fs) h can = can
leaf_can marked n (structs vs) (node struct_list id fs) h can = can
leaf_can marked n (unions vs) (node struct_list id fs) h can = can
leaf_can marked n (variants vs) (node struct_list id fs) h can = can
leaf_can marked n (single x) (node union_list id fs) h can = can
leaf_can marked n (many xs) (node union_list id fs) h can = can
leaf_can marked n (members vs) (node union_list id fs) h can = can
leaf_can marked n unset (node union_list id fs) h can = can
leaf_can marked n (selected k v) (node union_list id fs) h can = can
leaf_can marked n empty (node union_list id fs) h can = can
leaf_can marked n (carried u v) (node union_list id fs) h can = can
leaf_can marked n (structs vs) (node union_list id fs) h can = can
leaf_can marked n (unions vs) (node union_list id fs) h can = can
leaf_can marked n (variants vs) (node union_list id fs) h can = can
