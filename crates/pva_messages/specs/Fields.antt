-- An item of a payload with what it says.
use Rattle.std.specs.Prelude.{ℕ, List, Option}
use Rattle.std.specs.Ordering.{nat_cmp}
use Rattle.std.specs.FinSet.{FinSet}
use Rattle.pva_wire.specs.declared.status.Status.{Status}
use Rattle.pvd_type.specs.Tree.{Tree}
use Rattle.pvd_value.specs.Data.{Data}
use Rattle.pva_messages.specs.Items.{Item}
use Rattle.pva_messages.specs.Items as item

-- a type and a value of it, or null
abbrev pub Valued : Type 0
Valued = Option (Tree × Data)

-- a part of a value: its type, the leaves that are marked, and the value
pub record PartData : Type 0 where
  pub ty : Tree
  pub mask : FinSet nat_cmp
  pub value : Data

pub data Field : Type 0 where
  byte : ℕ → Field
  short : ℕ → Field
  word : ℕ → Field
  text : List ℕ → Field
  texts : List (List ℕ) → Field
  channels : List (ℕ × List ℕ) → Field
  status : Status → Field
  description : Option Tree → Field
  valued : Valued → Field
  last_valued : Valued → Field
  part : PartData → Field
  bits : FinSet nat_cmp → Field
  rest : List ℕ → Field

-- which item it is
abbrev pub item_of : Field → Item
item_of (byte n) = item.byte
item_of (short n) = item.short
item_of (word n) = item.word
item_of (text t) = item.text
item_of (texts ts) = item.texts
item_of (channels cs) = item.channels
item_of (status s) = item.status
item_of (description t) = item.description
item_of (valued v) = item.valued
item_of (last_valued v) = item.last_valued
item_of (part p) = item.part p.ty
item_of (bits s) = item.bits
item_of (rest xs) = item.rest
