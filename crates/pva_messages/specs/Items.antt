-- The items that payloads are made of.
use Rattle.pvd_type.specs.Tree.{Tree}

pub data Item : Type 0 where
  -- numbers of 8, 16 and 32 bits
  byte : Item
  short : Item
  word : Item
  text : Item
  -- a size that counts, and so many texts
  texts : Item
  -- a 16-bit count, and so many channels: the client's id and a name each
  channels : Item
  status : Item
  -- the description of a type, or null
  description : Item
  -- a description and, unless it is null, a whole value of the type
  valued : Item
  -- the same, missing exactly where the payload ends before it, and then as if it were null
  last_valued : Item
  -- a part of a value of this type
  part : Tree → Item
  bits : Item
  -- all bytes that are left
  rest : Item
