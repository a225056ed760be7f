-- The items that searches, their responses and beacons are made of, each with what it says (pvAccess Protocol
-- Specification, "Data Encoding").
use Rattle.std.specs.Prelude.{ℕ, List, ◌++◌, length}
use Rattle.std.specs.List.{flat_map}
use Rattle.pva_wire.specs.declared.order.Order.{Order}
use Rattle.pva_wire.specs.Spelling.{number_bytes, canonical_size, canonical_text}

pub data Field : Type 0 where
  -- numbers of 8, 16 and 32 bits
  byte : ℕ → Field
  short : ℕ → Field
  word : ℕ → Field
  -- bytes, as many as the message fixes
  bytes : List ℕ → Field
  text : List ℕ → Field
  -- a size that counts, and so many texts
  texts : List (List ℕ) → Field
  -- a 16-bit count, and so many numbers of 32 bits
  instances : List ℕ → Field
  -- a 16-bit count, and so many channels: the searcher's number for it, of 32 bits, and its name
  channels : List (ℕ × List ℕ) → Field

abbrev pub canonical_channel : Order → ℕ × List ℕ → List ℕ
canonical_channel order c = number_bytes order 4 c.0 ++ canonical_text order c.1

-- the one spelling of an item that is written
abbrev pub canonical_field : Order → Field → List ℕ
canonical_field order (byte n) = number_bytes order 1 n
canonical_field order (short n) = number_bytes order 2 n
canonical_field order (word n) = number_bytes order 4 n
canonical_field order (bytes xs) = xs
canonical_field order (text t) = canonical_text order t
canonical_field order (texts ts) = canonical_size order (length ts) ++ flat_map (canonical_text order) ts
canonical_field order (instances ns) = number_bytes order 2 (length ns) ++ flat_map (number_bytes order 4) ns
canonical_field order (channels cs) = number_bytes order 2 (length cs) ++ flat_map (canonical_channel order) cs

-- the spellings of items one after another
abbrev pub canonical : Order → List Field → List ℕ
canonical order fields = flat_map (canonical_field order) fields
