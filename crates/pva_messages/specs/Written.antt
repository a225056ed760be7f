-- The one spelling of an item that is written.
use Rattle.std.specs.Prelude.{◌≡◌, ◌<◌, ◌^◌, ℕ, true, List, ◌++◌, length, Some, None}
use Rattle.std.specs.List.{flat_map}
use Rattle.std.specs.FinSet.{contains}
use Rattle.pva_wire.specs.declared.order.Order.{Order}
use Rattle.pva_wire.specs.Spelling.{IsSize, IsText, number_bytes, canonical_size, canonical_text}
use Rattle.pva_wire.specs.Bits.{AllLow, canonical_bits}
use Rattle.pva_wire.specs.Status.{CanStatus, canonical_status}
use Rattle.pvd_type.specs.Check.{IsType}
use Rattle.pvd_value.specs.Fits.{fits_of}
use Rattle.pvd_value.specs.Blank.{blank_of}
use Rattle.pvd_value.specs.Merge.{merged}
use Rattle.pvd_desc.specs.Grammar.{CanDesc, canonical_desc}
use Rattle.pvd_codec.specs.Written.{canonical_value, canonical_part, CanValue, CanMarked, CanEach, HoldsLeaves}
use Rattle.pva_messages.specs.Fields.{Field, Valued, PartData, byte, short, word, text, texts, channels, status}
use Rattle.pva_messages.specs.Fields.{description, valued, last_valued, part, bits, rest}

abbrev pub canonical_channel : Order → ℕ × List ℕ → List ℕ
canonical_channel order c = number_bytes order 4 c.0 ++ canonical_text order c.1

abbrev pub canonical_valued : Order → Valued → List ℕ
canonical_valued order None = canonical_desc order None
canonical_valued order (Some v) = canonical_desc order (Some v.0) ++ canonical_value order v.1 v.0

abbrev pub canonical_field : Order → Field → List ℕ
canonical_field order (byte n) = number_bytes order 1 n
canonical_field order (short n) = number_bytes order 2 n
canonical_field order (word n) = number_bytes order 4 n
canonical_field order (text t) = canonical_text order t
canonical_field order (texts ts) = canonical_size order (length ts) ++ flat_map (canonical_text order) ts
canonical_field order (channels cs) = number_bytes order 2 (length cs) ++ flat_map (canonical_channel order) cs
canonical_field order (status s) = canonical_status order s
canonical_field order (description t) = canonical_desc order t
canonical_field order (valued v) = canonical_valued order v
canonical_field order (last_valued v) = canonical_valued order v
canonical_field order (part p) = canonical_part order p.mask p.value p.ty
canonical_field order (bits s) = canonical_bits order s
canonical_field order (rest xs) = xs

-- the spellings of items one after another
abbrev pub canonical : Order → List Field → List ℕ
canonical order fields = flat_map (canonical_field order) fields

-- a value fits its type, and the mask of a part marks leaves alone
abbrev pub FitsValued : Valued → Type 0
FitsValued None = Unit {0}
FitsValued (Some v) = fits_of 16 v.1 v.0 ≡ true

abbrev pub FitsField : Field → Type 0
FitsField (valued v) = FitsValued v
FitsField (last_valued v) = FitsValued v
FitsField (part p) = (fits_of 16 p.value p.ty ≡ true) × HoldsLeaves p.ty p.mask
FitsField field = Unit {0}

-- the numbers, sizes, texts and types of an item have spellings
abbrev pub CanChannel : ℕ × List ℕ → Type 0
CanChannel c = (c.0 < 2 ^ 32) × IsText c.1

abbrev pub CanValued : Valued → Type 0
CanValued None = Unit {0}
CanValued (Some v) = CanDesc (Some v.0) × CanValue v.1 v.0

abbrev pub CanField : Field → Type 0
CanField (byte n) = n < 2 ^ 8
CanField (short n) = n < 2 ^ 16
CanField (word n) = n < 2 ^ 32
CanField (text t) = IsText t
CanField (texts ts) = IsSize (length ts) × CanEach IsText ts
CanField (channels cs) = (length cs < 2 ^ 16) × CanEach CanChannel cs
CanField (status s) = CanStatus s
CanField (description t) = CanDesc t
CanField (valued v) = CanValued v
CanField (last_valued v) = CanValued v
CanField (part p) = IsType p.ty × CanMarked (contains p.mask) 0 p.value p.ty
CanField (bits s) = AllLow s
CanField (rest xs) = Unit {0}

-- what a reader sees of an item that was written: the leaves of a part that aren't marked are blank
abbrev pub seen_part : PartData → PartData
seen_part p = record p { value = merged (contains p.mask) 0 p.ty (blank_of p.ty) p.value }

abbrev pub seen : Field → Field
seen (part p) = part (seen_part p)
seen field = field
