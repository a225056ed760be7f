-- Which bytes spell an item, and which spell the items of a row (pvAccess Protocol Specification, "Data Encoding" and
-- "Application Messages").
use Rattle.std.specs.Prelude.{◌≡◌, ◌⊎◌, ℕ, List, [], ◌∷◌, ◌++◌, length, map, Some, None}
use Rattle.pva_wire.specs.declared.order.Order.{Order}
use Rattle.pva_wire.specs.Spelling.{SpellsNumber, SpellsText}
use Rattle.pva_wire.specs.Bits.{SpellsBits}
use Rattle.pva_wire.specs.Status.{SpellsStatus}
use Rattle.pvd_desc.specs.Types.{Types}
use Rattle.pvd_desc.specs.Grammar.{Desc}
use Rattle.pvd_codec.specs.Grammar.{SpellsItems, Counted, Full, Part}
use Rattle.pva_messages.specs.Fields.{Field, Valued, item_of, byte, short, word, text, texts, channels, status}
use Rattle.pva_messages.specs.Fields.{description, valued, last_valued, part, bits, rest}
use Rattle.pva_messages.specs.Rows.{Stage}

-- a channel's id and name
abbrev pub SpellsChannel : Order → List ℕ → ℕ × List ℕ → Type 0
SpellsChannel order bytes c =
    (head : List ℕ) × (tail : List ℕ) × SpellsNumber order 4 head c.0 × SpellsText order tail c.1
    × (bytes ≡ head ++ tail)

abbrev pub SpellsChannels : Order → List ℕ → List (ℕ × List ℕ) → Type 0
SpellsChannels order bytes cs =
    (head : List ℕ) × (tail : List ℕ) × SpellsNumber order 2 head (length cs)
    × SpellsItems (SpellsChannel order) tail cs × (bytes ≡ head ++ tail)

-- null, or a type and a value of it
abbrev pub SpellsValued : Order → Types → List ℕ → Valued → Types → Type 0
SpellsValued order before bytes None after = Desc order before None bytes after
SpellsValued order before bytes (Some v) after =
    (head : List ℕ) × (tail : List ℕ) × (mid : Types) × Desc order before (Some v.0) head mid
    × Full order mid v.0 tail v.1 after × (bytes ≡ head ++ tail)

-- The bytes spell the item, after the types that are known before; its descriptions may define types, which are known
-- after. What follows it in the payload matters to two items alone: the rest, and a value that is missing where the
-- payload ends.
abbrev pub Spells : Order → Field → Types → List ℕ → Types → List ℕ → Type 0
Spells order (byte n) before bytes after follow = SpellsNumber order 1 bytes n × (after ≡ before)
Spells order (short n) before bytes after follow = SpellsNumber order 2 bytes n × (after ≡ before)
Spells order (word n) before bytes after follow = SpellsNumber order 4 bytes n × (after ≡ before)
Spells order (text t) before bytes after follow = SpellsText order bytes t × (after ≡ before)
Spells order (texts ts) before bytes after follow =
    Counted order (length ts) (λ tail. SpellsItems (SpellsText order) tail ts) bytes × (after ≡ before)
Spells order (channels cs) before bytes after follow = SpellsChannels order bytes cs × (after ≡ before)
Spells order (status s) before bytes after follow = SpellsStatus order bytes s × (after ≡ before)
Spells order (description t) before bytes after follow = Desc order before t bytes after
Spells order (valued v) before bytes after follow = SpellsValued order before bytes v after
Spells order (last_valued v) before bytes after follow =
    ((v ≡ None) × (bytes ≡ []) × (follow ≡ []) × (after ≡ before)) ⊎ SpellsValued order before bytes v after
Spells order (part p) before bytes after follow = Part order before p.ty bytes p.mask p.value after
Spells order (bits s) before bytes after follow = SpellsBits order bytes s × (after ≡ before)
Spells order (rest xs) before bytes after follow = (bytes ≡ xs) × (follow ≡ []) × (after ≡ before)

-- items one after another
abbrev pub SpellsAll : Order → List Field → Types → List ℕ → Types → List ℕ → Type 0
SpellsAll order [] before bytes after follow = (bytes ≡ []) × (after ≡ before)
SpellsAll order (field ∷ fields) before bytes after follow =
    (head : List ℕ) × (tail : List ℕ) × (mid : Types) × Spells order field before head mid (tail ++ follow)
    × SpellsAll order fields mid tail after follow
    × (bytes ≡ head ++ tail)

-- The fields are those of a row's stages, behind the fields that stand before them.
abbrev pub OfRow : List Stage → List Field → List Field → Type 0
OfRow [] done fields = fields ≡ []
OfRow (stage ∷ stages) done fields =
    (these : List Field) × (others : List Field) × (map item_of these ≡ stage done)
    × OfRow stages (done ++ these) others × (fields ≡ these ++ others)
