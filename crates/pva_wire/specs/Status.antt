-- How the outcome of an operation is spelled (pvAccess Protocol Specification, "Status").
use Rattle.std.specs.Prelude.{◌≡◌, ◌⊎◌, ℕ, Bool, true, false, ◌==◌, if◌then◌else◌, List, [], ◌∷◌, ◌++◌, length, Option, Some, None, Ok, Err}
use Rattle.pva_wire.specs.declared.order.Order.{Order}
use Rattle.pva_wire.specs.declared.fault.Cause.TheVariants.{Short, Range}
use Rattle.pva_wire.specs.declared.status.Status.{Status}
use Rattle.pva_wire.specs.declared.status.StatusKind.{StatusKind}
use Rattle.pva_wire.specs.declared.status.StatusKind.TheVariants.{Good, Warning, Error, Fatal}
use Rattle.pva_wire.specs.Spelling.{SpellsText, canonical_text, IsText}
use Rattle.pva_wire.specs.Reading.{Read, ◌>>=◌, text_at}

-- OK without texts
abbrev pub good : Status
good = record { kind = Good; message = []; tree = [] }

-- the first byte of a kind that stands before its texts
abbrev pub kind_code : StatusKind → ℕ
kind_code Good = 0
kind_code Warning = 1
kind_code Error = 2
kind_code Fatal = 3

-- the kind, the message and the call tree
abbrev pub SpellsParts : Order → List ℕ → Status → Type 0
SpellsParts order bytes s =
    (message : List ℕ) × (tree : List ℕ) × SpellsText order message s.message × SpellsText order tree s.tree
    × (bytes ≡ kind_code s.kind ∷ (message ++ tree))

-- A status is 255, which is OK without texts, or its parts.
abbrev pub SpellsStatus : Order → List ℕ → Status → Type 0
SpellsStatus order bytes s = ((bytes ≡ 255 ∷ []) × (s ≡ good)) ⊎ SpellsParts order bytes s

abbrev pub is_empty_good : StatusKind → List ℕ → List ℕ → Bool
is_empty_good Good [] [] = true
is_empty_good kind message tree = false

-- whether a status is OK without texts
abbrev pub is_plain : Status → Bool
is_plain s = is_empty_good s.kind s.message s.tree

-- the kind and both texts
abbrev pub spelled_out : Order → Status → List ℕ
spelled_out order s = kind_code s.kind ∷ (canonical_text order s.message ++ canonical_text order s.tree)

-- the one spelling that is written
abbrev pub canonical_status : Order → Status → List ℕ
canonical_status order s = if is_plain s then 255 ∷ [] else spelled_out order s

-- a status whose texts have spellings
abbrev pub CanStatus : Status → Type 0
CanStatus s = IsText s.message × IsText s.tree

-- the kind that a first byte stands for
unfoldable pub kind_of : ℕ → Option StatusKind
kind_of b =
    if b == 0 then Some Good
    else if b == 1 then Some Warning
    else if b == 2 then Some Error
    else if b == 3 then Some Fatal
    else None

-- the texts of a status of this kind, whose first byte had so many bytes from it on
abbrev pub parts_at : Order → ℕ → Option StatusKind → List ℕ → Read Status
parts_at order left None bytes = Err (Range, left)
parts_at order left (Some kind) bytes = do
  message ← text_at order bytes
  tree ← text_at order message.1
  Ok (record { kind = kind; message = message.0; tree = tree.0 }, tree.1)

-- a status
unfoldable pub status_at : Order → List ℕ → Read Status
status_at order [] = Err (Short, 0)
status_at order (b ∷ bytes) = if b == 255 then Ok (good, bytes) else parts_at order (length (b ∷ bytes)) (kind_of b) bytes
