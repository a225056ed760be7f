-- Where the members of a group stand in its structure (QSRV manual, "Group PV definitions").
use Rattle.std.specs.Prelude.{ℕ, zero, suc, ⊤, List, [], ◌∷◌, ◌++◌, map, fold, Option, None, Some, codes, if◌then◌else◌}
use Rattle.std.specs.declared.cmp.Ordering.{Ordering}
use Rattle.std.specs.BTreeMap.{insert_entry}
use Rattle.std.specs.Cmp.Lexicographic.{slice_cmp}
use Rattle.std.specs.List.{flat_map, enumerate_from}
use Rattle.std.specs.Str.{bytes_eq}
use Rattle.pvd_type.specs.Numbers.{path_of}
use Rattle.group_defs.specs.Order.{text_cmp}
use Rattle.group_defs.specs.declared.def.MemberKind.{MemberKind}
use Rattle.group_defs.specs.declared.def.MemberKind.TheVariants as kinds
use Rattle.group_view.specs.Links.{Link}
use Rattle.group_view.specs.Groups.{GroupData}
use Rattle.group_view.specs.declared.member.Member.{Member}
use Rattle.group_view.specs.declared.entry.Entry.{Entry}
use Rattle.group_view.specs.declared.entry.Entry.TheVariants.{Shown, WithId}
use Rattle.group_view.specs.Sources.{Source}
use Rattle.group_view.specs.declared.piece.Piece.{Piece}
use Rattle.group_view.specs.declared.piece.Piece.TheVariants as pieces

-- The structure of a group: under each name what is shown there, or a structure with an id.
mutual
  pub data Slot : Type 0 where
    shows : Source → Slot
    level : List ℕ → Slots → Slot

  pub data Slots : Type 0 where
    no_slots : Slots
    slot : List ℕ → Slot → Slots → Slots

-- the names that lead to a place
abbrev pub Path : Type 0
Path = List (List ℕ)

abbrev pub path_cmp : Path → Path → Ordering
path_cmp = slice_cmp text_cmp

-- ---- what a member puts where

unfoldable pub alarm_path : Path
alarm_path = codes "alarm" ∷ []

unfoldable pub time_path : Path
time_path = codes "timeStamp" ∷ []

-- The empty name places alarm and time stamp at the top.
abbrev pub meta_pieces : List ℕ → List (Path × Piece)
meta_pieces [] = (alarm_path, pieces.Alarm) ∷ (time_path, pieces.Time) ∷ []
meta_pieces (c ∷ cs) = (path_of (c ∷ cs), pieces.Meta) ∷ []

-- what a member of this kind and name shows of its record
abbrev pub pieces_of : MemberKind → List ℕ → List (Path × Piece)
pieces_of kinds.Whole name = (path_of name, pieces.Whole) ∷ []
pieces_of kinds.Plain name = (path_of name, pieces.Plain) ∷ []
pieces_of kinds.Any name = (path_of name, pieces.Any) ∷ []
pieces_of kinds.Meta name = meta_pieces name
pieces_of kinds.Proc name = []
pieces_of kinds.Structure name = []

abbrev pub shown_of : ℕ → Link → Path × Piece → Path × Entry
shown_of n link p = (p.0, Shown (record { member = n; piece = p.1; link = link }))

abbrev pub shown_by : ℕ → MemberKind → List ℕ → Option Link → List (Path × Entry)
shown_by n kind name None = []
shown_by n kind name (Some link) = map (shown_of n link) (pieces_of kind name)

abbrev pub ids_of : MemberKind → List ℕ → List ℕ → List (Path × Entry)
ids_of kinds.Structure name id = (path_of name, WithId id) ∷ []
ids_of kind name id = []

-- what a member and its number put where: a `structure` gives its id, and no other member's id has an effect
abbrev pub entries_by : ℕ × Member → List (Path × Entry)
entries_by m = ids_of m.1.def.kind m.1.def.name m.1.def.id ++ shown_by m.0 m.1.def.kind m.1.def.name m.1.link

abbrev pub entries_of : List Member → List (Path × Entry)
entries_of ms = flat_map entries_by (enumerate_from 0 ms)

-- entries by their paths, each level in the order of the bytes of its names
abbrev pub added : List (Path × Entry) → Path × Entry → List (Path × Entry)
added sorted e = insert_entry path_cmp sorted e.0 e.1

abbrev pub added_all : List (Path × Entry) → List (Path × Entry) → List (Path × Entry)
added_all sorted es = fold added sorted es

abbrev pub in_order : List (Path × Entry) → List (Path × Entry)
in_order es = added_all [] es

-- ---- the structure that they make

-- slots with one more behind them
abbrev pub with_last : List ℕ → Slot → Slots → Slots
with_last name new no_slots = slot name new no_slots
with_last name new (slot other s ss) = slot other s (with_last name new ss)

-- What is made of the structure that stands last, where it has this name, and else of a new one behind the others.
abbrev pub in_last : List ℕ → (List ℕ → Slots → Slot) → Slots → Slots
in_last name make no_slots = slot name (make [] no_slots) no_slots
in_last name make (slot other (level id inner) no_slots) =
    if bytes_eq name other then slot name (make id inner) no_slots
    else slot other (level id inner) (slot name (make [] no_slots) no_slots)
in_last name make (slot other s ss) = slot other s (in_last name make ss)

-- an entry behind slots, each of which comes before it
abbrev pub behind : Path → Entry → Slots → Slots
behind [] e ss = ss
behind (name ∷ []) (Shown s) ss = with_last name (shows s) ss
behind (name ∷ []) (WithId id) ss = in_last name (λ _ inner. level id inner) ss
behind (name ∷ next ∷ path) e ss = in_last name (λ id inner. level id (behind (next ∷ path) e inner)) ss

-- the slots of entries that stand in order
abbrev pub slots_of : List (Path × Entry) → Slots
slots_of es = fold (λ ss e. behind e.0 e.1 ss) no_slots es

-- the same with at most so many levels: what lies deeper is left out
abbrev pub behind_to : ℕ → Path → Entry → Slots → Slots
behind_to zero path e ss = ss
behind_to (suc room) [] e ss = ss
behind_to (suc room) (name ∷ []) (Shown s) ss = with_last name (shows s) ss
behind_to (suc room) (name ∷ []) (WithId id) ss = in_last name (λ _ inner. level id inner) ss
behind_to (suc room) (name ∷ next ∷ path) e ss =
    in_last name (λ id inner. level id (behind_to room (next ∷ path) e inner)) ss

abbrev pub slots_to : ℕ → List (Path × Entry) → Slots
slots_to room es = fold (λ ss e. behind_to room e.0 e.1 ss) no_slots es

-- each source of a structure is so
abbrev mutual
  pub EachShown : (Source → Type 0) → Slot → Type 0
  EachShown P (shows s) = P s
  EachShown P (level id ss) = EachOfShown P ss

  pub EachOfShown : (Source → Type 0) → Slots → Type 0
  EachOfShown P no_slots = ⊤
  EachOfShown P (slot name s ss) = EachShown P s × EachOfShown P ss

-- The structure of a group.
unfoldable pub structure_of : GroupData → Slot
structure_of g = level g.id (slots_of (in_order (entries_of g.members)))
