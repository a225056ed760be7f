-- Which leaves of a group which member shows, what a record triggers, and what is read for it.
use Rattle.std.specs.Prelude.{ℕ, suc, Bool, false, ◌==◌, true, List, [], ◌∷◌, ◌++◌, map, fold, filter}
use Rattle.std.specs.Prelude.{Option, None, Some, slice_get, option_map, if◌then◌else◌}
use Rattle.std.specs.Option.{option_and_then, option_map_or}
use Rattle.std.specs.declared.vec.Vec.{Vec}
use Rattle.std.specs.List.{flat_map, filter_map}
use Rattle.std.specs.BTreeMap.{BTreeMap, get_by}
use Rattle.std.specs.BTreeSet.{insert_key}
use Rattle.std.specs.FinSet.{FinSet, empty, insert}
use Rattle.std.specs.Ordering.{nat_cmp}
use Rattle.pvd_type.specs.Numbers.{numbered, is_leaf}
use Rattle.pvd_type.specs.Tree.{Tree}
use Rattle.group_defs.specs.declared.def.MemberKind.{MemberKind}
use Rattle.group_defs.specs.declared.def.MemberKind.TheVariants as kinds
use Rattle.group_view.specs.Groups.{GroupData}
use Rattle.group_view.specs.Links.{Link}
use Rattle.group_view.specs.declared.member.Member.{Member}
use Rattle.group_view.specs.Sources.{Source}
use Rattle.group_view.specs.Slots.{Slot, shows, level, Slots, no_slots, slot, structure_of}
use Rattle.group_view.specs.Types.{source_tree}

-- a source shows a leaf
abbrev pub source_at : Source → Tree → Option Source
source_at s t = if is_leaf t then Some s else None

-- What is shown under each number of the type, and none at a structure.
abbrev mutual
  pub sources : Slot → List (Option Source)
  sources (shows s) = map (source_at s) (numbered (source_tree s))
  sources (level id ss) = None ∷ sources_among ss

  pub sources_among : Slots → List (Option Source)
  sources_among no_slots = []
  sources_among (slot name s ss) = sources s ++ sources_among ss

-- the number of the member that shows a leaf, and the test that it is this one
abbrev pub member_in : Option Source → Option ℕ
member_in o = option_map (λ s. s.member) o

abbrev pub shown_at : ℕ → Tree → Option ℕ
shown_at n t = if is_leaf t then Some n else None

abbrev pub is_number : ℕ → Option ℕ → Bool
is_number n None = false
is_number n (Some m) = m == n

abbrev pub is_of : ℕ → Option Source → Bool
is_of n o = is_number n (member_in o)

-- the numbers, from k on, of what passes
abbrev pub places : {A : Type 0} → (A → Bool) → ℕ → List A → List ℕ
places passes k [] = []
places passes k (x ∷ xs) = if passes x then k ∷ places passes (suc k) xs else places passes (suc k) xs

-- The numbers of the leaves that the member of this number shows, in rising order.
unfoldable pub leaves_of : GroupData → ℕ → List ℕ
leaves_of g n = places (is_of n) 0 (sources (structure_of g))

-- the same, from lists for each member
abbrev pub leaves_at : {Y : Type 0} → List (Vec ℕ Y) → ℕ → List ℕ
leaves_at own n = option_map_or (λ v. v.items) (slice_get own n) []

-- ---- what a record triggers

abbrev pub is_about : ℕ → Option Link → Bool
is_about rec None = false
is_about rec (Some l) = l.rec == rec

-- the members that a record triggers: those that one of its own members names
abbrev pub triggered_by : List Member → ℕ → List ℕ
triggered_by ms rec = flat_map (λ m. m.def.trigger) (filter (λ m. is_about rec m.link) ms)

-- the numbers that stand in a map under a record
abbrev pub numbers_at : {Y : Type 0} → BTreeMap ℕ (Vec ℕ Y) → ℕ → List ℕ
numbers_at found rec = option_map_or (λ v. v.items) (get_by (nat_cmp rec) found) []

-- The leaves that a record triggers.
unfoldable pub triggered : GroupData → ℕ → FinSet nat_cmp
triggered g rec = fold insert empty (flat_map (leaves_of g) (triggered_by g.members rec))

-- whether a member of this kind shows something
abbrev pub reads : MemberKind → Bool
reads kinds.Whole = true
reads kinds.Plain = true
reads kinds.Any = true
reads kinds.Meta = true
reads kinds.Proc = false
reads kinds.Structure = false

-- the record that a member shows
abbrev pub read_by : Member → Option ℕ
read_by m = if reads m.def.kind then option_map (λ l. l.rec) m.link else None

-- numbers in rising order, each once
abbrev pub rising : List ℕ → List ℕ
rising ns = fold (insert_key nat_cmp) [] ns

-- the records that the members of these numbers show
abbrev pub records_read : List Member → List ℕ → List ℕ
records_read ms ns = rising (filter_map (λ n. option_and_then read_by (slice_get ms n)) ns)

-- The records that the leaves read which a record triggers.
unfoldable pub footprint : GroupData → ℕ → List ℕ
footprint g rec = records_read g.members (triggered_by g.members rec)

-- All records of members.
abbrev pub records_of : List Member → List ℕ
records_of ms = rising (filter_map (λ m. option_map (λ l. l.rec) m.link) ms)
