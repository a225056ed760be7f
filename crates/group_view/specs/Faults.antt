-- Which groups have no type, and why (QSRV manual, "Group PV definitions").
use Rattle.std.specs.Prelude.{◌≡◌, ⊤, ℕ, Bool, true, false, not, ◌&&◌, ◌||◌, ◌==◌, List, [], ◌∷◌, ◌++◌, length}
use Rattle.std.specs.Prelude.{codes, get_or, take, Option, Some, option_map, if◌then◌else◌}
use Rattle.std.specs.Borrow.{Bor}
use Rattle.std.specs.BTreeSet.{BTreeSet, contains_by}
use Rattle.std.specs.Cmp.Lexicographic.{slice_cmp}
use Rattle.std.specs.List.{list_any}
use Rattle.std.specs.Ordering.{nat_cmp, ordering_then}
use Rattle.std.specs.Str.{bytes_eq}
use Rattle.pvd_type.specs.Check.{type_fault}
use Rattle.pvd_type.specs.Numbers.{path_of}
use Rattle.group_defs.specs.declared.def.MemberKind.{MemberKind}
use Rattle.group_defs.specs.declared.def.MemberKind.TheVariants as kinds
use Rattle.group_defs.specs.declared.fault.GroupFault.{GroupFault}
use Rattle.group_defs.specs.declared.fault.GroupFault.TheVariants as faults
use Rattle.group_view.specs.Groups.{GroupData}
use Rattle.group_view.specs.declared.member.Member.{Member}
use Rattle.group_view.specs.Types.{group_tree}

abbrev pub holds_members : MemberKind → Bool
holds_members kinds.Structure = true
holds_members kinds.Whole = false
holds_members kinds.Plain = false
holds_members kinds.Any = false
holds_members kinds.Meta = false
holds_members kinds.Proc = false

-- the names above a name: what stands before each of its dots
abbrev pub above_from : List ℕ → List ℕ → List (List ℕ)
above_from front [] = []
above_from front (b ∷ bs) =
    if b == 46 then front ∷ above_from (front ++ b ∷ []) bs else above_from (front ++ b ∷ []) bs

abbrev pub names_above : List ℕ → List (List ℕ)
names_above name = above_from [] name

-- the names below which no member may stand
abbrev pub closed_names : List Member → List (List ℕ)
closed_names [] = []
closed_names (m ∷ ms) = if holds_members m.def.kind then closed_names ms else m.def.name ∷ closed_names ms

abbrev pub is_among : List (List ℕ) → List ℕ → Bool
is_among names name = list_any (λ other. bytes_eq other name) names

-- whether one of these names stands above a name
abbrev pub is_below : List (List ℕ) → List ℕ → Bool
is_below names name = list_any (is_among names) (names_above name)

-- whether a member stands below one that is no structure
abbrev pub is_misplaced : List Member → Bool
is_misplaced ms = list_any (λ m. is_below (closed_names ms) m.def.name) ms

-- whether no member may stand below this one, and the name is its
abbrev pub is_closed : Member → List ℕ → Bool
is_closed m name = not (holds_members m.def.kind) && bytes_eq m.def.name name

-- the name up to this place is one of these, and a dot follows
abbrev pub is_cut : List (List ℕ) → List ℕ → ℕ → Bool
is_cut names name i = get_or name i 0 == 46 && is_among names (take i name)

-- a set of borrowed texts, each behind its length, has this name
abbrev pub has_name : BTreeSet (ℕ × Bor (List ℕ)) → List ℕ → Bool
has_name set name = contains_by (λ k. ordering_then (nat_cmp (length name) k.0) (slice_cmp nat_cmp name k.1.now)) set

abbrev pub Knows : BTreeSet (ℕ × Bor (List ℕ)) → List (List ℕ) → Type 0
Knows set names = (name : List ℕ) → has_name set name ≡ is_among names name

-- whether a name begins with the one that the alarm or the time stamp has at the top
abbrev pub begins_with : List ℕ → List (List ℕ) → Bool
begins_with name [] = false
begins_with name (first ∷ rest) = bytes_eq first name

abbrev pub is_meta_name : List ℕ → Bool
is_meta_name name = begins_with (codes "alarm") (path_of name) || begins_with (codes "timeStamp") (path_of name)

-- a `proc` alone has no place in the structure
abbrev pub is_placed : MemberKind → Bool
is_placed kinds.Whole = true
is_placed kinds.Plain = true
is_placed kinds.Any = true
is_placed kinds.Meta = true
is_placed kinds.Structure = true
is_placed kinds.Proc = false

abbrev pub is_meta_member : Member → Bool
is_meta_member m = is_placed m.def.kind && is_meta_name m.def.name

-- whether a member stands at or below the place of the alarm or the time stamp that the empty name places at the top
abbrev pub has_empty_name : List Member → Bool
has_empty_name ms = list_any (λ m. length m.def.name == 0) ms

abbrev pub has_meta_name : List Member → Bool
has_meta_name ms = list_any is_meta_member ms

abbrev pub is_doubled : List Member → Bool
is_doubled ms = has_empty_name ms && has_meta_name ms

-- The first fault of a group.
unfoldable pub group_fault : GroupData → Option GroupFault
group_fault g =
    if is_misplaced g.members then Some (faults.BadMember g.name)
    else if is_doubled g.members then Some (faults.SameMember g.name)
    else option_map faults.Shape (type_fault (group_tree g))

-- what a build that answers this fault says of the group; want of memory is free
abbrev pub IsGroupFault : GroupData → GroupFault → Type 0
IsGroupFault g faults.NoMemory = ⊤
IsGroupFault g fault = group_fault g ≡ Some fault
