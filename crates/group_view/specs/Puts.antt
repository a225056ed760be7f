-- What a put to a group does (QSRV manual, "Group PV definitions", `+putorder`).
use Rattle.std.specs.Prelude.{◌≡◌, ⊤, ℕ, ℤ, List, [], ◌∷◌, ◌++◌, map, fold, Option, None, Some, option_map}
use Rattle.std.specs.Prelude.{Result, Ok, Err, MatchOption, slice_get, if◌then◌else◌}
use Rattle.std.specs.declared.cmp.Ordering.{Ordering}
use Rattle.std.specs.Ordering.{nat_cmp, int_cmp, ordering_then}
use Rattle.std.specs.BTreeMap.{insert_entry}
use Rattle.std.specs.FinSet.{FinSet, contains}
use Rattle.std.specs.List.{enumerate_from}
use Rattle.pvd_type.specs.Numbers.{numbered}
use Rattle.pvd_type.specs.Tree.{Tree}
use Rattle.pvd_value.specs.Data.{Data}
use Rattle.pvd_value.specs.Leaves.{leaf_at}
use Rattle.rec_kinds.specs.Configs.{Config}
use Rattle.rec_kinds.specs.Validity.{MayBeDone}
use Rattle.rec_kinds.specs.declared.datum.Action.{Action}
use Rattle.rec_kinds.specs.declared.datum.Action.TheVariants.{Process}
use Rattle.rec_kinds.specs.declared.put.PutRefusal.TheVariants.{NothingWritable}
use Rattle.rec_fields.specs.Plain.{plain_tree, leaf_action}
use Rattle.rec_fields.specs.declared.puts.FieldAnswer.{FieldAnswer}
use Rattle.rec_fields.specs.declared.puts.FieldAnswer.TheVariants.{Refused, NoMemory}
use Rattle.group_defs.specs.declared.def.MemberKind.{MemberKind}
use Rattle.group_defs.specs.declared.def.MemberKind.TheVariants as kinds
use Rattle.group_view.specs.Groups.{GroupData}
use Rattle.group_view.specs.Links.{Link}
use Rattle.group_view.specs.declared.member.Member.{Member}
use Rattle.group_view.specs.declared.writer.Writer.{Writer}
use Rattle.group_view.specs.declared.writer.Writing.{Writing}
use Rattle.group_view.specs.declared.writer.Writing.TheVariants.{Writes, Processes}
use Rattle.group_view.specs.Leaves.{leaves_of}
use Rattle.group_view.specs.Types.{group_tree}

-- ---- the writable members, in put order

-- what a put does with a member of this kind: it writes this leaf, or processes the record
abbrev pub writing_of : MemberKind → Option ℕ → Option Writing
writing_of kinds.Whole leaf = option_map Writes leaf
writing_of kinds.Plain leaf = option_map Writes leaf
writing_of kinds.Any leaf = None
writing_of kinds.Meta leaf = None
writing_of kinds.Proc leaf = Some Processes
writing_of kinds.Structure leaf = None

-- a place in put order: the member's own, and its number among those that have the same
abbrev pub Place : Type 0
Place = ℤ × ℕ

abbrev pub place_cmp : Place → Place → Ordering
place_cmp a b = ordering_then (int_cmp a.0 b.0) (nat_cmp a.1 b.1)

abbrev pub placed_by : ℕ → Option ℤ → Option Link → Option Writing → Option (Place × Writer)
placed_by n (Some order) (Some link) (Some writing) = Some ((order, n), record { link = link; writing = writing })
placed_by n _ _ _ = None

-- a writable member and its place, where these are the leaves that it shows: the first of them is the one that is put,
-- its value or `value.index`
abbrev pub writer_of : ℕ → Member → List ℕ → Option (Place × Writer)
writer_of n m leaves = placed_by n m.def.order m.link (writing_of m.def.kind (slice_get leaves 0))

abbrev pub with_writer : List (Place × Writer) → Option (Place × Writer) → List (Place × Writer)
with_writer sorted None = sorted
with_writer sorted (Some w) = insert_entry place_cmp sorted w.0 w.1

-- the writable among members that show these leaves
abbrev pub writers_among : (ℕ → List ℕ) → List (Place × Writer) → List (ℕ × Member) → List (Place × Writer)
writers_among leaves sorted ms = fold (λ found m. with_writer found (writer_of m.0 m.1 (leaves m.0))) sorted ms

-- The writable members: those with a put order, in rising order; ties by name, in whose order members stand.
unfoldable pub writers : GroupData → List Writer
writers g = map (λ e. e.1) (writers_among (leaves_of g) [] (enumerate_from 0 g.members))

-- ---- what a put does

abbrev pub with_record : ℕ → Result Action FieldAnswer → Result (List (ℕ × Action)) FieldAnswer
with_record rec (Ok action) = Ok ((rec, action) ∷ [])
with_record rec (Err answer) = Err answer

abbrev pub put_to : Link → Option Data → Result (List (ℕ × Action)) FieldAnswer
put_to link None = Ok []
put_to link (Some leaf) = with_record link.rec (leaf_action link.config leaf)

-- Of a value of a group's type: a put of the leaf, where it is marked; or the record is processed.
abbrev pub done_by : Tree → Data → FinSet nat_cmp → Link → Writing → Result (List (ℕ × Action)) FieldAnswer
done_by t value mask link (Writes leaf) = if contains mask leaf then put_to link (leaf_at leaf t value) else Ok []
done_by t value mask link Processes = Ok ((link.rec, Process) ∷ [])

abbrev pub also : Result (List (ℕ × Action)) FieldAnswer → Result (List (ℕ × Action)) FieldAnswer
    → Result (List (ℕ × Action)) FieldAnswer
also (Err answer) _ = Err answer
also (Ok actions) (Err answer) = Err answer
also (Ok actions) (Ok more) = Ok (actions ++ more)

-- the actions of members, or the first refusal among them
abbrev pub done_by_all : Tree → Data → FinSet nat_cmp → List Writer → Result (List (ℕ × Action)) FieldAnswer
done_by_all t value mask [] = Ok []
done_by_all t value mask (w ∷ ws) = also (done_by t value mask w.link w.writing) (done_by_all t value mask ws)

abbrev pub unless_none : Result (List (ℕ × Action)) FieldAnswer → Result (List (ℕ × Action)) FieldAnswer
unless_none (Ok []) = Err (Refused NothingWritable)
unless_none answer = answer

-- The actions of a put of a value with these marked leaves, or why it is refused.
unfoldable pub actions_for : GroupData → Data → FinSet nat_cmp → Result (List (ℕ × Action)) FieldAnswer
actions_for g value mask = unless_none (done_by_all (group_tree g) value mask (writers g))

-- what an answer without actions says; want of memory is free
abbrev pub Refuses : Result (List (ℕ × Action)) FieldAnswer → FieldAnswer → Type 0
Refuses told NoMemory = ⊤
Refuses told answer = told ≡ Err answer

abbrev pub IsRefusal : GroupData → Data → FinSet nat_cmp → FieldAnswer → Type 0
IsRefusal g value mask answer = Refuses (actions_for g value mask) answer

-- at most one action of a record
abbrev pub listed : ℕ → Option Action → List (ℕ × Action)
listed rec None = []
listed rec (Some action) = (rec, action) ∷ []

-- Each action may be done to its record, where the records are so configured.
abbrev pub MayBeDoneBy : List Config → ℕ × Action → Type 0
MayBeDoneBy configs a = MatchOption (slice_get configs a.0) ⊥ (λ config. MayBeDone config a.1)

-- The leaf that a member writes has the type of its record's value.
abbrev pub IsWritten : Tree → Link → Writing → Type 0
IsWritten t link (Writes leaf) = slice_get (numbered t) leaf ≡ Some (plain_tree link.config)
IsWritten t link Processes = ⊤
