-- The names of members (QSRV manual, "Group PV definitions").
use Rattle.std.specs.Prelude.{ℕ, Bool, true, false, not, ◌&&◌, ◌||◌, List, length, ◌==◌, if◌then◌else◌}
use Rattle.std.specs.List.{list_any, slice_split}
use Rattle.group_defs.specs.declared.def.MemberKind.{MemberKind}
use Rattle.group_defs.specs.declared.def.MemberKind.TheVariants.{Whole, Plain, Any, Meta, Proc, Structure}

abbrev pub is_meta : MemberKind → Bool
is_meta Meta = true
is_meta Whole = false
is_meta Plain = false
is_meta Any = false
is_meta Proc = false
is_meta Structure = false

abbrev pub is_bracket : ℕ → Bool
is_bracket b = b == 91 || b == 93

abbrev pub has_bracket : List ℕ → Bool
has_bracket name = list_any is_bracket name

-- the parts of a name that dots divide
abbrev pub parts : List ℕ → List (List ℕ)
parts name = slice_split (λ b. b == 46) name

abbrev pub has_empty_part : List ℕ → Bool
has_empty_part name = list_any (λ (part : List ℕ). length part == 0) (parts name)

-- whether a member of this kind may have this name: only `meta` may have the empty one, and none a bracket or an
-- empty part
unfoldable pub name_fits : MemberKind → List ℕ → Bool
name_fits kind name =
    if length name == 0 then is_meta kind else not (has_bracket name) && not (has_empty_part name)
