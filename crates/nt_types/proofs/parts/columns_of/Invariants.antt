use Rattle.std.proofs.Common.{◌≡◌, take}
use Rattle.pvd_type.specs.View.{members_view}
use Rattle.nt_types.specs.Types.{fields_by, list_of}
use Rattle.nt_types.proofs.parts.columns_of.Given as goal

abbrev pub invariant-loop-column : goal.invariant-loop-column
invariant-loop-column l = members_view l.members.items ≡ fields_by list_of (take l.column-index l.columns)
