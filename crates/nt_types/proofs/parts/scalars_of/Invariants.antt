use Rattle.std.proofs.Common.{◌≡◌, take}
use Rattle.pvd_type.specs.View.{members_view}
use Rattle.nt_types.specs.Types.{fields_by, scalar}
use Rattle.nt_types.proofs.parts.scalars_of.Given as goal

abbrev pub invariant-loop-field : goal.invariant-loop-field
invariant-loop-field l = members_view l.members.items ≡ fields_by scalar (take l.field-index l.query)
