use Rattle.std.proofs.Common.{◌≡◌, ◌++◌, drop}
use Rattle.pvd_type.specs.View.{members_view}
use Rattle.pvd_desc.specs.Grammar.{written_fields, CanSpellFields}
use Rattle.pvd_desc.proofs.writing.+put.Given as goal

abbrev pub invariant-put_members-loop-member : goal.invariant-put_members-loop-member
invariant-put_members-loop-member l = record {
  written : l.out.items ++ written_fields l.order (members_view (drop l.member-index l.members)) ≡ l.fn.out.items ++ written_fields l.order (members_view l.members);
  spelled : CanSpellFields (members_view (drop l.member-index l.members)) → CanSpellFields (members_view l.members);
}
