use Rattle.std.proofs.Common.{◌≡◌, ◌++◌, map, drop}
use Rattle.pvd_type.specs.View.{members_view}
use Rattle.group_view.specs.Leaves.{sources_among, member_in}
use Rattle.group_view.specs.Seen.{slots_seen}
use Rattle.group_view.specs.Types.{slot_fields}
use Rattle.group_view.proofs.Walks.{joined}
use Rattle.group_view.proofs.shapes.+shapes.Given as goal

abbrev pub invariant-members_of-loop-named : goal.invariant-members_of-loop-named
invariant-members_of-loop-named l =
    let rest = slots_seen (drop l.named-index l.slots) in
    record {
      members : joined (members_view l.members.items) (slot_fields rest) ≡ slot_fields (slots_seen l.slots);
      shown : l.shown.items ++ map member_in (sources_among rest) ≡ l.fn.shown.items ++ map member_in (sources_among (slots_seen l.slots));
    }
