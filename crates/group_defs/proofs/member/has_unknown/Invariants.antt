use Rattle.std.proofs.Common.{◌≡◌, drop}
use Rattle.std.specs.List.{list_any}
use Rattle.json.specs.Strict.{keys}
use Rattle.json.specs.Value.{members_view}
use Rattle.group_defs.specs.Members.{is_unknown}
use Rattle.group_defs.proofs.member.has_unknown.Given as goal

abbrev pub invariant-loop-member : goal.invariant-loop-member
invariant-loop-member l =
    list_any is_unknown (keys (members_view (drop l.member-index l.member-items))) ≡ list_any is_unknown (keys (members_view l.member-items))
