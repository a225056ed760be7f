use Rattle.std.proofs.Common.{◌≡◌, ◌+◌, ◌≤◌, length, drop}
use Rattle.std.specs.Option.{option_copied}
use Rattle.pvd_type.specs.View.{members_view}
use Rattle.pvd_type.specs.Numbers.{numbered_fields, number_among, path_after, IsMeasured}
use Rattle.pvd_type.proofs.pv_type.+find.Given as goal

abbrev pub invariant-find_among-loop-member : goal.invariant-find_among-loop-member
invariant-find_among-loop-member l =
    let rest = members_view (drop l.member-index l.members) in
    let all = members_view l.members in
    let path = path_after (option_copied l.rest) in
    record {
      same : number_among l.number l.name path rest ≡ number_among 1 l.name path all;
      total : l.number + length (numbered_fields rest) ≡ 1 + length (numbered_fields all);
      measured : IsMeasured l.sizes (numbered_fields rest);
      few : l.number + length l.sizes ≤ 4096;
    }
