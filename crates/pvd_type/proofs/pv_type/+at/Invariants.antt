use Rattle.std.proofs.Common.{◌≡◌, drop}
use Rattle.std.specs.Prelude.{slice_get}
use Rattle.pvd_type.specs.View.{members_view}
use Rattle.pvd_type.specs.Numbers.{numbered_fields, IsMeasured}
use Rattle.pvd_type.proofs.pv_type.+at.Given as goal

abbrev pub invariant-at_among-loop-member : goal.invariant-at_among-loop-member
invariant-at_among-loop-member l =
    let rest = numbered_fields (members_view (drop l.member-index l.members)) in
    record {
      same : slice_get rest l.left ≡ slice_get (numbered_fields (members_view l.members)) l.number;
      measured : IsMeasured l.sizes rest;
    }
