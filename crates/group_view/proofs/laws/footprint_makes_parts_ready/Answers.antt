use Rattle.group_view.proofs.Triggering.{footprint_ready}
use Rattle.group_view.proofs.laws.footprint_makes_parts_ready.Goals as goal

pub returns : goal.returns
returns c = λ g rec. footprint_ready g rec
