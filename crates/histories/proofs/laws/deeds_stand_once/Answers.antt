use Rattle.histories.proofs.Stories.{own_more, others_same}
use Rattle.histories.proofs.laws.deeds_stand_once.Goals as goal

pub returns : goal.returns
returns g c = record { own = own_more; others = λ seat other ds more ne. others_same seat other ds more ne }
