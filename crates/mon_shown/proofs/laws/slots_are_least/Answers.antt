use Rattle.mon_shown.proofs.Least.{one_least, below_limit, few_alive, all_alive, at_most}
use Rattle.mon_shown.proofs.laws.slots_are_least.Goals as goal

pub returns-clause-one : goal.returns-clause-one
returns-clause-one g c = one_least

pub returns-clause-below : goal.returns-clause-below
returns-clause-below g c = below_limit

pub returns-clause-few : goal.returns-clause-few
returns-clause-few g c = few_alive

pub returns-clause-full : goal.returns-clause-full
returns-clause-full g c = all_alive

pub returns-clause-most : goal.returns-clause-most
returns-clause-most g c = at_most
