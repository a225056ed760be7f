use Rattle.std.proofs.Common.{ap, ◌∙◌}
use Rattle.hall_locks.specs.Hands.{have_slots}
use Rattle.hall_locks.proofs.HubByHub.{glances, glance_found}
use Rattle.hall_locks.proofs.hall.Hall.glance.Goals as goal

pub invariant_of-result-clause-glances : goal.invariant_of-result-clause-glances
invariant_of-result-clause-glances g c = glances _ _ _ _ _ _ _ g.T.Law.meaning c.args.visit.seat.me c.take_hub_word.new.seat.me c.args.visit.footprint.items c.args.visit.carries c.take_hub_word.ensures.took

pub returns-clause-hub : goal.returns-clause-hub
returns-clause-hub g c = glance_found _ _ _ _ _ _ _ g.T.Law.meaning c.args.visit.seat.me c.take_hub_word.new.seat.me c.take_hub_word.ensures.took

pub invariant_of-result-clause-slots : goal.invariant_of-result-clause-slots
invariant_of-result-clause-slots g c = ap (λ t. have_slots t.slots c.args.visit.footprint.items) c.take_hub_word.ensures.own.0 ∙ c.args.visit.slots
