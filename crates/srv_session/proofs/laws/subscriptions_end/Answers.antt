use Rattle.srv_session.proofs.Covered.{living_known, all_ended, all_ended_behind}
use Rattle.srv_session.proofs.laws.subscriptions_end.Goals as goal

pub returns : goal.returns
returns c = record { known = living_known; ended = all_ended; behind = all_ended_behind }
