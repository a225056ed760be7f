use Rattle.std.specs.Prelude.{[]}
use Rattle.srv_session.proofs.Kept.{handled_holds, handled_living, pumped_holds, pumped_living, holds_steps, opening_holds, living_left}
use Rattle.srv_session.specs.State.{opening}
use Rattle.srv_session.proofs.laws.subscriptions_are_held.Goals as goal

pub returns : goal.returns
returns c = record {
  handled = handled_holds;
  pumped = pumped_holds;
  live_handled = handled_living;
  live_pumped = pumped_living;
  steps = λ site order xs rules free. holds_steps site (opening order) [] xs (opening_holds [] order) rules free;
  one_ends = living_left;
}
