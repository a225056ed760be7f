use Rattle.std.proofs.Common.{◌≡◌}
use Rattle.histories.specs.History.{Every}
use Rattle.srv_host.specs.Running.{IsRunning, all_serves}
use Rattle.srv_host.proofs.joining.join_ended.Given as goal

abbrev pub invariant-endings : goal.invariant-endings
invariant-endings g l =
    Every (IsRunning g.L.Link.wire g.C.Clock.moment) l.running.items
    × (all_serves l.running.items ≡ all_serves l.initial.running.items)
