use Rattle.std.proofs.Common.{◌≡◌, take}
use Rattle.desk_core.specs.Ports.{ports_there, ports_wanted}
use Rattle.shared_tests.proofs.halls.ports_by.Given as goal

-- the ports so far are those that are wanted
abbrev pub invariant-loop-rec : goal.invariant-loop-rec
invariant-loop-rec g l = ports_there l.ports.items ≡ take l.rec (ports_wanted l.site.configs)
