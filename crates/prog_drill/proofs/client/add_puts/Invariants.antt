use Rattle.std.proofs.Common.{◌≡◌, ◌<◌, ◌^◌, ◌-◌, ◌++◌}
use Rattle.prog_drill.specs.Drilling.{input_of, puts}
use Rattle.prog_drill.proofs.client.add_puts.Given as goal

abbrev pub invariant-loop : goal.invariant-loop
invariant-loop l = (l.out.items ++ input_of (puts (10000 - l.counter) l.x) ≡ l.fn.out.items ++ input_of (puts 10000 l.start)) × (l.x < 2 ^ 31)
