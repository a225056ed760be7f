use Rattle.std.proofs.Common.{◌≡◌, ◌-◌}
use Rattle.pva_search.specs.Reading.{each_at, channel_at}
use Rattle.pva_search.specs.Parts.{mapped}
use Rattle.pva_search.proofs.reading.pass_channels.Given as goal

abbrev pub invariant-loop : goal.invariant-loop
invariant-loop l =
    mapped (λ _. tt {0}) (each_at (channel_at l.order) (l.count - l.counter) l.rest)
    ≡ mapped (λ _. tt {0}) (each_at (channel_at l.order) l.count l.bytes)
