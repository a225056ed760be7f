use Rattle.std.proofs.Common.{◌≡◌, ◌-◌, ◌||◌}
use Rattle.pva_wire.specs.Reading.{text_at}
use Rattle.pva_search.specs.Reading.{each_at}
use Rattle.pva_search.specs.Answers.{names_tcp}
use Rattle.pva_search.specs.Parts.{mapped}
use Rattle.pva_search.proofs.reading.names_tcp_at.Given as goal

abbrev pub invariant-loop : goal.invariant-loop
invariant-loop l =
    mapped (λ ts. l.named || names_tcp ts) (each_at (text_at l.order) (l.count - l.counter) l.rest)
    ≡ mapped names_tcp (each_at (text_at l.order) l.count l.bytes)
