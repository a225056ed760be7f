use Rattle.std.proofs.Common.{◌≡◌, ◌-◌, ◌||◌}
use Rattle.std.specs.List.{list_any}
use Rattle.pva_wire.specs.Reading.{number_at}
use Rattle.pva_search.specs.Reading.{each_at}
use Rattle.pva_search.specs.Finding.{is_open, given_from}
use Rattle.pva_search.specs.Parts.{mapped}
use Rattle.pva_search.proofs.finder.give_each.Given as goal

abbrev pub invariant-loop : goal.invariant-loop
invariant-loop l = record {
  told : mapped (λ ids. l.told || list_any (is_open l.servers) ids) (each_at (number_at l.response.order 4) (l.response.count - l.counter) l.rest)
      ≡ mapped (λ ids. list_any (is_open l.fn.servers) ids) (each_at (number_at l.response.order 4) l.response.count l.response.instances.now);
  given : mapped (λ ids. given_from 0 ids l.server l.servers) (each_at (number_at l.response.order 4) (l.response.count - l.counter) l.rest)
      ≡ mapped (λ ids. given_from 0 ids l.server l.fn.servers) (each_at (number_at l.response.order 4) l.response.count l.response.instances.now);
}
