use Rattle.std.proofs.Common.{◌≡◌, ◌-◌, ◌≤◌, ◌++◌, ℕ, List, Bool, length}
use Rattle.pva_search.specs.Reading.{each_at, channel_at}
use Rattle.pva_search.specs.Answers.{known_of, Tells}
use Rattle.pva_search.specs.Parts.{mapped}
use Rattle.pva_search.proofs.search.known_among.Given as goal

abbrev pub invariant-loop : goal.invariant-loop
invariant-loop g l = record {
  so_far : (test : List ℕ → Bool) → Tells g.F.Fn l.known test
      → mapped (λ cs. l.found.items ++ known_of test cs) (each_at (channel_at l.order) (l.count - l.counter) l.rest)
      ≡ mapped (known_of test) (each_at (channel_at l.order) l.count l.channels);
  few : length l.found.items ≤ l.counter;
}
