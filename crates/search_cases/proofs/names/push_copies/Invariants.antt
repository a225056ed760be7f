use Rattle.search_cases.specs.Names.{AreNames}
use Rattle.search_cases.proofs.names.push_copies.Given as goal

abbrev pub invariant-loop : goal.invariant-loop
invariant-loop l = AreNames l.names.items
