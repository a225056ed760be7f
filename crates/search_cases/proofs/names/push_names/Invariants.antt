use Rattle.search_cases.specs.Names.{AreNames}
use Rattle.search_cases.proofs.names.push_names.Given as goal

abbrev pub invariant-loop-word : goal.invariant-loop-word
invariant-loop-word l = AreNames l.names.items
