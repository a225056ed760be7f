use Rattle.std.proofs.Common.{◌≡◌, ℕ, List, drop}
use Rattle.db_links.specs.Live.{number_from}
use Rattle.db_links.specs.Numbered.{number_in}
use Rattle.db_links.proofs.numbers.numbers_of.Given as goal

abbrev pub invariant-loop-number : goal.invariant-loop-number
invariant-loop-number l = (name : List ℕ) → number_in l.numbers name ≡ number_from l.number (drop l.number l.records) name
