use Rattle.std.proofs.Common.{◌≡◌, drop, option_map, List, ℕ, Bor}
use Rattle.db_text.specs.Macros.{first_of, value_of}
use Rattle.db_text.proofs.macros.value_of.Given as goal

abbrev pub invariant-loop-known : goal.invariant-loop-known
invariant-loop-known l = first_of (value_of (drop l.known-index l.macros) l.name) (option_map (λ (v : Bor (List ℕ)). v.now) l.found) ≡ value_of l.macros l.name
