use Rattle.std.proofs.Common.{◌≡◌, ℕ, List, Bor, true, take}
use Rattle.std.specs.List.{list_all}
use Rattle.cli_within.specs.Words.{is_path}
use Rattle.cli_within.proofs.fields.are_paths.Given as goal

abbrev pub invariant-loop-text : goal.invariant-loop-text
invariant-loop-text l = list_all (λ (t : Bor (List ℕ)). is_path t.now) (take l.text-index l.texts) ≡ true
