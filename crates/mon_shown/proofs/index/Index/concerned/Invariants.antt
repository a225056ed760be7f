use Rattle.std.proofs.Common.{◌≡◌, ℕ, take}
use Rattle.std.specs.List.{list_any}
use Rattle.std.specs.FinSet.{contains}
use Rattle.mon_shown.specs.Noting.{names}
use Rattle.mon_shown.proofs.index.Index.concerned.Given as goal

abbrev pub invariant-loop-write : goal.invariant-loop-write
invariant-loop-write l = (s : ℕ) → contains l.found s ≡ list_any (λ w. names l.self w.0 s) (take l.write-index l.writes)
