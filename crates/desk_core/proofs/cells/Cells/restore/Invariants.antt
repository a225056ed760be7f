use Rattle.std.proofs.Common.{◌≡◌, ◌<◌, length}
use Rattle.std.specs.List.{AllByRecursion}
use Rattle.desk_core.specs.Effects.{restored}
use Rattle.desk_core.proofs.cells.Cells.restore.Given as goal

-- what is left to put back leads to the same states
abbrev pub invariant-loop-rec : goal.invariant-loop-rec
invariant-loop-rec g l = record {
  same : restored l.self.states.items l.self.before.items ≡ restored l.fn.self.states.items l.fn.self.before.items;
  within : AllByRecursion (λ held. held.0 < length l.self.states.items) l.self.before.items;
  ports : l.self.ports.items ≡ l.fn.self.ports.items;
}

abbrev pub decreases-loop-rec : goal.decreases-loop-rec
decreases-loop-rec g l = length l.self.before.items
