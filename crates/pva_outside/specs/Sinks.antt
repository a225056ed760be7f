-- What one call of a sink does to the bytes written and to its count of faults.
use Rattle.std.specs.Prelude.{◌≡◌, ℕ, ◌<◌, ◌≤◌, List, length, take, Option}
use Rattle.std.specs.Io.KnownBytes.{Keeps, Appends}
use Rattle.pva_outside.specs.Count.{Rose}
use Rattle.pva_outside.specs.declared.sink.SinkStep.{SinkStep}
use Rattle.pva_outside.specs.declared.sink.SinkStep.TheVariants.{Took, Failed, NoMemory}

-- One call of a sink's `write`, by its answer.
abbrev pub Sinks : Option (List ℕ) → Option (List ℕ) → ℕ → ℕ → SinkStep → List ℕ → Type 0
Sinks old new faults faults' (Took n) bytes = (0 < n) × (n ≤ length bytes) × Appends old new (take n bytes) × (faults' ≡ faults)
Sinks old new faults faults' Failed bytes = Keeps old new × Rose faults faults'
Sinks old new faults faults' NoMemory bytes = Keeps old new × (faults' ≡ faults)
