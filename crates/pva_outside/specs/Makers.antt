-- What a call that makes a port does.
use Rattle.std.specs.Prelude.{◌≡◌, ℕ, List, Option}
use Rattle.pva_outside.specs.Count.{Rose}
use Rattle.pva_outside.specs.Files.{one_more}
use Rattle.pva_outside.specs.declared.ports.PortStep.{PortStep}
use Rattle.pva_outside.specs.declared.ports.PortStep.TheVariants.{Made, Failed, NoMemory}

-- What contracts see of a maker of ports: how often it failed, and the paths asked for, in order (None: not told).
pub record MakerView : Type 0 where
  pub faults : ℕ
  pub asked : Option (List (List ℕ))

-- One call, by its answer.
abbrev pub IsMade : {P : Type 0} → MakerView → MakerView → PortStep P → List ℕ → Type 0
IsMade old new (Made port) path = (new.asked ≡ one_more old.asked path) × (new.faults ≡ old.faults)
IsMade old new Failed path = (new.asked ≡ one_more old.asked path) × Rose old.faults new.faults
IsMade old new NoMemory path = new ≡ old
