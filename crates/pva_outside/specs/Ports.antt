-- What one drive of a port does (EPICS record reference, "OUT").
use Rattle.std.specs.Prelude.{◌≡◌, ℕ, List, take, Option, None, Some}
use Rattle.pva_outside.specs.Count.{Rose, RoseByOne}
use Rattle.pva_outside.specs.declared.port.DriveStep.{DriveStep}
use Rattle.pva_outside.specs.declared.port.DriveStep.TheVariants.{Drove, Failed}

-- How often a port was driven, failed drives too, and the first 64 bytes of the last text.
pub record Drives : Type 0 where
  pub count : ℕ
  pub last : List ℕ

-- What contracts see of a port: how often it failed, and its drives, where it tells them.
pub record PortView : Type 0 where
  pub faults : ℕ
  pub drives : Option Drives

-- There was one drive more, with this text.
pub record IsOneMore (old new : Drives) (text : List ℕ) : Type 0 where
  pub count : RoseByOne old.count new.count
  pub last : new.last ≡ take 64 text

-- the same, where drives are told
abbrev pub Tells : Option Drives → Option Drives → List ℕ → Type 0
Tells None new text = new ≡ None
Tells (Some old) None text = ⊥
Tells (Some old) (Some new) text = IsOneMore old new text

-- One drive, by its answer.
abbrev pub IsDriven : PortView → PortView → DriveStep → List ℕ → Type 0
IsDriven old new Drove text = Tells old.drives new.drives text × (new.faults ≡ old.faults)
IsDriven old new Failed text = Tells old.drives new.drives text × Rose old.faults new.faults
