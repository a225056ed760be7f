-- Faults of descriptions at their places.
use Rattle.std.specs.Prelude.{◌≡◌, ℕ, ◌-◌, List, Result, Ok, Err}
use Rattle.pva_wire.specs.Input.{Input}
use Rattle.pva_wire.specs.Faults as wire
use Rattle.pvd_desc.specs.Types.{Types}
use Rattle.pvd_desc.specs.declared.fault.DescCause.{DescCause}
use Rattle.pvd_desc.specs.declared.fault.DescCause.TheVariants as causes
use Rattle.pvd_desc.specs.declared.fault.DescStop.{DescStop}
use Rattle.pvd_desc.specs.declared.fault.DescStop.TheVariants as stops
use Rattle.pvd_desc.specs.declared.fault.DescFault.{DescFault}
use Rattle.pvd_desc.specs.declared.fault.DescFault.TheVariants.{Wire, Shape, UnknownCode, UnknownId, NoMemory}

-- the fault of this cause at this place
abbrev pub fault_at : DescCause → ℕ → DescFault
fault_at (causes.Wire cause) place = Wire (wire.fault_at cause place)
fault_at (causes.Shape fault) place = Shape fault place
fault_at (causes.UnknownCode byte) place = UnknownCode byte place
fault_at (causes.UnknownId id) place = UnknownId id place

abbrev pub fault_of : ℕ → DescStop → DescFault
fault_of end stops.Memory = NoMemory
fault_of end (stops.Fault cause left) = fault_at cause (end - left)

-- a fault is the one that reading gives; want of memory is free
abbrev pub IsFaultOf : {A : Type 0} → ℕ → DescFault → Result A (DescCause × ℕ) → Type 0
IsFaultOf end NoMemory read = Unit {0}
IsFaultOf end fault read = (cause : DescCause) × (left : ℕ) × (read ≡ Err (cause, left)) × (fault ≡ fault_at cause (end - left))

-- What a call gave, and left of its input and of the types known, is what reading gives; after a refusal both are as before.
abbrev pub GivesAt : {X Y : Type 0} → Input → Input → Types → Types → (X → Y) → Result X DescFault → Result (Y × List ℕ × Types) (DescCause × ℕ) → Type 0
GivesAt old new before after view (Ok x) read = (read ≡ Ok (view x, new.rest, after)) × (new ≡ record old { rest = new.rest })
GivesAt old new before after view (Err fault) read = IsFaultOf old.end fault read × (new ≡ old) × (after ≡ before)
