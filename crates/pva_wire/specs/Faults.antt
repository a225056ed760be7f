-- Faults at their places.
use Rattle.std.specs.Prelude.{◌≡◌, ℕ, ◌-◌, Result, Ok, Err, IsOk}
use Rattle.pva_wire.specs.Input.{Input}
use Rattle.pva_wire.specs.Reading.{Read}
use Rattle.pva_wire.specs.declared.fault.Cause.{Cause}
use Rattle.pva_wire.specs.declared.fault.Cause.TheVariants as causes
use Rattle.pva_wire.specs.declared.fault.Stop.{Stop}
use Rattle.pva_wire.specs.declared.fault.Stop.TheVariants as stops
use Rattle.pva_wire.specs.declared.fault.WireFault.{WireFault}
use Rattle.pva_wire.specs.declared.fault.WireFault.TheVariants.{Short, Range, NotUtf8, NullSize, NoMemory}

-- the fault of this cause at this place
abbrev pub fault_at : Cause → ℕ → WireFault
fault_at causes.Short place = Short place
fault_at causes.Range place = Range place
fault_at causes.NotUtf8 place = NotUtf8 place
fault_at causes.NullSize place = NullSize place

abbrev pub fault_of : ℕ → Stop → WireFault
fault_of end stops.Memory = NoMemory
fault_of end (stops.Fault cause left) = fault_at cause (end - left)

-- a fault is the one that reading gives; want of memory is free
abbrev pub IsFaultOf : {A : Type 0} → ℕ → WireFault → Read A → Type 0
IsFaultOf end NoMemory read = Unit {0}
IsFaultOf end fault read = (cause : Cause) × (left : ℕ) × (read ≡ Err (cause, left)) × (fault ≡ fault_at cause (end - left))

-- What a call gave and left of its input is what reading gives; after a refusal the input is as before.
abbrev pub GivesAt : {X Y : Type 0} → Input → Input → (X → Y) → Result X WireFault → Read Y → Type 0
GivesAt old new view (Ok x) read = (read ≡ Ok (view x, new.rest)) × (new ≡ record old { rest = new.rest })
GivesAt old new view (Err fault) read = IsFaultOf old.end fault read × (new ≡ old)

-- a call that takes no memory never wants it
abbrev pub NeedsNone : {X : Type 0} → Result X WireFault → Type 0
NeedsNone (Err NoMemory) = ⊥
NeedsNone _ = Unit {0}

-- Memory is taken only for what is there: it is wanting only where reading gives something.
abbrev pub NeedsLast : {X Y : Type 0} → Result X WireFault → Read Y → Type 0
NeedsLast (Err NoMemory) read = IsOk read
NeedsLast _ read = Unit {0}
