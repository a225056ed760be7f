-- Faults of values at their places.
use Rattle.std.specs.Prelude.{◌≡◌, ℕ, ◌-◌, Result, Ok, Err}
use Rattle.std.specs.Ordering.{nat_cmp}
use Rattle.std.specs.FinSet.{FinSet}
use Rattle.pva_wire.specs.Input.{Input}
use Rattle.pva_wire.specs.Faults as wire
use Rattle.pvd_value.specs.Data.{Data}
use Rattle.pvd_value.specs.View.{view}
use Rattle.pvd_value.specs.declared.value.PvValue.{PvValue}
use Rattle.pvd_desc.specs.Faults as desc
use Rattle.pvd_desc.specs.Types.{Types}
use Rattle.pvd_codec.specs.Reading.{State}
use Rattle.pvd_codec.specs.declared.fault.ValueCause.{ValueCause}
use Rattle.pvd_codec.specs.declared.fault.ValueCause.TheVariants as causes
use Rattle.pvd_codec.specs.declared.fault.ValueStop.{ValueStop}
use Rattle.pvd_codec.specs.declared.fault.ValueStop.TheVariants as stops
use Rattle.pvd_codec.specs.declared.fault.ValueFault.{ValueFault}
use Rattle.pvd_codec.specs.declared.fault.ValueFault.TheVariants.{Wire, Desc, BadSelector, BitOutside, BadBool, OverBound, TooNested, NoMemory}

-- the fault of this cause at this place
abbrev pub fault_at : ValueCause → ℕ → ValueFault
fault_at (causes.Wire cause) place = Wire (wire.fault_at cause place)
fault_at (causes.Desc cause) place = Desc (desc.fault_at cause place)
fault_at (causes.BadSelector n) place = BadSelector n place
fault_at (causes.BitOutside n) place = BitOutside n place
fault_at (causes.BadBool byte) place = BadBool byte place
fault_at (causes.OverBound size) place = OverBound size place
fault_at causes.TooNested place = TooNested place

abbrev pub fault_of : ℕ → ValueStop → ValueFault
fault_of end stops.Memory = NoMemory
fault_of end (stops.Fault cause left) = fault_at cause (end - left)

-- a fault is the one that reading gives; want of memory is free
abbrev pub IsFaultOf : {A : Type 0} → ℕ → ValueFault → Result A (ValueCause × ℕ) → Type 0
IsFaultOf end NoMemory read = Unit {0}
IsFaultOf end fault read = (cause : ValueCause) × (left : ℕ) × (read ≡ Err (cause, left)) × (fault ≡ fault_at cause (end - left))

-- What a call gave, and left of its input and of the types known, is what reading gives; after a refusal both are as before.
abbrev pub GivesAt : {X Y : Type 0} → Input → Input → Types → Types → (X → Y) → Result X ValueFault → Result (Y × State) (ValueCause × ℕ) → Type 0
GivesAt old new before after view (Ok x) read = (read ≡ Ok (view x, (new.rest, after))) × (new ≡ record old { rest = new.rest })
GivesAt old new before after view (Err fault) read = IsFaultOf old.end fault read × (new ≡ old) × (after ≡ before)

-- a call answers this, unless memory ran out
abbrev pub Answers : {X Y : Type 0} → (X → Y) → Result X ValueFault → Y → Type 0
Answers view (Ok x) y = view x ≡ y
Answers view (Err NoMemory) y = Unit {0}
Answers view (Err fault) y = ⊥

-- a reader over a slice answers this, unless memory ran out
abbrev pub Finds : {X Y : Type 0} → (X → Y) → Result X ValueStop → Y → Type 0
Finds view (Ok x) y = view x ≡ y
Finds view (Err stops.Memory) y = Unit {0}
Finds view (Err (stops.Fault cause left)) y = ⊥

-- a mask and a value
abbrev pub part_view : FinSet nat_cmp × PvValue → FinSet nat_cmp × Data
part_view x = (x.0, view x.1)
