-- What a call on a cursor and a registry gives, from what the reader over slices gave.
use Rattle.std.proofs.Common.{◌≡◌, ℕ, List, Result, Ok, Err, refl, sym, ap, ◌∙◌}
use Rattle.std.specs.FinMap.{empty}
use Rattle.pvd_desc.specs.Types.{Types, laid}
use Rattle.pvd_desc.proofs.Laid.{laid_empty}
use Rattle.pvd_codec.specs.declared.fault.ValueStop.{ValueStop}
use Rattle.pvd_codec.specs.declared.fault.ValueStop.TheVariants as stops
use Rattle.pvd_codec.specs.declared.fault.ValueCause.{ValueCause}
use Rattle.pvd_codec.specs.declared.fault.ValueCause.TheVariants as causes
use Rattle.pvd_codec.specs.Reading.{Read, State, Fails}
use Rattle.pvd_codec.specs.Faults.{IsFaultOf, fault_of, Answers, GivesAt}
use Rattle.pvd_codec.specs.declared.fault.ValueFault.{ValueFault}
use Rattle.pvd_codec.specs.declared.fault.ValueFault.TheVariants as faults
use Rattle.pva_wire.specs.Input.{Input}
use Rattle.pva_wire.proofs.Takes.{ok_is}
use Rattle.pvd_codec.proofs.FoundItems.{err_ok}

module _ {A : Type 0} (read : State → Read State A) (base : Types) (bytes : List ℕ) where
  pub read_gave : (rest : List ℕ) (defined after : Types) (x : A) → read (bytes, laid base empty) ≡ Ok (x, (rest, laid base defined)) → after ≡ laid base defined → read (bytes, base) ≡ Ok (x, (rest, after))
  read_gave rest defined after x h done =
      ap (λ (types : Types). read (bytes, types)) (sym (laid_empty base)) ∙ h ∙ ap (λ (types : Types). Ok (x, (rest, types))) (sym done)

  placed_fault : (end : ℕ) (cause : ValueCause) (left : ℕ) (r : Read State A) → r ≡ Err (cause, left) → IsFaultOf end (fault_of end (stops.Fault cause left)) r
  placed_fault end (causes.Wire c) left r h = (causes.Wire c, left, h, refl)
  placed_fault end (causes.Desc c) left r h = (causes.Desc c, left, h, refl)
  placed_fault end (causes.BadSelector n) left r h = (causes.BadSelector n, left, h, refl)
  placed_fault end (causes.BitOutside n) left r h = (causes.BitOutside n, left, h, refl)
  placed_fault end (causes.BadBool b) left r h = (causes.BadBool b, left, h, refl)
  placed_fault end (causes.OverBound n) left r h = (causes.OverBound n, left, h, refl)
  placed_fault end causes.TooNested left r h = (causes.TooNested, left, h, refl)

  pub read_failed : (end : ℕ) (stop : ValueStop) → Fails stop (read (bytes, laid base empty)) → IsFaultOf end (fault_of end stop) (read (bytes, base))
  read_failed end stops.Memory h = tt
  read_failed end (stops.Fault cause left) h = placed_fault end cause left (read (bytes, base)) (ap (λ (types : Types). read (bytes, types)) (sym (laid_empty base)) ∙ h)

-- a call answers what reading gives
pub answers : {X Y : Type 0} (old new : Input) (before after : Types) (show : X → Y) (result : Result X ValueFault) (read : Read State Y) (y : Y) (s : State) → read ≡ Ok (y, s) → GivesAt old new before after show result read → Answers show result y
answers {Y = Y} old new before after show (Ok x) read y s is h = ap (λ (z : Y × State). z.0) (ok_is (show x, (new.rest, after)) (y, s) (sym h.0 ∙ is))
answers old new before after show (Err faults.NoMemory) read y s is h = tt
answers old new before after show (Err fault) read y s is h = absurd (err_ok (h.0.0, h.0.1) (y, s) (sym h.0.2 ∙ is))
