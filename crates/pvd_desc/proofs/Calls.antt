-- What a call on a cursor and a registry gives, from what the reader over slices gave.
use Rattle.std.proofs.Common.{◌≡◌, ℕ, List, Option, Ok, refl, sym, ap, ◌∙◌}
use Rattle.std.specs.FinMap.{empty}
use Rattle.pva_wire.specs.declared.order.Order.{Order}
use Rattle.pvd_type.specs.Tree.{Tree}
use Rattle.pvd_desc.specs.Types.{Types, laid}
use Rattle.pvd_desc.specs.declared.fault.DescStop.{DescStop}
use Rattle.pvd_desc.specs.declared.fault.DescStop.TheVariants as stops
use Rattle.pvd_desc.specs.declared.fault.DescCause.TheVariants as causes
use Rattle.pvd_desc.specs.Reading.{Fails, desc_at}
use Rattle.pvd_desc.specs.Faults.{IsFaultOf, fault_of}
use Rattle.pvd_desc.proofs.Laid.{laid_empty}

module _ (order : Order) (base : Types) (bytes : List ℕ) where
  pub read_gave : (rest : List ℕ) (defined after : Types) (t : Option Tree) → desc_at order (laid base empty) bytes ≡ Ok (t, rest, laid base defined) → after ≡ laid base defined → desc_at order base bytes ≡ Ok (t, rest, after)
  read_gave rest defined after t h done =
      ap (λ (types : Types). desc_at order types bytes) (sym (laid_empty base)) ∙ h ∙ ap (λ (types : Types). Ok (t, rest, types)) (sym done)

  pub read_failed : (end : ℕ) (stop : DescStop) → Fails stop (desc_at order (laid base empty) bytes) → IsFaultOf end (fault_of end stop) (desc_at order base bytes)
  read_failed end stops.Memory h = tt
  read_failed end (stops.Fault (causes.Wire cause) left) h = (causes.Wire cause, left, ap (λ (types : Types). desc_at order types bytes) (sym (laid_empty base)) ∙ h, refl)
  read_failed end (stops.Fault (causes.Shape fault) left) h = (causes.Shape fault, left, ap (λ (types : Types). desc_at order types bytes) (sym (laid_empty base)) ∙ h, refl)
  read_failed end (stops.Fault (causes.UnknownCode byte) left) h = (causes.UnknownCode byte, left, ap (λ (types : Types). desc_at order types bytes) (sym (laid_empty base)) ∙ h, refl)
  read_failed end (stops.Fault (causes.UnknownId id) left) h = (causes.UnknownId id, left, ap (λ (types : Types). desc_at order types bytes) (sym (laid_empty base)) ∙ h, refl)
