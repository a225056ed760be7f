-- What the readers over slices tell, from what they gave.
use Rattle.std.proofs.Common.{◌≡◌, ◌∙◌, ℕ, List, ◌++◌, Result, Ok, Err, IfOk, true, sym}
use Rattle.std.specs.Ordering.{nat_cmp}
use Rattle.std.specs.FinSet.{FinSet}
use Rattle.pva_wire.specs.declared.order.Order.{Order}
use Rattle.pva_wire.specs.Spelling.{IsBytes}
use Rattle.pva_wire.proofs.Takes.{ok_is}
use Rattle.pvd_type.specs.Tree.{Tree}
use Rattle.pvd_value.specs.Data.{Data}
use Rattle.pvd_value.specs.Fits.{fits_of}
use Rattle.pvd_desc.specs.Types.{Types}
use Rattle.pvd_codec.specs.declared.fault.ValueStop.{ValueStop}
use Rattle.pvd_codec.specs.declared.fault.ValueStop.TheVariants as stops
use Rattle.pvd_codec.specs.Grammar.{Full, Part}
use Rattle.pvd_codec.specs.Reading.{Read, State, Gives, full_at, part_at}
use Rattle.pvd_codec.specs.Faults.{Finds}
use Rattle.pvd_codec.proofs.FoundItems.{err_ok}
use Rattle.pvd_codec.proofs.FoundValues.{read_is_full}
use Rattle.pvd_codec.proofs.FoundParts.{read_is_part}
use Rattle.pvd_codec.proofs.FittingValues.{full_fits, part_fits}

-- a reader answers what reading gives
pub finds : {X Y : Type 0} (view : X → Y × State) (result : Result X ValueStop) (read : Read State Y) (y : Y × State) → read ≡ Ok y → Gives view result read → Finds view result y
finds view (Ok x) read y is h = ok_is (view x) y (sym h ∙ is)
finds view (Err stops.Memory) read y is h = tt
finds view (Err (stops.Fault cause left)) read y is h = absurd (err_ok (cause, left) y (sym h ∙ is))

module _ {X : Type 0} (o : Order) (before : Types) (t : Tree) (bytes : List ℕ) where
  pub full_spelled : (view : X → Data × State) (result : Result X ValueStop) → IsBytes bytes → Gives view result (full_at o t (bytes, before))
      → IfOk result (λ x. (front : List ℕ) × Full o before t front (view x).0 (view x).1.1 × (bytes ≡ front ++ (view x).1.0))
  full_spelled view (Ok x) fits h = read_is_full o before t bytes (view x).0 (view x).1.0 (view x).1.1 fits h
  full_spelled view (Err stop) fits h = tt

  pub full_fitting : (view : X → Data × State) (result : Result X ValueStop) → IsBytes bytes → Gives view result (full_at o t (bytes, before)) → IfOk result (λ x. fits_of 16 (view x).0 t ≡ true)
  full_fitting view (Ok x) fits h =
      let (front, spelled, parts) = read_is_full o before t bytes (view x).0 (view x).1.0 (view x).1.1 fits h in
      full_fits o before t front (view x).0 (view x).1.1 spelled
  full_fitting view (Err stop) fits h = tt

  pub part_spelled : (view : X → (FinSet nat_cmp × Data) × State) (result : Result X ValueStop) → IsBytes bytes → Gives view result (part_at o t (bytes, before))
      → IfOk result (λ x. (front : List ℕ) × Part o before t front (view x).0.0 (view x).0.1 (view x).1.1 × (bytes ≡ front ++ (view x).1.0))
  part_spelled view (Ok x) fits h = read_is_part o before t bytes (view x).0.0 (view x).0.1 (view x).1.0 (view x).1.1 fits h
  part_spelled view (Err stop) fits h = tt

  pub part_fitting : (view : X → (FinSet nat_cmp × Data) × State) (result : Result X ValueStop) → IsBytes bytes → Gives view result (part_at o t (bytes, before)) → IfOk result (λ x. fits_of 16 (view x).0.1 t ≡ true)
  part_fitting view (Ok x) fits h =
      let (front, spelled, parts) = read_is_part o before t bytes (view x).0.0 (view x).0.1 (view x).1.0 (view x).1.1 fits h in
      part_fits o before t front (view x).0.0 (view x).0.1 (view x).1.1 spelled
  part_fitting view (Err stop) fits h = tt
