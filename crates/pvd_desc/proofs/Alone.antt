-- A cached type that is the whole description.
use Rattle.std.proofs.Common.{◌≡◌, ◌∙◌, ℕ, suc, List, [], ◌∷◌, length, eqb, Some, None, Ok, Err, refl, ap, inl, inr}
use Rattle.std.specs.FinMap.{get}
use Rattle.pva_wire.specs.declared.order.Order.{Order}
use Rattle.pva_wire.specs.Reading.{◌>>=◌}
use Rattle.pva_wire.proofs.Takes.{chosen}
use Rattle.std.proofs.lemmas.Bool.{eqb-true}
use Rattle.pvd_type.specs.Tree.{Tree}
use Rattle.pvd_type.specs.Check.{IsType}
use Rattle.pvd_desc.specs.Types.{Types}
use Rattle.pvd_desc.specs.Code.{code_of}
use Rattle.pvd_desc.specs.declared.fault.DescCause.TheVariants.{UnknownCode, UnknownId}
use Rattle.pvd_desc.specs.declared.fault.DescStop.{DescStop}
use Rattle.pvd_desc.specs.declared.fault.DescStop.TheVariants as stops
use Rattle.pvd_desc.specs.Reading.{Fails, id_at, code_at, cached_at, parts_at, node_on, null, cached, desc_of, desc_at}
use Rattle.pvd_desc.proofs.Again.{chain_stops}

-- the whole description
at_root : (o : Order) (types : Types) (rest : List ℕ) → desc_at o types (0xFE ∷ rest) ≡ desc_of None (cached_at o None (UnknownCode 254, suc (length rest)) 1 0 (suc (length rest)) types rest >>= λ t. Ok (t.0, t.1, t.2, t.3)) types
unfolding desc_at null node_on code_at code_of parts_at
at_root o types rest = rw (chain_stops o 0xFE rest refl) refl

pub alone_fails : (o : Order) (types : Types) (rest : List ℕ) (stop : DescStop) → Fails stop (id_at o rest) → Fails stop (desc_at o types (0xFE ∷ rest))
unfolding cached_at
alone_fails o types rest stops.Memory h = tt
alone_fails o types rest (stops.Fault cause left) h = at_root o types rest ∙ rw h refl

pub alone_unknown : (o : Order) (types : Types) (rest after : List ℕ) (id : ℕ) → id_at o rest ≡ Ok (id, after) → get types id ≡ None → desc_at o types (0xFE ∷ rest) ≡ Err (UnknownId id, length rest)
unfolding cached_at
alone_unknown o types rest after id h none = at_root o types rest ∙ rw (h, none) refl

pub alone_known : (o : Order) (types : Types) (rest after : List ℕ) (id : ℕ) (t : Tree) → id_at o rest ≡ Ok (id, after) → get types id ≡ Some t → IsType t → desc_at o types (0xFE ∷ rest) ≡ Ok (Some t, after, types)
unfolding cached_at
alone_known o types rest after id t h some checked = at_root o types rest ∙ rw (h, some, checked) refl

pub cached_is : (bytes rest : List ℕ) → cached bytes ≡ Some rest → bytes ≡ 0xFE ∷ rest
unfolding cached
cached_is [] rest h = absurd cc
cached_is (b ∷ bytes) rest h =
    elim (chosen (eqb b 0xFE) (Some bytes) None (Some rest) h) [
      | inl is ↦ ap (λ n. n ∷ bytes) (eqb-true b 0xFE is.0) ∙ ap (λ (r : List ℕ). 0xFE ∷ r) (let e : bytes ≡ rest = let some = is.1 in cc in e)
      | inr other ↦ absurd (let none = other.1 in cc)
    ]
