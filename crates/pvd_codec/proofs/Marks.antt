-- Reading which leaves of a part are marked.
use Rattle.std.proofs.Common.{◌≡◌, ℕ, ◌-◌, ◌*◌, ◌≤◌, true, List, length, take, Option, Some, None, Result, Ok, Err, refl, sym, ◌∙◌, arith, nat_cmp}
use Rattle.std.proofs.lemmas.Bool.{false≢true}
use Rattle.std.proofs.lemmas.List.{length-take}
use Rattle.std.specs.FinSet.{FinSet, contains}
use Rattle.pva_wire.specs.declared.order.Order.{Order}
use Rattle.pva_wire.specs.declared.fault.Cause as wire
use Rattle.pva_wire.specs.declared.fault.Stop as wire_stop
use Rattle.pva_wire.specs.declared.fault.Stop.TheVariants as wire_stops
use Rattle.pva_wire.specs.Reading as wire_reads
use Rattle.pva_wire.specs.Reading.{◌>>=◌, counted_at}
use Rattle.pva_wire.specs.Bits.{byte_bit, bits_at}
use Rattle.pvd_type.specs.Tree.{Tree}
use Rattle.pvd_type.specs.Numbers.{numbered}
use Rattle.pvd_value.specs.Leaves.{marked_leaves}
use Rattle.pvd_codec.specs.declared.fault.ValueCause.TheVariants.{BitOutside}
use Rattle.pvd_codec.specs.Reading.{Fails, lifted, lifted_stop, first_marked, marks_at}
use Rattle.pvd_codec.proofs.FirstBits.{counted_size, inside_bits}
use Rattle.pvd_codec.proofs.Steps.{along, bind_fails}

pub lifted_fails : {A : Type 0} (e : wire_stop.Stop) (r : Result A (wire.Cause × ℕ)) → wire_reads.Fails e r → Fails (lifted_stop e) (lifted r)
lifted_fails wire_stops.Memory r h = tt
lifted_fails (wire_stops.Fault c left) r h = rw h refl

module _ (order : Order) (t : Tree) (bytes rest : List ℕ) (n : ℕ) (counted : counted_at order 1 bytes ≡ Ok (n, rest)) where
  pub taken_size : length (take n rest) ≡ n
  taken_size = omega (arith, length-take n rest, (counted_size order 1 bytes (n, rest) counted).1)

  module _ (m : ℕ) (count : m ≡ length (numbered t)) where
    abbrev first : Option ℕ
    first = first_marked (byte_bit order (take n rest)) m (8 * length (take n rest) - m)

    first_is : first ≡ first_marked (byte_bit order (take n rest)) (length (numbered t)) (8 * n - length (numbered t))
    first_is = λ i. first_marked (byte_bit order (take n rest)) (count i) (8 * taken_size i - count i)

    pub marks_outside : (k : ℕ) → Some k ≡ first → marks_at order t bytes ≡ Err (BitOutside k, length bytes)
    unfolding marks_at
    marks_outside k h = rw (counted, sym first_is, sym h) refl

    pub marks_rest : None ≡ first → marks_at order t bytes ≡ (lifted (bits_at order bytes) >>= λ s. Ok (marked_leaves t s.0, s.1))
    unfolding marks_at
    marks_rest h = rw (counted, sym first_is, sym h) refl

    pub marks_fail : None ≡ first → (e : wire_stop.Stop) → wire_reads.Fails e (bits_at order bytes) → Fails (lifted_stop e) (marks_at order t bytes)
    marks_fail h e fails = along (lifted_stop e) (marks_at order t bytes) _ (marks_rest h) (bind_fails (lifted_stop e) (lifted (bits_at order bytes)) (λ s. Ok (marked_leaves t s.0, s.1)) (lifted_fails e (bits_at order bytes) fails))

    pub marks_are : None ≡ first → (s : FinSet nat_cmp) (after : List ℕ) → bits_at order bytes ≡ Ok (s, after) → marks_at order t bytes ≡ Ok (marked_leaves t s, after)
    marks_are h s after read = marks_rest h ∙ rw read refl

    pub marks_inside : None ≡ first → (s : FinSet nat_cmp) (after : List ℕ) → bits_at order bytes ≡ Ok (s, after) → (q : ℕ) → length (numbered t) ≤ q → contains s q ≡ true → ⊥
    marks_inside h s after read q above holds =
        false≢true (sym (inside_bits order bytes rest after n (length (numbered t)) s counted (sym first_is ∙ sym h) read q above) ∙ holds)
