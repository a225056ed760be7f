-- How a response is read.
use Rattle.std.proofs.Common.{◌≡◌, ◌∙◌, ℕ, zero, suc, ◌*◌, ◌%◌, ◌≤◌, ◌<◌, Bool, List, [], ◌∷◌, length, drop, Ok, Err, refl, ap, arith, inl, inr}
use Rattle.std.proofs.lemmas.Bool.{cases_lt, lt-ltb, le-ltb}
use Rattle.std.proofs.lemmas.List.{length-drop}
use Rattle.pva_wire.specs.declared.order.Order.{Order}
use Rattle.pva_wire.specs.declared.fault.Cause.{Cause}
use Rattle.pva_wire.specs.declared.fault.Cause.TheVariants.{Short}
use Rattle.pva_wire.specs.declared.fault.Stop.{Stop}
use Rattle.pva_wire.specs.declared.fault.Stop.TheVariants as stops
use Rattle.pva_wire.specs.Reading.{Read, Fails, ◌>>=◌, number_of, number_at, text_at}
use Rattle.pva_search.specs.Messages.{Response}
use Rattle.pva_search.specs.Reading.{bytes_at, each_at, flag_at, instances_at, response_at}

-- enough bytes hold so many numbers
pub enough : (o : Order) (n : ℕ) (bytes : List ℕ) → 4 * n ≤ length bytes
    → (ids : List ℕ) × (after : List ℕ) × (each_at (number_at o 4) n bytes ≡ Ok (ids, after))
unfolding each_at number_at
enough o zero bytes h = ([], bytes, refl)
enough o (suc n) bytes h =
    let (ids, after, e) = enough o n (drop 4 bytes) (omega (arith, length-drop 4 bytes)) in
    (number_of o 4 bytes ∷ ids, after, rw (le-ltb (length bytes) 4 (omega arith), e) refl)

-- fewer don't
pub too_few : (o : Order) (n : ℕ) (bytes : List ℕ) → length bytes < 4 * n → each_at (number_at o 4) n bytes ≡ Err (Short, length bytes % 4)
unfolding each_at number_at
too_few o zero bytes h = absurd (omega arith)
too_few o (suc n) bytes h =
    elim (cases_lt (length bytes) 4) [
      | inl lt ↦
          let same : length bytes ≡ length bytes % 4 = omega arith in
          rw (lt-ltb (length bytes) 4 lt) (ap (λ (k : ℕ). Err (Short, k)) same)
      | inr le ↦
          let e = too_few o n (drop 4 bytes) (omega (arith, length-drop 4 bytes)) in
          let same : length (drop 4 bytes) % 4 ≡ length bytes % 4 = omega (arith, length-drop 4 bytes) in
          rw (le-ltb (length bytes) 4 le, e) (ap (λ (k : ℕ). Err (Short, k)) same)
    ]

pub instances_are : (o : Order) (bytes rest : List ℕ) (count : ℕ) (out : Read (List ℕ)) → number_at o 2 bytes ≡ Ok (count, rest) → each_at (number_at o 4) count rest ≡ out
    → instances_at o bytes ≡ out
unfolding instances_at
instances_are o bytes rest count out h e = ap (λ (r : Read ℕ). r >>= λ n. each_at (number_at o 4) n.0 n.1) h ∙ e

pub no_instances : (o : Order) (bytes : List ℕ) (cause : Cause) (k : ℕ) → number_at o 2 bytes ≡ Err (cause, k) → instances_at o bytes ≡ Err (cause, k)
unfolding instances_at
no_instances o bytes cause k h = ap (λ (r : Read ℕ). r >>= λ n. each_at (number_at o 4) n.0 n.1) h

-- what a reading of the items before the numbers gives
pub record Front (o : Order) (payload : List ℕ) (address : List ℕ) (port : ℕ) (found : Bool) (left : List ℕ) : Type 0 where
  pub guid : List ℕ
  pub behind_guid : List ℕ
  pub first : bytes_at 12 payload ≡ Ok (guid, behind_guid)
  pub sequence : ℕ
  pub behind_sequence : List ℕ
  pub second : number_at o 4 behind_guid ≡ Ok (sequence, behind_sequence)
  pub behind_address : List ℕ
  pub third : bytes_at 16 behind_sequence ≡ Ok (address, behind_address)
  pub behind_port : List ℕ
  pub fourth : number_at o 2 behind_address ≡ Ok (port, behind_port)
  pub protocol : List ℕ
  pub behind_protocol : List ℕ
  pub fifth : text_at o behind_port ≡ Ok (protocol, behind_protocol)
  pub sixth : flag_at o behind_protocol ≡ Ok (found, left)

module _ (o : Order) (payload address : List ℕ) (port : ℕ) (found : Bool) (left : List ℕ) (front : Front o payload address port found left) where
  -- the response, with these numbers
  abbrev pub with_numbers : List ℕ → Response
  with_numbers ns =
      record { guid = front.guid; sequence = front.sequence; address = address; port = port; protocol = front.protocol; found = found; instances = ns }

  response_is : response_at o payload ≡ (instances_at o left >>= λ ns. Ok (with_numbers ns.0, ns.1))
  unfolding response_at
  response_is =
      let e1 = front.first in
      let e2 = front.second in
      let e3 = front.third in
      let e4 = front.fourth in
      let e5 = front.fifth in
      let e6 = front.sixth in
      rw (e1, e2, e3, e4, e5, e6) refl

  pub is_response : (ns after : List ℕ) → instances_at o left ≡ Ok (ns, after) → response_at o payload ≡ Ok (with_numbers ns, after)
  is_response ns after e = response_is ∙ ap (λ (r : Read (List ℕ)). r >>= λ ns. Ok (with_numbers ns.0, ns.1)) e

  pub no_response : (cause : Cause) (k : ℕ) → instances_at o left ≡ Err (cause, k) → response_at o payload ≡ Err (cause, k)
  no_response cause k e = response_is ∙ ap (λ (r : Read (List ℕ)). r >>= λ ns. Ok (with_numbers ns.0, ns.1)) e

  -- the count can't be read
  pub no_count : (e : Stop) → Fails e (number_at o 2 left) → Fails e (response_at o payload)
  no_count stops.Memory h = tt
  no_count (stops.Fault cause k) h = no_response cause k (no_instances o left cause k h)
