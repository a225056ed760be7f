-- When a datagram has an answer.
use Rattle.std.proofs.Common.{◌≡◌, ℕ, suc, ◌<◌, ◌&&◌, Bool, true, false, cond, List, [], ◌∷◌, length, Option, Some, None, Ok, Err, refl, sym, ap, ◌∙◌, arith}
use Rattle.std.specs.Option.{IsSome}
use Rattle.pva_wire.specs.declared.order.Order.{Order}
use Rattle.pva_wire.specs.declared.fault.Cause.{Cause}
use Rattle.pva_wire.specs.declared.fault.Stop.TheVariants.{Memory, Fault}
use Rattle.pva_wire.proofs.Takes.{differs, ok_is}
use Rattle.pva_outside.specs.declared.peer.Peer.{Peer}
use Rattle.pva_search.specs.declared.setup.Setup.{Setup}
use Rattle.pva_search.specs.Messages.{Search, response_bytes}
use Rattle.pva_search.specs.Reading.{each_at, channel_at}
use Rattle.pva_search.specs.Answers.{is_for, is_wanted, known_of, response_of, goes_to, answer_to}
use Rattle.pva_search.specs.Parts.{mapped, IsKnown}

neither : {A : Type 0} (a b : Bool) (x : A) → b ≡ false → cond (a && b) (Some x) None ≡ None
neither true b x e = rw e refl
neither false b x e = refl

module _ (test : List ℕ → Bool) (setup : Setup) (from : Peer) (order : Order) (s : Search) (found : Option (Order × Search)) (is : found ≡ Some (order, s)) where
  pub not_for : is_for s ≡ false → answer_to test setup from found ≡ None
  not_for e = ap (answer_to test setup from) is ∙ rw e refl

  pub not_wanted : is_wanted s.head.flags (known_of test s.channels) ≡ false → answer_to test setup from found ≡ None
  not_wanted e = ap (answer_to test setup from) is ∙ neither (is_for s) (is_wanted s.head.flags (known_of test s.channels)) _ e

  pub replied : is_for s ≡ true → is_wanted s.head.flags (known_of test s.channels) ≡ true
      → answer_to test setup from found ≡ Some (response_bytes order (response_of setup s.head.sequence (known_of test s.channels)), goes_to from s)
  replied e w = ap (answer_to test setup from) is ∙ rw (e, w) refl

  pub is_answered : is_for s ≡ true → is_wanted s.head.flags (known_of test s.channels) ≡ true → IsSome (answer_to test setup from found)
  is_answered e w = rw (replied e w) refl

-- what some names make wanted
pub some_wanted : (flags : ℕ) (found : List ℕ) → 0 < length found → is_wanted flags found ≡ true
some_wanted flags [] h = absurd (omega arith)
some_wanted flags (x ∷ xs) h = rw (differs (suc (length xs)) 0 (λ e. omega arith)) refl

module _ (test : List ℕ → Bool) (order : Order) (count : ℕ) (bytes after : List ℕ) (channels : List (ℕ × List ℕ)) (there : each_at (channel_at order) count bytes ≡ Ok (channels, after)) where
  pub known_is : {X : Type 0} (view : X → List ℕ) (v : X) → IsKnown view test order count bytes (Ok v) → view v ≡ known_of test channels
  known_is view v (rest, e) =
      ap (λ (z : List ℕ × List ℕ). z.0) (ok_is (view v, rest) (known_of test channels, after) (sym e ∙ ap (mapped (known_of test)) there))

  pub some_known : {X : Type 0} (view : X → List ℕ) → IsKnown view test order count bytes (Err Memory) → 0 < length (known_of test channels)
  some_known view h = h (known_of test channels) after (ap (mapped (known_of test)) there)

  pub no_fault : {X : Type 0} (view : X → List ℕ) (cause : Cause) (left : ℕ) → IsKnown view test order count bytes (Err (Fault cause left)) → ⊥
  no_fault view cause left e = let k : Err (cause, left) ≡ Ok (known_of test channels, after) = sym e ∙ ap (mapped (known_of test)) there in cc
