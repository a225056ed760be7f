-- The numbers of the names that are known, as they are read.
use Rattle.std.proofs.Common.{◌≡◌, ℕ, ◌<◌, Bool, true, false, List, [], ◌∷◌, ◌++◌, length, Ok, Err, refl, sym, ap, arith, append_assoc, length-append}
use Rattle.pva_wire.specs.declared.order.Order.{Order}
use Rattle.pva_wire.specs.declared.fault.Stop.{Stop}
use Rattle.pva_wire.specs.declared.fault.Stop.TheVariants as stops
use Rattle.pva_wire.specs.Reading.{Read, Fails, TakesNone}
use Rattle.pva_wire.proofs.Takes.{ok_is}
use Rattle.pva_search.specs.Answers.{known_of}
use Rattle.pva_search.specs.Parts.{mapped, IsKnown}
use Rattle.pva_search.specs.Reading.{each_at, channel_at}

pub known_more : (test : List ℕ → Bool) (found : List ℕ) (instance : ℕ) (name : List ℕ) (cs : List (ℕ × List ℕ)) → test name ≡ true
    → found ++ known_of test ((instance, name) ∷ cs) ≡ (found ++ instance ∷ []) ++ known_of test cs
known_more test found instance name cs e = rw e (sym (append_assoc found (instance ∷ []) (known_of test cs)))

pub known_same : (test : List ℕ → Bool) (found : List ℕ) (instance : ℕ) (name : List ℕ) (cs : List (ℕ × List ℕ)) → test name ≡ false
    → found ++ known_of test ((instance, name) ∷ cs) ≡ found ++ known_of test cs
known_same test found instance name cs e = rw e refl

-- one that is known makes some
pub some_read : (test : List ℕ → Bool) (found : List ℕ) (instance : ℕ) (read : Read (List (ℕ × List ℕ))) (all rest : List ℕ)
    → mapped (λ cs. (found ++ instance ∷ []) ++ known_of test cs) read ≡ Ok (all, rest) → 0 < length all
some_read test found instance (Ok x) all rest h =
    let e = ap (λ (z : List ℕ × List ℕ). z.0) (ok_is ((found ++ instance ∷ []) ++ known_of test x.0, x.1) (all, rest) h) in
    omega (arith, ap length e, length-append (found ++ instance ∷ []) (known_of test x.0), length-append found (instance ∷ []))
some_read test found instance (Err e) all rest h = absurd cc

-- a fault of a channel is one of the whole
pub known_fails : {X : Type 0} (view : X → List ℕ) (test : List ℕ → Bool) (order : Order) (count : ℕ) (channels : List ℕ) (e : Stop)
    → TakesNone {X = ℕ} (Err e) → Fails e (mapped (known_of test) (each_at (channel_at order) count channels)) → IsKnown view test order count channels (Err e)
known_fails view test order count channels stops.Memory none fails = absurd none
known_fails view test order count channels (stops.Fault cause left) none fails = fails
