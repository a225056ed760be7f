-- Calls of datagrams, one after another.
use Rattle.std.proofs.Common.{◌≡◌, ℕ, ◌+◌, ◌<◌, ◌≤◌, List, [], ◌∷◌, ◌++◌, take, Option, None, Some, refl, sym, ◌∙◌, ap, subst, append_assoc, arith}
use Rattle.std.proofs.lemmas.List.{append-nil}
use Rattle.std.proofs.lemmas.List.Sums.{sum_by-append}
use Rattle.std.specs.Prelude.{cond}
use Rattle.pva_outside.specs.Count.{Rose}
use Rattle.pva_outside.specs.Traffic.{DatagramsView, Traffic, Got, Nothing, Tried, HasCome, NothingCame, ReceiveFailed, WasSent, SendFailed}
use Rattle.pva_outside.specs.declared.peer.Peer.{Peer}
use Rattle.cli_search.specs.Turning.{and_all, is_nothing, nothings, RoseBy, Passed, Failed}

and_none : (told : Option (List Traffic)) → told ≡ and_all told []
and_none None = refl
and_none (Some all) = ap (λ (l : List Traffic). Some l) (sym (append-nil all))

and_more : (told : Option (List Traffic)) (xs ys : List Traffic) → and_all (and_all told xs) ys ≡ and_all told (xs ++ ys)
and_more None xs ys = refl
and_more (Some all) xs ys = ap (λ (l : List Traffic). Some l) (append_assoc all xs ys)

pub nothings_append : (xs ys : List Traffic) → nothings (xs ++ ys) ≡ nothings xs + nothings ys
nothings_append xs ys = sum_by-append (λ (x : Traffic). cond (is_nothing x) 1 0) xs ys

rose_none : (old new : ℕ) → new ≡ old → RoseBy 0 old new
rose_none old new is = record { kept = omega arith; more = λ small. omega arith }

rose_one : {old new : ℕ} → Rose old new → RoseBy 1 old new
rose_one {old} {new} r = record { kept = r.kept; more = λ small. let more : old < new = r.more small in omega arith }

rose_more : {m n a b c : ℕ} → RoseBy m a b → RoseBy n b c → RoseBy (m + n) a c
rose_more {m} {n} {a} {b} {c} r s = record {
  kept = omega (arith, r.kept, s.kept);
  more = λ small. let first : a + m ≤ b = r.more (omega (arith, s.kept)) in let second : b + n ≤ c = s.more small in omega arith;
}

-- No call was made.

pub passed_none : (d : DatagramsView) → Passed d d []
passed_none d = record { traffic_is = and_none d.traffic; bindings = refl; faults = refl; idles = rose_none d.idles d.idles refl }

pub passed_same : (old new : DatagramsView) → new ≡ old → Passed old new []
passed_same old new is = subst (λ (d : DatagramsView). Passed old d []) (sym is) (passed_none old)

-- One call was made.

pub passed_got : {old new : DatagramsView} {n : ℕ} {from : Peer} {buffer : List ℕ} → HasCome old new n from buffer → Passed old new (Got (take n buffer) from ∷ [])
passed_got {old} {new} h = record { traffic_is = h.got.traffic; bindings = h.got.bindings; faults = h.faults; idles = rose_none old.idles new.idles h.idles }

pub passed_nothing : {old new : DatagramsView} → NothingCame old new → Passed old new (Nothing ∷ [])
passed_nothing h = record { traffic_is = h.nothing.traffic; bindings = h.nothing.bindings; faults = h.faults; idles = rose_one h.idles }

pub passed_sent : {old new : DatagramsView} {bytes : List ℕ} {to : Peer} → WasSent old new bytes to → Passed old new (Tried bytes to ∷ [])
passed_sent {old} {new} h = record { traffic_is = h.tried.traffic; bindings = h.tried.bindings; faults = h.faults; idles = rose_none old.idles new.idles h.idles }

pub failed_receive : {old new : DatagramsView} → ReceiveFailed old new → Failed old new (Nothing ∷ [])
failed_receive h = record { traffic_is = h.nothing.traffic; bindings = h.nothing.bindings; faults = h.faults }

pub failed_send : {old new : DatagramsView} {bytes : List ℕ} {to : Peer} → SendFailed old new bytes to → Failed old new (Tried bytes to ∷ [])
failed_send h = record { traffic_is = h.tried.traffic; bindings = h.tried.bindings; faults = h.faults }

-- More calls.

pub passed_more : {a b c : DatagramsView} {xs ys : List Traffic} → Passed a b xs → Passed b c ys → Passed a c (xs ++ ys)
passed_more {a} {b} {c} {xs} {ys} p q = record {
  traffic_is = q.traffic_is ∙ ap (λ (t : Option (List Traffic)). and_all t ys) p.traffic_is ∙ and_more a.traffic xs ys;
  bindings = q.bindings ∙ p.bindings;
  faults = q.faults ∙ p.faults;
  idles = subst (λ (n : ℕ). RoseBy n a.idles c.idles) (sym (nothings_append xs ys)) (rose_more p.idles q.idles);
}

pub failed_more : {a b c : DatagramsView} {xs ys : List Traffic} → Passed a b xs → Failed b c ys → Failed a c (xs ++ ys)
failed_more {a} {b} {c} {xs} {ys} p q = record {
  traffic_is = q.traffic_is ∙ ap (λ (t : Option (List Traffic)). and_all t ys) p.traffic_is ∙ and_more a.traffic xs ys;
  bindings = q.bindings ∙ p.bindings;
  faults = subst (λ (n : ℕ). Rose n c.faults) p.faults q.faults;
}

pub passed_as : {a b : DatagramsView} {xs ys : List Traffic} → xs ≡ ys → Passed a b xs → Passed a b ys
passed_as {a} {b} {xs} {ys} is p = subst (Passed a b) is p

pub failed_as : {a b : DatagramsView} {xs ys : List Traffic} → xs ≡ ys → Failed a b xs → Failed a b ys
failed_as {a} {b} {xs} {ys} is p = subst (Failed a b) is p
