-- A window that sees one step more.
use Rattle.std.proofs.Common.{◌≡◌, ℕ, zero, suc, ◌+◌, ◌≤◌, cond, List, [], ◌∷◌, ◌++◌, length, take, refl, arith, inl, inr}
use Rattle.std.specs.Prelude.{nat_lt}
use Rattle.std.proofs.lemmas.Bool.{lt-ltb, le-ltb, cases_lt}
use Rattle.std.proofs.lemmas.List.{take-append-le, take_all, length-append}
use Rattle.mon_window.specs.Windows.{greatest, Step, acknowledged, sent, acknowledged_in, sent_in, IsFree, StandsFor}

acknowledged_append : (xs ys : List Step) → acknowledged_in (xs ++ ys) ≡ acknowledged_in xs + acknowledged_in ys
acknowledged_append [] ys = omega arith
acknowledged_append (acknowledged count ∷ xs) ys = omega (arith, acknowledged_append xs ys)
acknowledged_append (sent ∷ xs) ys = acknowledged_append xs ys

sent_append : (xs ys : List Step) → sent_in (xs ++ ys) ≡ sent_in xs + sent_in ys
sent_append [] ys = omega arith
sent_append (acknowledged count ∷ xs) ys = sent_append xs ys
sent_append (sent ∷ xs) ys = omega (arith, sent_append xs ys)

stands_more : (window first : ℕ) (steps : List Step) (x : Step) (next : ℕ) → StandsFor window first steps → IsFree first (steps ++ x ∷ []) next → StandsFor next first (steps ++ x ∷ [])
stands_more window first steps x next s now = record { free = free; always = always; now = now }
  where
    free : ℕ → ℕ
    free n = cond (nat_lt (length steps) n) next (s.free n)

    always : (n : ℕ) → IsFree first (take n (steps ++ x ∷ [])) (free n)
    always n = elim (cases_lt (length steps) n) [
      | inl lt ↦ rw (lt-ltb (length steps) n lt, take_all n (steps ++ x ∷ []) (omega (arith, lt, length-append steps (x ∷ [])))) now
      | inr le ↦ rw (le-ltb (length steps) n le, take-append-le n steps (x ∷ []) le) (s.always n)
    ]

pub stands_first : (free : ℕ) → free ≤ greatest → StandsFor free free []
stands_first free few =
    record { free = λ n. free; always = always; now = now }
  where
    now : IsFree free [] free
    now = record { balance = refl; few = few }

    always : (n : ℕ) → IsFree free (take n []) free
    always zero = now
    always (suc n) = now

pub stands_acknowledged : (window first count : ℕ) (steps : List Step) → window + count ≤ greatest → StandsFor window first steps → StandsFor (window + count) first (steps ++ acknowledged count ∷ [])
stands_acknowledged window first count steps few s = stands_more window first steps (acknowledged count) (window + count) s (record {
  balance = omega (arith, s.now.balance, acknowledged_append steps (acknowledged count ∷ []), sent_append steps (acknowledged count ∷ []));
  few = few;
})

pub stands_sent : (window first : ℕ) (steps : List Step) → StandsFor (window + 1) first steps → StandsFor window first (steps ++ sent ∷ [])
stands_sent window first steps s = stands_more (window + 1) first steps sent window s (record {
  balance = omega (arith, s.now.balance, acknowledged_append steps (sent ∷ []), sent_append steps (sent ∷ []));
  few = omega (arith, s.now.few);
})
