-- Items that are read one after another, as a loop does.
use Rattle.std.proofs.Common.{◌≡◌, ℕ, suc, ◌-◌, ◌+◌, ◌≤◌, ◌<◌, List, [], ◌∷◌, Ok, Err, refl, sym, ap, ◌∙◌, arith}
use Rattle.pva_wire.specs.declared.fault.Stop.{Stop}
use Rattle.pva_wire.specs.declared.fault.Stop.TheVariants as stops
use Rattle.pva_wire.specs.Reading.{Read, Fails, TakesNone, ◌>>=◌}
use Rattle.pva_wire.proofs.Takes.{ok_is}
use Rattle.pva_search.specs.Reading.{each_at}
use Rattle.pva_search.specs.Parts.{mapped}

module _ {A B : Type 0} (item : List ℕ → Read A) where
  regroup : (k later : List A → B) (x : A) (read : Read (List A)) → ((xs : List A) → k (x ∷ xs) ≡ later xs)
      → mapped k (read >>= λ xs. Ok (x ∷ xs.0, xs.1)) ≡ mapped later read
  regroup k later x (Ok y) step = ap (λ (b : B). Ok (b, y.1)) (step y.0)
  regroup k later x (Err f) step = refl

  -- one item more was read: what k makes of it and of the others, `later` makes of the others
  pub goes_on : (k later : List A → B) (count i : ℕ) (bytes : List ℕ) (x : A) (after : List ℕ) (total : Read B)
      → i < count → item bytes ≡ Ok (x, after) → ((xs : List A) → k (x ∷ xs) ≡ later xs)
      → mapped k (each_at item (count - i) bytes) ≡ total → mapped later (each_at item (count - (i + 1)) after) ≡ total
  unfolding each_at
  goes_on k later count i bytes x after total lt h step so_far =
      let n : count - i ≡ suc (count - (i + 1)) = omega arith in
      let one : mapped k (each_at item (count - i) bytes) ≡ mapped later (each_at item (count - (i + 1)) after) =
      rw (n, h) (regroup k later x (each_at item (count - (i + 1)) after) step) in
      sym one ∙ so_far

  pub ends : (e : Stop) (k : List A → B) (count i : ℕ) (bytes : List ℕ) (total : Read B) → i < count → Fails e (item bytes)
      → mapped k (each_at item (count - i) bytes) ≡ total → Fails e total
  unfolding each_at
  ends stops.Memory k count i bytes total lt h so_far = tt
  ends (stops.Fault f left) k count i bytes total lt h so_far =
      let n : count - i ≡ suc (count - (i + 1)) = omega arith in
      let one : mapped k (each_at item (count - i) bytes) ≡ Err (f, left) = rw (n, h) refl in
      sym so_far ∙ one

  pub is_done : (k : List A → B) (count i : ℕ) (bytes : List ℕ) (total : Read B) → count ≤ i
      → mapped k (each_at item (count - i) bytes) ≡ total → total ≡ Ok (k [], bytes)
  unfolding each_at
  is_done k count i bytes total le so_far =
      let n : count - i ≡ 0 = omega arith in
      let one : mapped k (each_at item (count - i) bytes) ≡ Ok (k [], bytes) = rw n refl in
      sym so_far ∙ one

  -- what was made of items is made of those that were read
  pub made : (k : List A → B) (read : Read (List A)) (xs : List A) (after : List ℕ) (b : B) (rest : List ℕ)
      → mapped k read ≡ Ok (b, rest) → read ≡ Ok (xs, after) → b ≡ k xs
  made k read xs after b rest e there =
      ap (λ (z : B × List ℕ). z.0) (ok_is (b, rest) (k xs, after) (sym e ∙ ap (mapped k) there))

  -- a reading that went well has no fault
  pub no_end : (e : Stop) (k : List A → B) (read : Read (List A)) (xs : List A) (after : List ℕ)
      → TakesNone {X = ℕ} (Err e) → Fails e (mapped k read) → read ≡ Ok (xs, after) → ⊥
  no_end stops.Memory k read xs after none fails there = none
  no_end (stops.Fault f left) k read xs after none fails there =
      let e : Ok (k xs, after) ≡ Err (f, left) = sym (ap (mapped k) there) ∙ fails in
      cc
