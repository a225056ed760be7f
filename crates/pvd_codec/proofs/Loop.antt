-- Items that are read one after another, as a loop does.
use Rattle.std.proofs.Common.{◌≡◌, ℕ, zero, suc, ◌-◌, ◌+◌, ◌≤◌, ◌<◌, List, [], ◌∷◌, ◌++◌, Ok, Err, refl, sym, ap, subst, ◌∙◌, append_assoc, arith}
use Rattle.std.proofs.lemmas.List.{append-nil}
use Rattle.pva_wire.specs.Reading.{◌>>=◌}
use Rattle.pva_wire.proofs.Takes.{ok_is, bind_ok}
use Rattle.pvd_codec.specs.declared.fault.ValueStop.{ValueStop}
use Rattle.pvd_codec.specs.declared.fault.ValueStop.TheVariants as stops
use Rattle.pvd_codec.specs.Reading.{Read, Fails, items_at}

-- what was read before, and what is still read
abbrev pub with_front : {A S : Type 0} → List A → Read S (List A) → Read S (List A)
with_front front read = read >>= λ x. Ok (front ++ x.0, x.1)

module _ {A S : Type 0} (item : S → Read S A) where
  regroup : (front : List A) (x : A) (read : Read S (List A)) → with_front front (read >>= λ y. Ok (x ∷ y.0, y.1)) ≡ with_front (front ++ x ∷ []) read
  regroup front x (Ok y) = ap (λ (xs : List A). Ok (xs, y.1)) (simp append_assoc)
  regroup front x (Err f) = refl

  pub goes_on : (front : List A) (count i : ℕ) (s : S) (x : A) (after : S) (total : Read S (List A)) → i < count → item s ≡ Ok (x, after)
      → with_front front (items_at item (count - i) s) ≡ total → with_front (front ++ x ∷ []) (items_at item (count - (i + 1)) after) ≡ total
  unfolding items_at
  goes_on front count i s x after total lt h so_far =
      let k : count - i ≡ suc (count - (i + 1)) = omega arith in
      let one : with_front front (items_at item (count - i) s) ≡ with_front (front ++ x ∷ []) (items_at item (count - (i + 1)) after) = rw (k, h) (regroup front x (items_at item (count - (i + 1)) after)) in
      sym one ∙ so_far

  pub ends : (e : ValueStop) (front : List A) (count i : ℕ) (s : S) (total : Read S (List A)) → i < count → Fails e (item s)
      → with_front front (items_at item (count - i) s) ≡ total → Fails e total
  unfolding items_at
  ends stops.Memory front count i s total lt h so_far = tt
  ends (stops.Fault f left) front count i s total lt h so_far =
      let k : count - i ≡ suc (count - (i + 1)) = omega arith in
      let one : with_front front (items_at item (count - i) s) ≡ Err (f, left) = rw (k, h) refl in
      sym so_far ∙ one

  pub is_done : (front : List A) (count i : ℕ) (s : S) (total : Read S (List A)) → count ≤ i → with_front front (items_at item (count - i) s) ≡ total → total ≡ Ok (front, s)
  unfolding items_at
  is_done front count i s total le so_far =
      let k : count - i ≡ 0 = omega arith in
      let one : with_front front (items_at item (count - i) s) ≡ Ok (front, s) = rw k (ap (λ (xs : List A). Ok (xs, s)) (append-nil front)) in
      sym so_far ∙ one

  nothing_before : (read : Read S (List A)) → read ≡ with_front [] read
  nothing_before (Ok y) = refl
  nothing_before (Err f) = refl

  one_before : (x : A) (xs : List A) (read : Read S (List A)) → (with_front xs read >>= λ y. Ok (x ∷ y.0, y.1)) ≡ with_front (x ∷ xs) read
  one_before x xs (Ok y) = refl
  one_before x xs (Err f) = refl

  regroup_all : (front xs : List A) (read : Read S (List A)) → with_front front (with_front xs read) ≡ with_front (front ++ xs) read
  regroup_all front xs (Ok y) = ap (λ (zs : List A). Ok (zs, y.1)) (simp append_assoc)
  regroup_all front xs (Err f) = refl

  one_more : (k m : ℕ) (s : S) (x : A × S) (ys : List A × S) → item s ≡ Ok x → items_at item (k + m) x.1 ≡ with_front ys.0 (items_at item m ys.1)
      → items_at item (suc k + m) s ≡ with_front (x.0 ∷ ys.0) (items_at item m ys.1)
  unfolding items_at
  one_more k m s x ys first others =
      let count : suc k + m ≡ suc (k + m) = omega arith in
      rw (count, first, others) (one_before x.0 ys.0 (items_at item m ys.1))

  -- the first few, and then the others
  few_first : (k m : ℕ) (s : S) (xs : List A × S) → items_at item k s ≡ Ok xs → items_at item (k + m) s ≡ with_front xs.0 (items_at item m xs.1)
  unfolding items_at
  few_first zero m s xs h =
      let none : 0 + m ≡ m = omega arith in
      subst (λ (zs : List A × S). items_at item (0 + m) s ≡ with_front zs.0 (items_at item m zs.1)) (ok_is ([], s) xs h) (rw none (nothing_before (items_at item m s)))
  few_first (suc k) m s xs h =
      let x = bind_ok (item s) (λ x. items_at item k x.1 >>= λ ys. Ok (x.0 ∷ ys.0, ys.1)) xs h in
      let ys = bind_ok (items_at item k x.0.1) (λ ys. Ok (x.0.0 ∷ ys.0, ys.1)) xs x.2 in
      subst (λ (zs : List A × S). items_at item (suc k + m) s ≡ with_front zs.0 (items_at item m zs.1)) (ok_is (x.0.0 ∷ ys.0.0, ys.0.1) xs ys.2) (one_more k m s x.0 ys.0 x.1 (few_first k m x.0.1 ys.0 ys.1))

  pub goes_on_by : (front : List A) (count i k : ℕ) (s : S) (xs : List A) (after : S) (total : Read S (List A)) → i + k ≤ count → items_at item k s ≡ Ok (xs, after)
      → with_front front (items_at item (count - i) s) ≡ total → with_front (front ++ xs) (items_at item (count - (i + k)) after) ≡ total
  goes_on_by front count i k s xs after total le h so_far =
      let parts : count - i ≡ k + (count - (i + k)) = omega (arith, le) in
      let one : with_front front (items_at item (count - i) s) ≡ with_front (front ++ xs) (items_at item (count - (i + k)) after) = rw (parts, few_first k (count - (i + k)) s (xs, after) h) (regroup_all front xs (items_at item (count - (i + k)) after)) in
      sym one ∙ so_far
