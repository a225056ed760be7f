-- Runs of bytes, and where they end.
use Rattle.std.proofs.Common.{◌≡◌, ℕ, suc, ◌+◌, Bool, eqb, cond, true, false, not, List, [], ◌∷◌, ◌++◌, length, take, drop, refl, sym, ap, subst, ◌∙◌, arith, inl, inr}
use Rattle.std.proofs.lemmas.Bool.{cases_lt, lt-ltb, le-ltb, true≢false}
use Rattle.std.proofs.lemmas.Bool.Decides.{eqb_tells}
use Rattle.std.proofs.lemmas.List.Sums.{prefix_len-le-length}
use Rattle.std.proofs.Math.Seq.{take-append_seam, drop-append_seam}
use Rattle.std.specs.List.{position_or_len}
use Rattle.db_text.specs.Macros.{before_first}
use Rattle.db_text.specs.Grammar.{Each, Ends}

pub first_is : (q : ℕ → Bool) (xs : List ℕ) → before_first q xs ≡ position_or_len q xs
first_is q xs =
    elim (cases_lt (position_or_len q xs) (length xs)) [
      | inl lt ↦ rw (lt-ltb _ _ lt) refl
      | inr le ↦ rw (le-ltb _ _ le) (let e = prefix_len-le-length (λ x. not (q x)) xs in omega (arith, e, le))
    ]

pub first_cons : (q : ℕ → Bool) (b : ℕ) (xs : List ℕ) → before_first q (b ∷ xs) ≡ cond (q b) 0 (1 + before_first q xs)
first_cons q b xs = first_is q (b ∷ xs) ∙ flip (q b) refl ∙ ap (λ n. cond (q b) 0 (1 + n)) (sym (first_is q xs))
  where
    flip : (t : Bool) → q b ≡ t → position_or_len q (b ∷ xs) ≡ cond (q b) 0 (1 + position_or_len q xs)
    flip true e = rw e refl
    flip false e = rw e refl

-- bytes that pass, up to one that doesn't
pub run_len : (p : ℕ → Bool) (bs after : List ℕ) → Each p bs → Ends p after → before_first (λ b. not (p b)) (bs ++ after) ≡ length bs
run_len p [] [] each ends = refl
run_len p [] (x ∷ xs) each ends = first_cons (λ b. not (p b)) x xs ∙ rw ends refl
run_len p (b ∷ bs) after each ends = first_cons (λ b. not (p b)) b (bs ++ after) ∙ rw (each.0, run_len p bs after each.1 ends) (omega arith)

pub run_take : (p : ℕ → Bool) (bs after : List ℕ) → Each p bs → Ends p after → take (before_first (λ b. not (p b)) (bs ++ after)) (bs ++ after) ≡ bs
run_take p bs after each ends = rw (run_len p bs after each ends) (take-append_seam bs after)

pub run_drop : (p : ℕ → Bool) (bs after : List ℕ) → Each p bs → Ends p after → drop (before_first (λ b. not (p b)) (bs ++ after)) (bs ++ after) ≡ after
run_drop p bs after each ends = rw (run_len p bs after each ends) (drop-append_seam bs after)

abbrev pub Cut_of : (ℕ → Bool) → List ℕ → ℕ → Type 0
Cut_of p bytes k = Each p (take k bytes) × Ends p (drop k bytes)

found_on : (p : ℕ → Bool) (b : ℕ) (bs : List ℕ) → Cut_of p bs (before_first (λ b. not (p b)) bs) → (t : Bool) → p b ≡ t → Cut_of p (b ∷ bs) (before_first (λ b. not (p b)) (b ∷ bs))
found_on p b bs r true e =
    let n : before_first (λ b. not (p b)) (b ∷ bs) ≡ suc (before_first (λ b. not (p b)) bs) = first_cons (λ b. not (p b)) b bs ∙ rw e (omega arith) in
    subst (λ (m : ℕ). Each p (take m (b ∷ bs)) × Ends p (drop m (b ∷ bs))) (sym n) ((e, r.0), r.1)
found_on p b bs r false e = let n : before_first (λ b. not (p b)) (b ∷ bs) ≡ 0 = first_cons (λ b. not (p b)) b bs ∙ rw e refl in subst (λ (m : ℕ). Each p (take m (b ∷ bs)) × Ends p (drop m (b ∷ bs))) (sym n) (tt, e)

-- what is taken passes, and what is left doesn't begin so
pub run_found : (p : ℕ → Bool) (bytes : List ℕ) → Cut_of p bytes (before_first (λ b. not (p b)) bytes)
run_found p [] = (tt, tt)
run_found p (b ∷ bs) = found_on p b bs (run_found p bs) (p b) refl

-- a byte that passes a test is none that fails it
pub other_than : (p : ℕ → Bool) (b k : ℕ) → p k ≡ false → p b ≡ true → eqb b k ≡ false
other_than p b k fails passes =
    elim (eqb_tells b k) [ inl e ↦ absurd (true≢false (sym passes ∙ ap p e.1 ∙ fails)) | inr e ↦ e.0 ]

pub other_from : (p : ℕ → Bool) (b k : ℕ) → p k ≡ true → p b ≡ false → eqb b k ≡ false
other_from p b k passes fails =
    elim (eqb_tells b k) [ inl e ↦ absurd (true≢false (sym passes ∙ sym (ap p e.1) ∙ fails)) | inr e ↦ e.0 ]
