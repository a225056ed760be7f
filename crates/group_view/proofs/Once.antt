-- What is taken of numbers stays the same where each is taken once, in rising order.
use Rattle.std.proofs.Common.{◌≡◌, ℕ, ◌<◌, Bool, true, false, ◌||◌, ◌⊎◌, eqb, List, [], ◌∷◌, ◌++◌, fold, Option, None, Some, refl, sym, ap, ◌∙◌, arith, inl, inr}
use Rattle.std.specs.BTreeSet.{insert_key}
use Rattle.std.specs.Cmp.{nat_cmp_is}
use Rattle.std.specs.FinSet.{FinSet, contains, insert, empty}
use Rattle.std.specs.List.{AllByRecursion, flat_map, filter_map, cons_option, list_any}
use Rattle.std.specs.Ordering.{nat_cmp, match_ordering}
use Rattle.std.specs.declared.cmp.Ordering.TheVariants.{Less, Equal, Greater}
use Rattle.std.proofs.lemmas.Bool.{cases_order}
use Rattle.std.proofs.lemmas.Bool.Decides.{nat_tests}
use Rattle.std.proofs.lemmas.List.Sums.{fold-append}
use Rattle.pvd_type.proofs.Sets.{in_insert, same}
use Rattle.group_view.specs.Leaves.{rising}

-- ---- steps whose order and number don't matter

module _ {S : Type 0} (step : S → ℕ → S) (swap : (s : S) (a b : ℕ) → step (step s a) b ≡ step (step s b) a) (again : (s : S) (a : ℕ) → step (step s a) a ≡ step s a) where
  past : (ks : List ℕ) (s : S) (n : ℕ) → fold step (step s n) ks ≡ step (fold step s ks) n
  past [] s n = refl
  past (k ∷ ks) s n = ap (λ t. fold step t ks) (swap s n k) ∙ past ks (step s k) n

  at_key : (ks : List ℕ) (s : S) (n : ℕ) → fold step s (insert_key nat_cmp ks n) ≡ step (fold step s ks) n
  at_key [] s n = refl
  at_key (k ∷ ks) s n =
      elim (nat_cmp n k) as (λ o. nat_cmp n k ≡ o → fold step s (match_ordering o (n ∷ k ∷ ks) (k ∷ ks) (k ∷ insert_key nat_cmp ks n)) ≡ step (fold step (step s k) ks) n) [
        | Less ↦ λ _. past (k ∷ ks) s n
        | Equal ↦ λ e. sym (sym (past ks (step s k) n) ∙ ap (λ m. fold step (step (step s k) m) ks) (tied n k e) ∙ ap (λ t. fold step t ks) (again s k))
        | Greater ↦ λ _. at_key ks (step s k) n
      ] refl
    where
      tied : (n k : ℕ) → nat_cmp n k ≡ Equal → n ≡ k
      tied n k e = grind (arith, nat_tests)

  from_keys : (ks xs : List ℕ) (s : S) → fold step s (fold (insert_key nat_cmp) ks xs) ≡ fold step (fold step s ks) xs
  from_keys ks [] s = refl
  from_keys ks (x ∷ xs) s = from_keys (insert_key nat_cmp ks x) xs s ∙ ap (λ t. fold step t xs) (at_key ks s x)

  pub once : (xs : List ℕ) (s : S) → fold step s (rising xs) ≡ fold step s xs
  once xs s = from_keys [] xs s

-- ---- sets

in_all : (xs : List ℕ) (s : FinSet nat_cmp) (q : ℕ) → contains (fold insert s xs) q ≡ (list_any (eqb q) xs || contains s q)
in_all [] s q = refl
in_all (x ∷ xs) s q = in_all xs (insert s x) q ∙ ap (λ b. list_any (eqb q) xs || b) (in_insert s x q) ∙ turn (list_any (eqb q) xs) (eqb q x) (contains s q)
  where
    turn : (a b c : Bool) → (a || (b || c)) ≡ ((b || a) || c)
    turn true true c = refl
    turn true false c = refl
    turn false true c = refl
    turn false false c = refl

module _ (leaves : ℕ → List ℕ) where
  abbrev with_leaves : FinSet nat_cmp → ℕ → FinSet nat_cmp
  with_leaves s n = fold insert s (leaves n)

  leaves_swap : (s : FinSet nat_cmp) (a b : ℕ) → with_leaves (with_leaves s a) b ≡ with_leaves (with_leaves s b) a
  leaves_swap s a b =
      same _ _ (λ q.
      in_all (leaves b) (with_leaves s a) q ∙ ap (λ x. list_any (eqb q) (leaves b) || x) (in_all (leaves a) s q)
      ∙ turn (list_any (eqb q) (leaves b)) (list_any (eqb q) (leaves a)) (contains s q)
      ∙ sym (in_all (leaves a) (with_leaves s b) q ∙ ap (λ x. list_any (eqb q) (leaves a) || x) (in_all (leaves b) s q)))
    where
      turn : (a b c : Bool) → (a || (b || c)) ≡ (b || (a || c))
      turn true true c = refl
      turn true false c = refl
      turn false b c = refl

  leaves_again : (s : FinSet nat_cmp) (a : ℕ) → with_leaves (with_leaves s a) a ≡ with_leaves s a
  leaves_again s a =
      same _ _ (λ q.
      in_all (leaves a) (with_leaves s a) q ∙ ap (λ x. list_any (eqb q) (leaves a) || x) (in_all (leaves a) s q)
      ∙ twice (list_any (eqb q) (leaves a)) (contains s q) ∙ sym (in_all (leaves a) s q))
    where
      twice : (a c : Bool) → (a || (a || c)) ≡ (a || c)
      twice true c = refl
      twice false c = refl

  one_by_one : (xs : List ℕ) (s : FinSet nat_cmp) → fold insert s (flat_map leaves xs) ≡ fold with_leaves s xs
  one_by_one [] s = refl
  one_by_one (x ∷ xs) s = fold-append insert s (leaves x) (flat_map leaves xs) ∙ one_by_one xs (with_leaves s x)

  pub leaves_once : (xs : List ℕ) → fold (insert {R = nat_cmp}) (empty {R = nat_cmp}) (flat_map leaves (rising xs)) ≡ fold insert empty (flat_map leaves xs)
  leaves_once xs = one_by_one (rising xs) empty ∙ once with_leaves leaves_swap leaves_again xs empty ∙ sym (one_by_one xs empty)

-- ---- numbers in rising order

less : {a b : ℕ} → a < b → nat_cmp a b ≡ Less
less {a} {b} h = sym (nat_cmp_is a b Less h)

same_cmp : {a b : ℕ} → a ≡ b → nat_cmp a b ≡ Equal
same_cmp {a} {b} h = sym (nat_cmp_is a b Equal h)

more : {a b : ℕ} → b < a → nat_cmp a b ≡ Greater
more {a} {b} h = sym (nat_cmp_is a b Greater h)

abbrev keyed : List ℕ → ℕ → List ℕ
keyed ks n = insert_key nat_cmp ks n

-- two numbers, the lesser of which comes first or last
module _ (a b : ℕ) (h : a < b) where
  lower : (ks : List ℕ) → keyed (keyed ks a) b ≡ keyed (keyed ks b) a
  lower [] = rw (more h, less h) refl
  lower (k ∷ ks) = by (lower ks) (cases_order a k)
    where
      below : a < k → (b ≡ k) ⊎ ((b < k) ⊎ (k < b)) → keyed (keyed (k ∷ ks) a) b ≡ keyed (keyed (k ∷ ks) b) a
      below lt (inl e) = rw (less lt, more h, same_cmp e, less lt) refl
      below lt (inr (inl less_b)) = rw (less lt, more h, less less_b, less h) refl
      below lt (inr (inr more_b)) = rw (less lt, more h, more more_b, less lt) refl

      by : keyed (keyed ks a) b ≡ keyed (keyed ks b) a → (a ≡ k) ⊎ ((a < k) ⊎ (k < a)) → keyed (keyed (k ∷ ks) a) b ≡ keyed (keyed (k ∷ ks) b) a
      by later (inl e) = let gt : k < b = omega (arith, e, h) in rw (same_cmp e, more gt, same_cmp e) refl
      by later (inr (inl lt)) = below lt (cases_order b k)
      by later (inr (inr gt)) = let also : k < b = omega (arith, gt, h) in rw (more gt, more also, more gt) (ap (λ (xs : List ℕ). k ∷ xs) later)

keys_swap : (ks : List ℕ) (a b : ℕ) → keyed (keyed ks a) b ≡ keyed (keyed ks b) a
keys_swap ks a b = by (cases_order a b)
  where
    by : (a ≡ b) ⊎ ((a < b) ⊎ (b < a)) → keyed (keyed ks a) b ≡ keyed (keyed ks b) a
    by (inl e) = λ i. keyed (keyed ks (e i)) (sym e i)
    by (inr (inl lt)) = lower a b lt ks
    by (inr (inr gt)) = sym (lower b a gt ks)

keys_again : (ks : List ℕ) (a : ℕ) → keyed (keyed ks a) a ≡ keyed ks a
keys_again [] a = rw (same_cmp {a = a} {b = a} refl) refl
keys_again (k ∷ ks) a = by (keys_again ks a) (cases_order a k)
  where
    by : keyed (keyed ks a) a ≡ keyed ks a → (a ≡ k) ⊎ ((a < k) ⊎ (k < a)) → keyed (keyed (k ∷ ks) a) a ≡ keyed (k ∷ ks) a
    by later (inl e) = rw (same_cmp e, same_cmp e) refl
    by later (inr (inl lt)) = rw (less lt, same_cmp {a = a} {b = a} refl) refl
    by later (inr (inr gt)) = rw (more gt, more gt) (ap (λ (xs : List ℕ). k ∷ xs) later)

module _ (read : ℕ → Option ℕ) where
  abbrev with_read : List ℕ → Option ℕ → List ℕ
  with_read ks None = ks
  with_read ks (Some rec) = keyed ks rec

  abbrev step_read : List ℕ → ℕ → List ℕ
  step_read ks n = with_read ks (read n)

  read_swap : (ks : List ℕ) (a b : ℕ) → step_read (step_read ks a) b ≡ step_read (step_read ks b) a
  read_swap ks a b = by (read a) (read b)
    where
      by : (x y : Option ℕ) → with_read (with_read ks x) y ≡ with_read (with_read ks y) x
      by None y = refl
      by (Some x) None = refl
      by (Some x) (Some y) = keys_swap ks x y

  read_again : (ks : List ℕ) (a : ℕ) → step_read (step_read ks a) a ≡ step_read ks a
  read_again ks a = by (read a)
    where
      by : (x : Option ℕ) → with_read (with_read ks x) x ≡ with_read ks x
      by None = refl
      by (Some x) = keys_again ks x

  read_in_turn : (xs ks : List ℕ) → fold (insert_key nat_cmp) ks (filter_map read xs) ≡ fold step_read ks xs
  read_in_turn [] ks = refl
  read_in_turn (x ∷ xs) ks = by (read_in_turn xs) (read x) refl
    where
      by : ((ls : List ℕ) → fold (insert_key nat_cmp) ls (filter_map read xs) ≡ fold step_read ls xs) → (o : Option ℕ) → read x ≡ o → fold (insert_key nat_cmp) ks (cons_option (read x) (filter_map read xs)) ≡ fold step_read (with_read ks (read x)) xs
      by later None e = (λ i. fold (insert_key nat_cmp) ks (cons_option (e i) (filter_map read xs))) ∙ later ks ∙ sym (λ i. fold step_read (with_read ks (e i)) xs)
      by later (Some rec) e = (λ i. fold (insert_key nat_cmp) ks (cons_option (e i) (filter_map read xs))) ∙ later (keyed ks rec) ∙ sym (λ i. fold step_read (with_read ks (e i)) xs)

  pub reads_once : (xs : List ℕ) → rising (filter_map read (rising xs)) ≡ rising (filter_map read xs)
  reads_once xs = read_in_turn (rising xs) [] ∙ once step_read read_swap read_again xs [] ∙ sym (read_in_turn xs [])

-- ---- numbers that are so stay so

pub all_rising : (P : ℕ → Type 0) (xs : List ℕ) → AllByRecursion P xs → AllByRecursion P (rising xs)
all_rising P xs all = from [] xs tt all
  where
    key : (ks : List ℕ) (n : ℕ) → AllByRecursion P ks → P n → AllByRecursion P (keyed ks n)
    key [] n all h = (h, tt)
    key (k ∷ ks) n all h =
        elim (nat_cmp n k) as (λ o. AllByRecursion P (match_ordering o (n ∷ k ∷ ks) (k ∷ ks) (k ∷ insert_key nat_cmp ks n))) [
          | Less ↦ (h, all)
          | Equal ↦ all
          | Greater ↦ (all.0, key ks n all.1 h)
        ]

    from : (ks ns : List ℕ) → AllByRecursion P ks → AllByRecursion P ns → AllByRecursion P (fold (insert_key nat_cmp) ks ns)
    from ks [] a b = a
    from ks (n ∷ ns) a b = from (keyed ks n) ns (key ks n a b.0) b.1
