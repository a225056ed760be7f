-- What adding 1 to both of two cells owes.
use Rattle.std.proofs.Common.{◌≡◌, ℕ, zero, suc, ◌+◌, List, [], ◌∷◌, ◌++◌, length, set, replicate, sym, refl, ap, ◌∙◌, subst, arith, Some, None}
use Rattle.hall_core.specs.Meanings.{Among}
use Rattle.histories.specs.History.{entries_of}
use Rattle.hall_tests.specs.TwoCells.{two_cells}
use Rattle.hall_locks.specs.declared.view.View.{View}
use Rattle.hall_locks.specs.Hall.{shown_cells, numbers_of}
use Rattle.hall_locks.specs.Hands.{values_of, MayCommit, MayLook, AsTaken, AsAfter, with_entry}
use Rattle.hall_locks.proofs.Deeds.{entries_snoc}

abbrev pub Un : Type 0
Un = Unit {0}

abbrev pub Vw : Type 0
Vw = View ℕ Un Un Un Un ℕ

abbrev pub ones : ℕ → List Un
ones n = replicate n tt

ones_snoc : (n : ℕ) → ones n ++ tt ∷ [] ≡ ones (suc n)
ones_snoc zero = refl
ones_snoc (suc n) = ap (λ l. tt ∷ l) (ones_snoc n)

length_ones : (n : ℕ) → length (ones n) ≡ n
length_ones zero = refl
length_ones (suc n) = ap suc (length_ones n)

turned_round : (c : ℕ) → Among c (0 ∷ 1 ∷ []) → Among c (1 ∷ 0 ∷ [])
turned_round c (zero, l, e) = (1, omega arith, e)
turned_round c (suc zero, l, e) = (0, omega arith, e)
turned_round c (suc (suc k), l, e) = absurd (omega arith)

both_cells : (cs : List (ℕ × ℕ)) → numbers_of cs ≡ 1 ∷ 0 ∷ [] → (a : ℕ) × (b : ℕ) × (cs ≡ (1, a) ∷ (0, b) ∷ [])
both_cells [] e = absurd (cc e)
both_cells (p ∷ []) e = absurd (cc e)
both_cells (p ∷ q ∷ []) e = let x : p.0 ≡ 1 = cc e in let y : q.0 ≡ 0 = cc e in (p.1, q.1, λ i. (x i, p.1) ∷ (y i, q.1) ∷ [])
both_cells (p ∷ q ∷ r ∷ cs) e = absurd (cc e)

shown_add : (v : Vw) (hub : ℕ) (items : List ℕ) (entry : Un) → ones (hub + 1) ≡ entries_of v.seen.deeds ++ entry ∷ [] → numbers_of v.cells ≡ 1 ∷ 0 ∷ [] → length items ≡ 2
    → AsAfter two_cells v (with_entry two_cells v entry) (set (set items 0 (hub + 1)) 1 (hub + 1))
shown_add v hub [] entry entries numbers two = absurd (omega arith)
shown_add v hub (x ∷ []) entry entries numbers two = absurd (omega arith)
shown_add v hub (x ∷ y ∷ z ∷ zs) entry entries numbers two = absurd (omega arith)
shown_add v hub (x ∷ y ∷ []) entry entries numbers two =
    let t = both_cells v.cells numbers in
    let many : length (entries_of (with_entry two_cells v entry).deeds) ≡ hub + 1 = ap length (entries_snoc v.seen.deeds v.number entry ∙ sym entries) ∙ length_ones (hub + 1) in
    ap (λ cs. values_of (shown_cells two_cells (with_entry two_cells v entry) cs)) t.2 ∙ (λ i. many i ∷ many i ∷ [])

pub may_add : (v : Vw) (hub : ℕ) (items : List ℕ) → v.hub ≡ Some hub → ones hub ≡ entries_of v.seen.deeds → numbers_of v.cells ≡ 1 ∷ 0 ∷ [] → length items ≡ 2 → MayCommit two_cells v (hub + 1) (set (set items 0 (hub + 1)) 1 (hub + 1)) (Some tt)
may_add v hub items was entries numbers two = let next : hub + 1 ≡ suc hub = omega arith in record {
  found = hub;
  was = was;
  entry = tt;
  base = refl;
  entries = ap ones next ∙ (sym (ones_snoc hub) ∙ ap (λ l. l ++ tt ∷ []) entries);
  legal = tt;
  footprint = λ c a. subst (Among c) (sym numbers) (turned_round c a);
  shown = shown_add v hub items tt (ap ones next ∙ (sym (ones_snoc hub) ∙ ap (λ l. l ++ tt ∷ []) entries)) numbers two;
  named = tt;
  marked = refl;
  adds = refl;
  fits = tt;
  true_mark = tt;
  own = tt;
  others = λ k log other kept. tt;
}

pub may_look : (v : Vw) (hub : ℕ) (items : List ℕ) → v.hub ≡ Some hub → ones hub ≡ entries_of v.seen.deeds → AsTaken two_cells v items → MayLook two_cells v hub items None
may_look v hub items was entries taken = record { found = hub; was = was; base = refl; entries = entries; taken = taken; adds = tt; true_mark = tt; own = tt; others = λ k log other kept. tt }
