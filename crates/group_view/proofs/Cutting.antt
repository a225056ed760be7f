-- Structures with at most so many levels: what is left out doesn't change whether they make a type.
use Rattle.std.proofs.Common.{◌≡◌, ℕ, zero, suc, ◌+◌, ◌≤◌, ◌<◌, Bool, true, false, cond, ltb, List, [], ◌∷◌, ◌++◌, length, fold, Option, Some, None, option_map, refl, sym, ap, ◌∙◌, subst, arith}
use Rattle.std.specs.Prelude.{⊤}
use Rattle.std.specs.Str.{bytes_eq}
use Rattle.std.proofs.lemmas.Bool.Decides.{nat_tests}
use Rattle.pvd_type.specs.Check.{Visit, below, visits, label_fault, fault_at, or_next, first_fault, type_fault}
use Rattle.pvd_type.specs.declared.checking.TypeFault.{TypeFault}
use Rattle.pvd_type.specs.declared.checking.TypeFault.TheVariants.{TooDeep, TooMany}
use Rattle.pvd_type.proofs.Walks.{first_fault-append}
use Rattle.group_view.specs.Slots.{Path, Slot, shows, level, Slots, no_slots, slot, with_last, in_last, behind, behind_to, slots_of, slots_to}
use Rattle.group_view.specs.Types.{slot_tree, slot_fields}
use Rattle.group_view.specs.declared.entry.Entry.{Entry}
use Rattle.group_view.specs.declared.entry.Entry.TheVariants.{Shown, WithId}

-- slots without what lies deeper than so many levels
abbrev mutual
  pub cut_slot : Slot → ℕ → Slot
  cut_slot (shows s) k = shows s
  cut_slot (level id ss) k = level id (cut ss k)

  pub cut : Slots → ℕ → Slots
  cut no_slots k = no_slots
  cut (slot name s ss) zero = no_slots
  cut (slot name s ss) (suc k) = slot name (cut_slot s k) (cut ss (suc k))

cut_zero : (ss : Slots) → cut ss zero ≡ no_slots
cut_zero no_slots = refl
cut_zero (slot name s ss) = refl

cut_last : (name : List ℕ) (s : Slot) (k : ℕ) (ss : Slots) → cut (with_last name s ss) (suc k) ≡ with_last name (cut_slot s k) (cut ss (suc k))
cut_last name s k no_slots = refl
cut_last name s k (slot other t ss) = ap (slot other (cut_slot t k)) (cut_last name s k ss)

module _ (name : List ℕ) (make short : List ℕ → Slots → Slot) (k : ℕ) (is : (id : List ℕ) (inner : Slots) → cut_slot (make id inner) k ≡ short id (cut inner k)) where
  cut_in : (ss : Slots) → cut (in_last name make ss) (suc k) ≡ in_last name short (cut ss (suc k))
  cut_in no_slots = ap (λ (s : Slot). slot name s no_slots) (is [] no_slots)
  cut_in (slot other (level id inner) no_slots) =
      elim (bytes_eq name other) as (λ b. cut (cond b (slot name (make id inner) no_slots) (slot other (level id inner) (slot name (make [] no_slots) no_slots))) (suc k)
      ≡ cond b (slot name (short id (cut inner k)) no_slots) (slot other (level id (cut inner k)) (slot name (short [] no_slots) no_slots))) [
        | true ↦ ap (λ (s : Slot). slot name s no_slots) (is id inner)
        | false ↦ ap (λ (s : Slot). slot other (level id (cut inner k)) (slot name s no_slots)) (is [] no_slots)
      ]
  cut_in (slot other (shows s) no_slots) = ap (λ (t : Slot). slot other (shows s) (slot name t no_slots)) (is [] no_slots)
  cut_in (slot other (level id inner) (slot b t ss)) = ap (slot other (level id (cut inner k))) (cut_in (slot b t ss))
  cut_in (slot other (shows s) (slot b t ss)) = ap (slot other (shows s)) (cut_in (slot b t ss))

cut_behind : (k : ℕ) (path : Path) (e : Entry) (ss : Slots) → cut (behind path e ss) k ≡ behind_to k path e (cut ss k)
cut_behind zero path e ss = cut_zero (behind path e ss) ∙ sym (cut_zero ss)
cut_behind (suc k) [] e ss = refl
cut_behind (suc k) (name ∷ []) (Shown s) ss = cut_last name (shows s) k ss
cut_behind (suc k) (name ∷ []) (WithId id) ss = cut_in name (λ _ inner. level id inner) (λ _ inner. level id inner) k (λ _ inner. refl) ss
cut_behind (suc k) (name ∷ next ∷ path) e ss =
    cut_in name (λ id inner. level id (behind (next ∷ path) e inner)) (λ id inner. level id (behind_to k (next ∷ path) e inner)) k
    (λ id inner. ap (level id) (cut_behind k (next ∷ path) e inner)) ss

cut_from : (k : ℕ) (es : List (Path × Entry)) (ss : Slots) → cut (fold (λ ss e. behind e.0 e.1 ss) ss es) k ≡ fold (λ ss e. behind_to k e.0 e.1 ss) (cut ss k) es
cut_from k [] ss = refl
cut_from k (e ∷ es) ss =
    cut_from k es (behind e.0 e.1 ss) ∙ ap (λ (s : Slots). fold (λ ss e. behind_to k e.0 e.1 ss) s es) (cut_behind k e.0 e.1 ss)

pub slots_to_is : (k : ℕ) (es : List (Path × Entry)) → slots_to k es ≡ cut (slots_of es) k
slots_to_is k es = sym (cut_from k es no_slots)

-- ---- the first fault

-- both have the same fault, or are the same
record Same (n : ℕ) (xs ys : List Visit) : Type 0 where
  fault : first_fault n xs ≡ first_fault n ys
  whole : first_fault n xs ≡ None → xs ≡ ys

next_none : (a b : Option TypeFault) → or_next a b ≡ None → (a ≡ None) × (b ≡ None)
next_none None b h = (refl, h)
next_none (Some f) b h = absurd (cc)

same_cons : (n : ℕ) (v : Visit) (xs ys : List Visit) → Same (n + 1) xs ys → Same n (v ∷ xs) (v ∷ ys)
same_cons n v xs ys s = record {
  fault = ap (or_next (fault_at n v)) s.fault;
  whole = λ none. ap (λ (zs : List Visit). v ∷ zs) (s.whole (next_none (fault_at n v) (first_fault (n + 1) xs) none).1);
}

same_append : (n : ℕ) (xs ys us vs : List Visit) → Same n xs ys → ((m : ℕ) → Same m us vs) → Same n (xs ++ us) (ys ++ vs)
same_append n xs ys us vs a b = record {
  fault = first_fault-append n xs us ∙ by (first_fault n xs) refl ∙ sym (first_fault-append n ys vs);
  whole = λ none.
      let both = next_none (first_fault n xs) (first_fault (n + length xs) us) (sym (first_fault-append n xs us) ∙ none) in
      λ i. a.whole both.0 i ++ (b (n + length xs)).whole both.1 i;
}
  where
    by : (o : Option TypeFault) → first_fault n xs ≡ o
        → or_next (first_fault n xs) (first_fault (n + length xs) us) ≡ or_next (first_fault n ys) (first_fault (n + length ys) vs)
    by None e =
        (λ i. or_next (a.fault i) (first_fault (n + length (a.whole e i)) us)) ∙ ap (or_next (first_fault n ys)) (b (n + length ys)).fault
    by (Some f) e =
        ap (λ o. or_next o (first_fault (n + length xs) us)) e ∙ sym (ap (λ o. or_next o (first_fault (n + length ys) vs)) (sym a.fault ∙ e))

deep : (n : ℕ) (v : Visit) → ltb 32 v.level ≡ true → fault_at n v ≡ Some TooDeep
deep n v h = ap (λ b. cond b (Some TooDeep) (cond (ltb 4095 n) (Some TooMany) (label_fault v.label))) h

same_deep : (n : ℕ) (v : Visit) (xs ys : List Visit) → ltb 32 v.level ≡ true → Same n (v ∷ xs) (v ∷ ys)
same_deep n v xs ys h = record {
  fault = ap (λ o. or_next o (first_fault (n + 1) xs)) (deep n v h) ∙ sym (ap (λ o. or_next o (first_fault (n + 1) ys)) (deep n v h));
  whole = λ none. absurd (never (sym (ap (λ o. or_next o (first_fault (n + 1) xs)) (deep n v h)) ∙ none));
}
  where
    never : Some TooDeep ≡ None → ⊥
    never e = cc

same_itself : (n : ℕ) (xs : List Visit) → Same n xs xs
same_itself n xs = record { fault = refl; whole = λ _. refl }

mutual
  slot_alike : (t : Slot) (k at n : ℕ) → at + k ≡ 33 → 1 ≤ k → Same n (below at (slot_tree (cut_slot t k))) (below at (slot_tree t))
  slot_alike (shows s) k at n sum some = same_itself n _
  slot_alike (level id ss) k at n sum some = slots_alike ss k (at + 1) n [] (omega (arith, sum)) some

  slots_alike : (ss : Slots) (k at n : ℕ) (before : List (List ℕ)) → at + k ≡ 34 → 1 ≤ k
      → Same n (visits at before (slot_fields (cut ss k))) (visits at before (slot_fields ss))
  slots_alike no_slots k at n before sum some = same_itself n _
  slots_alike (slot name s ss) zero at n before sum some = absurd (omega arith)
  slots_alike (slot name s ss) (suc k) at n before sum some =
      elim (ltb 32 at) as (λ b. ltb 32 at ≡ b → Same n (visits at before (slot_fields (cut (slot name s ss) (suc k)))) (visits at before (slot_fields (slot name s ss)))) [
        | true ↦ λ e. same_deep n _ _ _ e
        | false ↦ λ e.
            let room : 1 ≤ k = grind (arith, nat_tests) in
            same_cons n _ _ _
            (same_append (n + 1) _ _ _ _ (slot_alike s k at (n + 1) (omega (arith, sum)) room) (λ m. slots_alike ss (suc k) at m (before ++ name ∷ []) sum some))
      ] refl

abbrev root : Visit
root = record { level = 1; label = None }

pub cut_fault : (id : List ℕ) (ss : Slots) → type_fault (slot_tree (level id (cut ss 32))) ≡ type_fault (slot_tree (level id ss))
cut_fault id ss = ap (or_next (fault_at 0 root)) (slots_alike ss 32 2 1 [] refl (omega arith)).fault

-- ---- nothing is left out of a type

mutual
  slot_whole : (t : Slot) (k at n : ℕ) → at + k ≡ 33 → 1 ≤ k → first_fault n (below at (slot_tree (cut_slot t k))) ≡ None → cut_slot t k ≡ t
  slot_whole (shows s) k at n sum some none = refl
  slot_whole (level id ss) k at n sum some none = ap (level id) (slots_whole ss k (at + 1) n [] (omega (arith, sum)) some none)

  slots_whole : (ss : Slots) (k at n : ℕ) (before : List (List ℕ)) → at + k ≡ 34 → 1 ≤ k → first_fault n (visits at before (slot_fields (cut ss k))) ≡ None → cut ss k ≡ ss
  slots_whole no_slots k at n before sum some none = refl
  slots_whole (slot name s ss) zero at n before sum some none = absurd (omega arith)
  slots_whole (slot name s ss) (suc k) at n before sum some none =
      let inside = below at (slot_tree (cut_slot s k)) in
      let after = visits at (before ++ name ∷ []) (slot_fields (cut ss (suc k))) in
      let v : Visit = record { level = at; label = Some record { name = name; before = before } } in
      let here = next_none (fault_at n v) (first_fault (n + 1) (inside ++ after)) none in
      let both = next_none (first_fault (n + 1) inside) (first_fault (n + 1 + length inside) after) (sym (first_fault-append (n + 1) inside after) ∙ here.1) in
      elim (ltb 32 at) as (λ b. ltb 32 at ≡ b → slot name (cut_slot s k) (cut ss (suc k)) ≡ slot name s ss) [
        | true ↦ λ e. absurd (never (sym (deep n v e) ∙ here.0))
        | false ↦ λ e.
            let room : 1 ≤ k = grind (arith, nat_tests) in
            λ i. slot name (slot_whole s k at (n + 1) (omega (arith, sum)) room both.0 i) (slots_whole ss (suc k) at (n + 1 + length inside) (before ++ name ∷ []) sum some both.1 i)
      ] refl
    where
      never : Some TooDeep ≡ None → ⊥
      never e = cc

pub nothing_cut : (id : List ℕ) (ss : Slots) → type_fault (slot_tree (level id (cut ss 32))) ≡ None → cut ss 32 ≡ ss
nothing_cut id ss none = slots_whole ss 32 2 1 [] refl (omega arith) (next_none (fault_at 0 root) (first_fault 1 (visits 2 [] (slot_fields (cut ss 32)))) none).1
