-- Members that stand below others.
use Rattle.std.proofs.Common.{◌≡◌, ℕ, ◌+◌, ◌<◌, Bool, true, false, not, ◌&&◌, ◌||◌, cond, eqb, List, ◌∷◌, length, get_or, take, drop, refl, sym, ap, ◌∙◌, arith, add-one}
use Rattle.std.proofs.lemmas.List.{take_more, length-take-le}
use Rattle.std.proofs.Math.Seq.{drop-cons}
use Rattle.std.proofs.lemmas.Map.Text.{is_eq-slice_cmp}
use Rattle.std.proofs.lemmas.Slice.Eq.{bytes_eq-Decides}
use Rattle.std.specs.Borrow.{Bor}
use Rattle.std.specs.BTreeSet.{BTreeSet, contains_by}
use Rattle.std.specs.declared.cmp.Ordering.TheVariants.{Equal}
use Rattle.std.specs.Cmp.{tied_then, nat_cmp_is}
use Rattle.std.specs.Cmp.Lexicographic.{slice_cmp}
use Rattle.std.specs.Ordering.{nat_cmp, ordering_then, is_eq}
use Rattle.std.specs.List.{list_any}
use Rattle.std.specs.Str.{bytes_eq}
use Rattle.group_view.specs.Faults.{holds_members, closed_names, is_among, has_name, is_closed, is_cut, above_from}
use Rattle.group_view.specs.declared.member.Member.{Member}

or_swap : (a b c : Bool) → ((a || b) || c) ≡ (b || (a || c))
or_swap true true c = refl
or_swap true false c = refl
or_swap false b c = refl

pub or_is : (a b : Bool) → cond a true b ≡ (a || b)
or_is true b = refl
or_is false b = refl

-- a key is a name's exactly where the name is the same
pub same_name : (key name : List ℕ) (long : ℕ) → long ≡ length key
    → is_eq (ordering_then (nat_cmp long (length name)) (slice_cmp nat_cmp key name)) ≡ bytes_eq key name
same_name key name long is =
    sym (tied_then (nat_cmp long (length name)) (slice_cmp nat_cmp key name))
    ∙ ap (λ b. is_eq (nat_cmp long (length name)) && b) (is_eq-slice_cmp key name)
    ∙ by (bytes_eq key name) refl
  where
    none : (b : Bool) → (b && false) ≡ false
    none true = refl
    none false = refl

    by : (b : Bool) → bytes_eq key name ≡ b → (is_eq (nat_cmp long (length name)) && bytes_eq key name) ≡ bytes_eq key name
    by true e =
        let alike : long ≡ length name = is ∙ ap length ((bytes_eq-Decides key name).0 e) in
        ap (λ o. is_eq o && bytes_eq key name) (sym (nat_cmp_is long (length name) Equal alike))
    by false e = ap (λ b. is_eq (nat_cmp long (length name)) && b) e ∙ none (is_eq (nat_cmp long (length name))) ∙ sym e

-- what stands before a place is as long as the place
pub known_before : (set : BTreeSet (ℕ × Bor (List ℕ))) (name : List ℕ) (place : ℕ) → place < length name
    → contains_by (λ k. ordering_then (nat_cmp place k.0) (slice_cmp nat_cmp (take place name) k.1.now)) set ≡ has_name set (take place name)
known_before set name place within =
    let long : place ≡ length (take place name) = sym (length-take-le place name (omega (arith, within))) in
    ap (λ (n : ℕ). contains_by (λ k. ordering_then (nat_cmp n k.0) (slice_cmp nat_cmp (take place name) k.1.now)) set) long

pub cut_is : (names : List (List ℕ)) (name : List ℕ) (i byte : ℕ) (found : Bool) → byte ≡ get_or name i 0 → eqb byte 46 ≡ true
    → found ≡ is_among names (take i name) → found ≡ is_cut names name i
cut_is names name i byte found at dot is = is ∙ ap (λ b. b && is_among names (take i name)) (sym (ap (λ n. eqb n 46) (sym at) ∙ dot))

pub cut_none : (names : List (List ℕ)) (name : List ℕ) (i byte : ℕ) → byte ≡ get_or name i 0 → eqb byte 46 ≡ false → false ≡ is_cut names name i
cut_none names name i byte at dot = ap (λ b. b && is_among names (take i name)) (sym (ap (λ n. eqb n 46) (sym at) ∙ dot))

closed_step : (m : Member) (ms : List Member) (name : List ℕ) → is_among (closed_names (m ∷ ms)) name ≡ (is_closed m name || is_among (closed_names ms) name)
closed_step m ms name =
    elim (holds_members m.def.kind) as (λ b. is_among (cond b (closed_names ms) (m.def.name ∷ closed_names ms)) name ≡ ((not b && bytes_eq m.def.name name) || is_among (closed_names ms) name)) [
      | true ↦ refl
      | false ↦ refl
    ]

pub closed_more : (ms : List Member) (i : ℕ) (m : Member) (name : List ℕ) (before after whole : Bool) → i < length ms → get_or ms i m ≡ m
    → after ≡ (is_closed m name || before) → (before || is_among (closed_names (drop i ms)) name) ≡ whole
    → (after || is_among (closed_names (drop (i + 1) ms)) name) ≡ whole
closed_more ms i m name before after whole within here is so_far =
    let rest = is_among (closed_names (drop (i + 1) ms)) name in
    let step : drop i ms ≡ m ∷ drop (i + 1) ms = rw (drop-cons ms i m within, add-one, here) refl in
    ap (λ b. b || rest) is ∙ or_swap (is_closed m name) before rest
    ∙ ap (λ b. before || b) (sym (ap (λ (xs : List Member). is_among (closed_names xs) name) step ∙ closed_step m (drop (i + 1) ms) name))
    ∙ so_far

above_at : (name : List ℕ) (i : ℕ) → i < length name → above_from (take i name) (drop i name)
    ≡ cond (eqb (get_or name i 0) 46) (take i name ∷ above_from (take (i + 1) name) (drop (i + 1) name)) (above_from (take (i + 1) name) (drop (i + 1) name))
above_at name i within =
    let b = get_or name i 0 in
    let step : drop i name ≡ b ∷ drop (i + 1) name = rw (drop-cons name i 0 within, add-one) refl in
    ap (above_from (take i name)) step
    ∙ ap (λ (front : List ℕ). cond (eqb b 46) (take i name ∷ above_from front (drop (i + 1) name)) (above_from front (drop (i + 1) name))) (sym (take_more name i 0 within))

module _ (names : List (List ℕ)) (name : List ℕ) (i : ℕ) (whole : Bool) (within : i < length name) where
  split : list_any (is_among names) (above_from (take i name) (drop i name))
      ≡ (is_cut names name i || list_any (is_among names) (above_from (take (i + 1) name) (drop (i + 1) name)))
  split =
      ap (list_any (is_among names)) (above_at name i within)
      ∙ (elim (eqb (get_or name i 0) 46) as (λ b. list_any (is_among names) (cond b (take i name ∷ above_from (take (i + 1) name) (drop (i + 1) name)) (above_from (take (i + 1) name) (drop (i + 1) name)))
      ≡ ((b && is_among names (take i name)) || list_any (is_among names) (above_from (take (i + 1) name) (drop (i + 1) name)))) [ true ↦ refl | false ↦ refl ])

  pub cut_here : is_cut names name i ≡ true → list_any (is_among names) (above_from (take i name) (drop i name)) ≡ whole → true ≡ whole
  cut_here here so_far = sym (split ∙ ap (λ b. b || list_any (is_among names) (above_from (take (i + 1) name) (drop (i + 1) name))) here) ∙ so_far

  pub cut_later : is_cut names name i ≡ false → list_any (is_among names) (above_from (take i name) (drop i name)) ≡ whole
      → list_any (is_among names) (above_from (take (i + 1) name) (drop (i + 1) name)) ≡ whole
  cut_later here so_far = sym (split ∙ ap (λ b. b || list_any (is_among names) (above_from (take (i + 1) name) (drop (i + 1) name))) here) ∙ so_far
