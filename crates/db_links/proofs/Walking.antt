-- Walks along live links, one record after another.
use Rattle.std.proofs.Common.{◌≡◌, ℕ, ◌+◌, ◌-◌, ◌*◌, ◌<◌, ◌≤◌, Bool, true, false, not, ◌&&◌, ◌||◌, eqb, Option, None, Some, List, [], ◌∷◌, ◌++◌, length, refl, sym, ap, ◌∙◌, subst, arith, inl, inr, ◌⊎◌, zero, suc, nat_cmp, nat_eq}
use Rattle.std.proofs.lemmas.Bool.{true≢false, ltb-true}
use Rattle.std.proofs.lemmas.Bool.Decides.{eqb_tells}
use Rattle.std.proofs.lemmas.List.Folds.{list_any-append}
use Rattle.std.proofs.lemmas.Map.Views.{length-le_from_below}
use Rattle.std.proofs.lemmas.Option.{slice_get_within}
use Rattle.std.proofs.lemmas.List.Elements.{All-cons}
use Rattle.std.specs.Option.{unwrap_or}
use Rattle.std.specs.BTreeSet.{BTreeSet, btree_set_len}
use Rattle.std.specs.BTreeMap.{is_at}
use Rattle.std.specs.List.{All, list_any, list_all, slice_get}
use Rattle.std.specs.List.Sorted.{IsStrictlySortedBy}
use Rattle.pvd_type.proofs.Sets.{by_cmp}
use Rattle.db_links.specs.Live.{names, any_names, leads, is_inside, all_inside, are_inside}
use Rattle.db_links.specs.Reaching.{Reached, itself, further, IsReach, is_among}
use Rattle.db_links.specs.Walks.{has, Grows, IsWalk}
use Rattle.db_links.specs.declared.link.Link.{Link}
use Rattle.db_links.specs.declared.link.RecordLinks.{RecordLinks}

-- ---- what is so of flags

or_true : (b : Bool) → (b || true) ≡ true
or_true true = refl
or_true false = refl

pub split_or : (a b : Bool) → (a || b) ≡ true → (a ≡ true) ⊎ (b ≡ true)
split_or true b e = inl refl
split_or false b e = inr e

pub left_or : (a b : Bool) → a ≡ true → (a || b) ≡ true
left_or a b e = ap (λ c. c || b) e

pub right_or : (a b : Bool) → b ≡ true → (a || b) ≡ true
right_or a b e = ap (λ c. a || c) e ∙ or_true a

pub both : (a b : Bool) → (a && b) ≡ true → (a ≡ true) × (b ≡ true)
both true b e = (refl, e)
both false b e = absurd (true≢false (sym e))

pub flipped : (a b : ℕ) → eqb a b ≡ eqb b a
flipped a b = elim (eqb_tells a b) [
  | inl p ↦ ap (λ (x : ℕ). eqb x b) p.1 ∙ ap (λ (x : ℕ). eqb b x) (sym p.1)
  | inr p ↦ elim (eqb_tells b a) [ inl q ↦ absurd (p.1 (sym q.1)) | inr q ↦ p.0 ∙ sym q.0 ]
]

pub same_is : (a : ℕ) → eqb a a ≡ true
same_is a = elim (eqb_tells a a) [ inl p ↦ p.0 | inr p ↦ absurd (p.1 refl) ]

pub equal : (a b : ℕ) → eqb a b ≡ true → a ≡ b
equal a b e = elim (eqb_tells a b) [ inl p ↦ p.1 | inr p ↦ absurd (true≢false (sym e ∙ p.0)) ]

-- ---- a set by its keys

pub among_keys : (q : ℕ) (ks : List ℕ) → is_among q ks ≡ list_any (is_at (nat_cmp q)) ks
among_keys q [] = refl
among_keys q (k ∷ ks) = ap (λ b. b || is_among q ks) (sym (by_cmp q k)) ∙ ap (λ b. is_at (nat_cmp q) k || b) (among_keys q ks)

-- ---- links stay inside

some_inj : {X : Type 0} {x y : X} → Some x ≡ Some y → x ≡ y
some_inj {X} {x} {y} e = ap (λ o. unwrap_or o x) e

named_inside : (count : ℕ) (link : Option Link) (q : ℕ) → is_inside count link ≡ true → names link q ≡ true → q < count
named_inside count None q i e = absurd (true≢false (sym e))
named_inside count (Some l) q i e = subst (λ (x : ℕ). x < count) (equal l.target q e) (ltb-true l.target count i)

any_inside : (count : ℕ) (l : Option RecordLinks) (q : ℕ) → ((r : RecordLinks) → l ≡ Some r → all_inside count r ≡ true) → any_names l q ≡ true → q < count
any_inside count None q i e = absurd (true≢false (sym e))
any_inside count (Some l) q i e =
    let p = both (is_inside count l.inp && is_inside count l.out) (is_inside count l.flnk) (i l refl) in
    let r = both (is_inside count l.inp) (is_inside count l.out) p.0 in
    elim (split_or (names l.inp q || names l.out q) (names l.flnk q) e) [
      | inl y ↦ elim (split_or (names l.inp q) (names l.out q) y) [
        | inl x ↦ named_inside count l.inp q r.0 x
        | inr x ↦ named_inside count l.out q r.1 x
      ]
      | inr x ↦ named_inside count l.flnk q p.1 x
    ]

pub each_inside : (count : ℕ) (ls : List RecordLinks) (a : ℕ) (r : RecordLinks) → list_all (all_inside count) ls ≡ true → slice_get ls a ≡ Some r → all_inside count r ≡ true
each_inside count [] a r all e = let within : a < 0 = slice_get_within [] a r e in absurd (omega arith)
each_inside count (l ∷ ls) zero r all e = ap (all_inside count) (sym (some_inj e)) ∙ (both (all_inside count l) (list_all (all_inside count) ls) all).0
each_inside count (l ∷ ls) (suc a) r all e = each_inside count ls a r (both (all_inside count l) (list_all (all_inside count) ls) all).1 e

pub leads_inside : (links : List RecordLinks) (a b : ℕ) → are_inside links ≡ true → leads links a b ≡ true → b < length links
leads_inside links a b inside e = any_inside (length links) (slice_get links a) b (λ r is. each_inside (length links) links a r inside is) e

-- ---- the walk

pub walk_goes_on : (links : List RecordLinks) (from next : ℕ) (s t : BTreeSet ℕ) (left more : List ℕ) → are_inside links ≡ true
    → IsWalk links from s (left ++ next ∷ []) → Grows (any_names (slice_get links next)) s left t more → IsWalk links from t more
walk_goes_on links from next s t left more inside walk grows = record {
  ordered = grows.ordered walk.ordered;
  start = grows.reached from ∙ right_or (leads links next from) (has s from) walk.start;
  only = λ q h. elim (split_or (leads links next q) (has s q) (sym (grows.reached q) ∙ h)) [
    | inl e ↦ further next q (walk.only next next_has) e
    | inr e ↦ walk.only q e
  ];
  inside = λ q h. elim (split_or (leads links next q) (has s q) (sym (grows.reached q) ∙ h)) [
    | inl e ↦ leads_inside links next q inside e
    | inr e ↦ walk.inside q e
  ];
  among = λ q h. grows.reached q ∙ elim (split_or (is_among q left) (leads links next q && not (has s q)) (sym (grows.rest q) ∙ h)) [
    | inl e ↦ right_or (leads links next q) (has s q) (walk.among q (appended q ∙ left_or (is_among q left) _ e))
    | inr e ↦ left_or (leads links next q) (has s q) (both (leads links next q) (not (has s q)) e).0
  ];
  closed = λ a b h out e. closes a b (has s a) refl h out e;
}
  where
    appended : (q : ℕ) → is_among q (left ++ next ∷ []) ≡ (is_among q left || is_among q (next ∷ []))
    appended q = list_any-append (nat_eq q) left (next ∷ [])

    next_has : has s next ≡ true
    next_has = walk.among next (appended next ∙ right_or (is_among next left) _ (left_or (eqb next next) false (same_is next)))

    not_left : (a : ℕ) → is_among a more ≡ false → is_among a left ≡ false
    not_left a out = elim (is_among a left) as (λ x. is_among a left ≡ x → is_among a left ≡ false) [
      | true ↦ λ e. absurd (true≢false (sym (grows.rest a ∙ left_or (is_among a left) _ e) ∙ out))
      | false ↦ λ e. e
    ] refl

    closes : (a b : ℕ) (was : Bool) → has s a ≡ was → has t a ≡ true → is_among a more ≡ false → leads links a b ≡ true → has t b ≡ true
    closes a b false was h out e =
        let led : leads links next a ≡ true = elim (split_or (leads links next a) (has s a) (sym (grows.reached a) ∙ h)) [ inl x ↦ x | inr x ↦ absurd (true≢false (sym x ∙ was)) ] in
        absurd (true≢false (sym (grows.rest a ∙ right_or (is_among a left) _ (rw (led, was) refl)) ∙ out))
    closes a b true was h out e = elim (eqb_tells a next) [
      | inl p ↦ grows.reached b ∙ left_or (leads links next b) (has s b) (ap (λ x. leads links x b) (sym p.1) ∙ e)
      | inr p ↦ grows.reached b ∙ right_or (leads links next b) (has s b) (walk.closed a b was (appended a ∙ rw (not_left a out, p.0) refl) e)
    ]

pub walk_begins : (links : List RecordLinks) (rec : ℕ) (old new : BTreeSet ℕ) (left more : List ℕ) → rec < length links → old.keys ≡ [] → left ≡ [] → Grows (λ q. eqb q rec) old left new more → IsWalk links rec new more
unfolding IsStrictlySortedBy
walk_begins links rec old new left more within empty clear grows = record {
  ordered = grows.ordered (subst (IsStrictlySortedBy nat_cmp) (sym empty) tt);
  start = grows.reached rec ∙ left_or (eqb rec rec) (has old rec) (same_is rec);
  only = λ q h. subst (λ x. Reached links rec x) (sym (it q h)) itself;
  inside = λ q h. subst (λ (x : ℕ). x < length links) (sym (it q h)) within;
  among = λ q h. grows.reached q ∙ left_or (eqb q rec) (has old q) (both (eqb q rec) (not (has old q)) (ap (λ l. is_among q l || (eqb q rec && not (has old q))) (sym clear) ∙ sym (grows.rest q) ∙ h)).0;
  closed = λ a b h out e. absurd (true≢false (sym (grows.rest a ∙ rw (clear, here a h, none a) refl) ∙ out));
}
  where
    none : (q : ℕ) → has old q ≡ false
    none q = ap (list_any (is_at (nat_cmp q))) empty

    here : (q : ℕ) → has new q ≡ true → eqb q rec ≡ true
    here q h = elim (split_or (eqb q rec) (has old q) (sym (grows.reached q) ∙ h)) [ inl x ↦ x | inr x ↦ absurd (true≢false (sym x ∙ none q)) ]

    it : (q : ℕ) → has new q ≡ true → q ≡ rec
    it q h = equal q rec (here q h)

all_reached : (links : List RecordLinks) (from : ℕ) (s : BTreeSet ℕ) (q : ℕ) → IsWalk links from s [] → Reached links from q → has s q ≡ true
all_reached links from s q walk itself = walk.start
all_reached links from s q walk (further a b reached led) = walk.closed a b (all_reached links from s a walk reached) refl led

pub walk_ends : (links : List RecordLinks) (from : ℕ) (s : BTreeSet ℕ) (left : List ℕ) → left ≡ [] → IsWalk links from s left → IsReach links from s.keys
walk_ends links from s left none walk =
    let ended : IsWalk links from s [] = subst (IsWalk links from s) none walk in record {
      rising = walk.ordered;
      only = λ q h. walk.only q (sym (among_keys q s.keys) ∙ h);
      all = λ q r. among_keys q s.keys ∙ all_reached links from s q ended r;
    }

-- ---- how many are left

abbrev IsIn : ℕ → List ℕ → Type 0
IsIn n ks = (q : ℕ) → list_any (is_at (nat_cmp q)) ks ≡ true → q < n

pub few_keys : (n : ℕ) (s : BTreeSet ℕ) → IsStrictlySortedBy nat_cmp s.keys → ((q : ℕ) → has s q ≡ true → q < n) → btree_set_len s ≤ n
few_keys n s ordered inside = length-le_from_below n s.keys ordered (all_of s.keys inside)
  where
    all_of : (ks : List ℕ) → IsIn n ks → All (λ x. x < n) ks
    all_of [] inside = λ k d within. absurd (omega arith)
    all_of (k ∷ ks) inside = All-cons (λ x. x < n) k ks (inside k (left_or (is_at (nat_cmp k) k) _ (by_cmp k k ∙ same_is k))) (all_of ks (λ q h. inside q (right_or (is_at (nat_cmp q) k) _ h)))

pub smaller : (n r t l m : ℕ) → r + l ≡ t + m → t ≤ r → t ≤ n → r ≤ n → 2 * (n - r) + m < 2 * (n - t) + (l + 1)
smaller n r t l m e g a b = omega arith
