-- Lists of entries in the rising order of their keys: where a key stands, and what an entry that comes or goes leaves.
use Rattle.std.specs.Prelude.{◌≡◌, ◌≢◌, ℕ, suc, zero, ◌+◌, ◌<◌, ◌≤◌, Bool, true, false, cond, not, ◌&&◌, T, List, [], ◌∷◌, length, Option, None, Some, is_some, slice_get, slice_index_or, refl}
use Rattle.std.proofs.Common.{sym, ap, subst, ◌∙◌, inl, inr, arith}
use Rattle.std.specs.Bool.{OnTrue}
use Rattle.std.specs.declared.cmp.Ordering.{Ordering}
use Rattle.std.specs.declared.cmp.Ordering.TheVariants.{Less, Equal, Greater}
use Rattle.std.specs.Ordering.{is_lt, is_eq, eq_by_cmp, ordering_reverse}
use Rattle.std.specs.Cmp.{IsTotalOrder, tied_itself, alike_right, eq_by_cmp_equiv}
use Rattle.std.specs.List.{prefix_len, insert, remove}
use Rattle.std.specs.FinMap.{find, put, is_sorted}
use Rattle.std.specs.FinMap.Entries.{below_all, where_key, by_order, is_sorted-put, is_sorted-where_key, find-put, find-where_key, find_tied}
use Rattle.std.specs.List.Sorted.{IsPartitionedBy, IsPartitionPoint}
use Rattle.std.proofs.lemmas.List.Sums.{prefix_len_is}
use Rattle.std.proofs.lemmas.Option.{slice_get_past}
use Rattle.std.proofs.lemmas.Bool.{cases_lt, false≢true}
use Rattle.chan_table.specs.Index.{place, IsFirstFrom}

pub first_of : (a b : Bool) → T (a && b) → T a
first_of true b p = tt
first_of false b p = absurd p

pub second_of : (a b : Bool) → T (a && b) → T b
second_of true b p = p
second_of false b p = absurd p

less : (o : Ordering) → T (is_lt o) → o ≡ Less
less Less p = refl
less Equal p = absurd p
less Greater p = absurd p

equal : (o : Ordering) → T (is_eq o) → o ≡ Equal
equal Less p = absurd p
equal Equal p = refl
equal Greater p = absurd p

truth : (b : Bool) → T b → b ≡ true
truth true p = refl
truth false p = absurd p

turned : {A : Type 0} (b : Bool) (x y : A) → cond (not b) x y ≡ cond b y x
turned true x y = refl
turned false x y = refl

some_is_not : {A : Type 0} (x : A) → Some x ≢ None
some_is_not x e = subst T (ap is_some e) tt

-- the place is one further behind an entry that is below, and else the first
next_place : {A : Type 0} (f : ℕ → A) (n : ℕ) (r : Ordering) → r ≡ Less → f (suc n) ≡ f (cond (is_lt r) (1 + n) 0)
next_place f n r e =
    let one : suc n ≡ 1 + n = omega arith in
    ap f one ∙ ap (λ s. f (cond (is_lt s) (1 + n) 0)) (sym e)

first_place : {A : Type 0} (f : ℕ → A) (n : ℕ) (r : Ordering) → is_lt r ≡ false → f 0 ≡ f (cond (is_lt r) (1 + n) 0)
first_place f n r e = ap (λ b. f (cond b (1 + n) 0)) (sym e)

-- what the comparison the other way round answers
back : {K : Type 0} {R : K → K → Ordering} (o : IsTotalOrder R) (k x : K) (r : Ordering) → R k x ≡ r → R x k ≡ ordering_reverse r
back o k x r p = o.antisymm x k ∙ ap ordering_reverse p

module _ {K V : Type 0} (R : K → K → Ordering) where
  -- what a look-up finds at the key's place
  abbrev pub at_place : K → Option (K × V) → Option V
  at_place k None = None
  at_place k (Some e) = cond (is_eq (R k e.0)) (Some e.1) None

  -- without the key, its place is where an entry for it is put
  pub put-place : (k : K) (v : V) (es : List (K × V)) → (o : IsTotalOrder R) → find R k es ≡ None → put R k v es ≡ insert es (place R k es) (k, v)
  put-place k v [] o none = refl
  put-place k v (e ∷ es) o none =
      elim (R k e.0) as (λ r. R k e.0 ≡ r → cond (is_eq r) (Some e.1) (find R k es) ≡ None → by_order r ((k, v) ∷ e ∷ es) ((e.0, v) ∷ es) (e ∷ put R k v es) ≡ insert (e ∷ es) (cond (is_lt (R e.0 k)) (1 + place R k es) 0) (k, v)) [
        | Less ↦ λ p is. first_place (λ n. insert (e ∷ es) n (k, v)) (place R k es) (R e.0 k) (ap is_lt (back o k e.0 Less p))
        | Equal ↦ λ p is. absurd (some_is_not e.1 is)
        | Greater ↦ λ p is. ap (λ es'. e ∷ es') (put-place k v es o is) ∙ next_place (λ n. insert (e ∷ es) n (k, v)) (place R k es) (R e.0 k) (back o k e.0 Greater p)
      ] refl none

  module _ (o : IsTotalOrder R) where
    -- what is below all is not found
    below_trans : (x y : K) (es : List (K × V)) → R x y ≡ Less → T (below_all R y es) → T (below_all R x es)
    below_trans x y [] p h = tt
    below_trans x y (e ∷ es) p h =
        let here : R x e.0 ≡ Less = o.trans x y e.0 p (less _ (first_of _ _ h)) in
        subst (λ r. T (is_lt r && below_all R x es)) (sym here) (below_trans x y es p (second_of _ _ h))

    below_tied : (x y : K) (es : List (K × V)) → R x y ≡ Equal → T (below_all R y es) → T (below_all R x es)
    below_tied x y [] p h = tt
    below_tied x y (e ∷ es) p h =
        let here : R x e.0 ≡ Less = o.congr x y e.0 p ∙ less _ (first_of _ _ h) in
        subst (λ r. T (is_lt r && below_all R x es)) (sym here) (below_tied x y es p (second_of _ _ h))

    pub find-below : (q : K) (es : List (K × V)) → T (below_all R q es) → find R q es ≡ None
    find-below q [] h = refl
    find-below q (e ∷ es) h =
        ap (λ r. cond (is_eq r) (Some e.1) (find R q es)) (less _ (first_of _ _ h)) ∙ find-below q es (second_of _ _ h)

    pub find-place : (k : K) (es : List (K × V)) → T (is_sorted R es) → find R k es ≡ at_place k (slice_get es (place R k es))
    find-place k [] h = refl
    find-place k (e ∷ es) h =
        elim (R k e.0) as (λ r. R k e.0 ≡ r → cond (is_eq r) (Some e.1) (find R k es) ≡ at_place k (slice_get (e ∷ es) (cond (is_lt (R e.0 k)) (1 + place R k es) 0))) [
          | Less ↦ λ p. find-below k es (below_trans k e.0 es p (first_of _ _ h))
              ∙ ap (λ r. cond (is_eq r) (Some e.1) None) (sym p)
              ∙ first_place (λ n. at_place k (slice_get (e ∷ es) n)) (place R k es) (R e.0 k) (ap is_lt (back o k e.0 Less p))
          | Equal ↦ λ p. ap (λ r. cond (is_eq r) (Some e.1) None) (sym p)
              ∙ first_place (λ n. at_place k (slice_get (e ∷ es) n)) (place R k es) (R e.0 k) (ap is_lt (back o k e.0 Equal p))
          | Greater ↦ λ p. find-place k es (second_of _ _ h)
              ∙ next_place (λ n. at_place k (slice_get (e ∷ es) n)) (place R k es) (R e.0 k) (back o k e.0 Greater p)
        ] refl

    -- what stands at its place says whether a key is there
    pub find-read : (k : K) (i : ℕ) (es : List (K × V)) (r : Option (K × V)) → is_sorted R es ≡ true → i ≡ place R k es → r ≡ slice_get es i → find R k es ≡ at_place k r
    find-read k i es r h at is = find-place k es (subst T (sym h) tt) ∙ ap (at_place k) (ap (slice_get es) (sym at) ∙ sym is)

    some_same : {x y : K × V} → Some x ≡ Some y → x ≡ y
    some_same e = cc

    below_got : (x : K) (i : ℕ) (e : K × V) (es : List (K × V)) → T (below_all R x es) → Some e ≡ slice_get es i → R x e.0 ≡ Less
    below_got x i e [] h at = absurd (some_is_not e at)
    below_got x zero e (f ∷ fs) h at = ap (λ (y : K × V). R x y.0) (some_same at) ∙ less _ (first_of _ _ h)
    below_got x (suc i) e (f ∷ fs) h at = below_got x i e fs (second_of _ _ h) at

    -- a key's place is where its entry stands
    pub place-at : (k : K) (i : ℕ) (e : K × V) (es : List (K × V)) → T (is_sorted R es) → Some e ≡ slice_get es i → R k e.0 ≡ Equal → i ≡ place R k es
    place-at k i e [] h at is = absurd (some_is_not e at)
    place-at k zero e (f ∷ fs) h at is =
        let tied : R k f.0 ≡ Equal = ap (λ (y : K × V). R k y.0) (sym (some_same at)) ∙ is in
        first_place (λ n. n) (place R k fs) (R f.0 k) (ap is_lt (back o k f.0 Equal tied))
    place-at k (suc i) e (f ∷ fs) h at is =
        let rises : R f.0 e.0 ≡ Less = below_got f.0 i e fs (first_of _ _ h) at in
        let under : R f.0 k ≡ Less = back o k f.0 Greater (o.congr k e.0 f.0 is ∙ back o f.0 e.0 Less rises) in
        ap suc (place-at k i e fs (second_of _ _ h) at is) ∙ next_place (λ n. n) (place R k fs) (R f.0 k) under

    -- the same by what a test of the entry says
    pub place-read : (k : K) (i : ℕ) (e : K × V) (es : List (K × V)) → is_sorted R es ≡ true → Some e ≡ slice_get es i → (b : Bool) → b ≡ is_eq (R k e.0) → OnTrue b (i ≡ place R k es)
    place-read k i e es h at true is = place-at k i e es (subst T (sym h) tt) at (equal (R k e.0) (subst T is tt))
    place-read k i e es h at false is = tt

    -- a key that is there has its place among the entries
    pub place-within : (k : K) (v : V) (i : ℕ) (es : List (K × V)) → is_sorted R es ≡ true → i ≡ place R k es → find R k es ≡ Some v → i < length es
    place-within k v i es h at is =
        elim (cases_lt i (length es)) [
          | inl lt ↦ lt
          | inr ge ↦ absurd (some_is_not v (sym is ∙ find-read k i es None h at (sym (slice_get_past es i ge))))
        ]

    -- all others stay where none of them has the key
    where-below : (k : K) (es : List (K × V)) → T (below_all R k es) → where_key R (λ x. not (eq_by_cmp R k x)) es ≡ es
    where-below k [] h = refl
    where-below k (e ∷ es) h =
        ap (λ r. cond (not (is_eq r)) (e ∷ where_key R (λ x. not (eq_by_cmp R k x)) es) (where_key R (λ x. not (eq_by_cmp R k x)) es)) (less _ (first_of _ _ h))
        ∙ ap (λ es'. e ∷ es') (where-below k es (second_of _ _ h))

    -- with the key, its place is where its entry is taken out
    pub where-place : (k : K) (v : V) (es : List (K × V)) → T (is_sorted R es) → find R k es ≡ Some v → where_key R (λ x. not (eq_by_cmp R k x)) es ≡ remove es (place R k es)
    where-place k v [] h is = refl
    where-place k v (e ∷ es) h is =
        let left : List (K × V) = where_key R (λ x. not (eq_by_cmp R k x)) es in
        elim (R k e.0) as (λ r. R k e.0 ≡ r → cond (is_eq r) (Some e.1) (find R k es) ≡ Some v → cond (not (is_eq r)) (e ∷ left) left ≡ remove (e ∷ es) (cond (is_lt (R e.0 k)) (1 + place R k es) 0)) [
          | Less ↦ λ p f. absurd (some_is_not v (sym f ∙ find-below k es (below_trans k e.0 es p (first_of _ _ h))))
          | Equal ↦ λ p f. where-below k es (below_tied k e.0 es p (first_of _ _ h))
              ∙ first_place (λ n. remove (e ∷ es) n) (place R k es) (R e.0 k) (ap is_lt (back o k e.0 Equal p))
          | Greater ↦ λ p f. ap (λ es'. e ∷ es') (where-place k v es (second_of _ _ h) f)
              ∙ next_place (λ n. remove (e ∷ es) n) (place R k es) (R e.0 k) (back o k e.0 Greater p)
        ] refl is

    -- the key at a place is below the key at a later one
    pub key_rises : (es : List (K × V)) (i j : ℕ) (d : K × V) → T (is_sorted R es) → i < j → j < length es → R (slice_index_or es i d).0 (slice_index_or es j d).0 ≡ Less
    key_rises [] i j d h lt in_ = absurd (omega arith)
    key_rises (e ∷ es) i zero d h lt in_ = absurd (omega arith)
    key_rises (e ∷ es) zero (suc j) d h lt in_ = below_at es j (first_of _ _ h) (omega arith)
      where
        below_at : (fs : List (K × V)) (j : ℕ) → T (below_all R e.0 fs) → j < length fs → R e.0 (slice_index_or fs j d).0 ≡ Less
        below_at [] j g in' = absurd (omega arith)
        below_at (f ∷ fs) zero g in' = less _ (first_of _ _ g)
        below_at (f ∷ fs) (suc j) g in' = below_at fs j (second_of _ _ g) (omega arith)
    key_rises (e ∷ es) (suc i) (suc j) d h lt in_ = key_rises es i j d (second_of _ _ h) (omega arith) (omega arith)

    -- an entry that stands there is found
    pub find-at : (es : List (K × V)) (i : ℕ) (d : K × V) → T (is_sorted R es) → i < length es → find R (slice_index_or es i d).0 es ≡ Some (slice_index_or es i d).1
    find-at [] i d h in_ = absurd (omega arith)
    find-at (e ∷ es) zero d h in_ = ap (λ r. cond (is_eq r) (Some e.1) (find R e.0 es)) (tied_itself o e.0)
    find-at (e ∷ es) (suc i) d h in_ =
        let x : K = (slice_index_or es i d).0 in
        let rises : R e.0 x ≡ Less = key_rises (e ∷ es) 0 (suc i) d h (omega arith) in_ in
        ap (λ r. cond (is_eq r) (Some e.1) (find R x es)) (back o e.0 x Less rises) ∙ find-at es i d (second_of _ _ h) (omega arith)

    -- the entries whose keys are below k stand at the front
    pub are_partitioned : (es : List (K × V)) (k : K) → T (is_sorted R es) → IsPartitionedBy (λ e. is_lt (R e.0 k)) es
    are_partitioned es k h i j d le in_ is =
        let x : K = (slice_index_or es i d).0 in
        let y : K = (slice_index_or es j d).0 in
        elim (cases_lt i j) [
          | inl lt ↦ ap is_lt (o.trans x y k (key_rises es i j d h lt in_) (less (R y k) (subst T (sym is) tt)))
          | inr ge ↦ let same : j ≡ i = omega arith in subst (λ n. is_lt (R (slice_index_or es n d).0 k) ≡ true) same is
        ]

    -- an entry below the bound changes nothing that is found from there on
    find_past : (e : K × V) (es : List (K × V)) (k from : K) → R e.0 from ≡ Less → is_lt (R k from) ≡ false → find R k (e ∷ es) ≡ find R k es
    find_past e es k from p above =
        elim (R k e.0) as (λ r. R k e.0 ≡ r → cond (is_eq r) (Some e.1) (find R k es) ≡ find R k es) [
          | Less ↦ λ q. refl
          | Equal ↦ λ q. absurd (false≢true (sym above ∙ ap is_lt (o.congr k e.0 from q ∙ p)))
          | Greater ↦ λ q. refl
        ] refl

    past : (e : K × V) (es : List (K × V)) (from : K) (r : Option (K × V)) → R e.0 from ≡ Less → IsFirstFrom R es from r → IsFirstFrom R (e ∷ es) from r
    past e es from None p h = record { none = λ k above. find_past e es k from p above ∙ h.none k above }
    past e es from (Some f) p h = record {
      found = find_past e es f.0 from p h.above ∙ h.found;
      above = h.above;
      least = λ k above below. find_past e es k from p above ∙ h.least k above below;
    }

    pub first-place : (es : List (K × V)) (from : K) → T (is_sorted R es) → IsFirstFrom R es from (slice_get es (place R from es))
    first-place [] from h = record { none = λ k above. refl }
    first-place (e ∷ es) from h =
        elim (is_lt (R e.0 from)) as (λ b. is_lt (R e.0 from) ≡ b → IsFirstFrom R (e ∷ es) from (slice_get (e ∷ es) (cond b (1 + place R from es) 0))) [
          | true ↦ λ p.
              let one : suc (place R from es) ≡ 1 + place R from es = omega arith in
              subst (λ n. IsFirstFrom R (e ∷ es) from (slice_get (e ∷ es) n)) one
              (past e es from _ (less _ (subst T (sym p) tt)) (first-place es from (second_of _ _ h)))
          | false ↦ λ p. record {
            found = ap (λ r. cond (is_eq r) (Some e.1) (find R e.0 es)) (tied_itself o e.0);
            above = p;
            least = λ k above below.
                let under : R k e.0 ≡ Less = less _ (subst T (sym below) tt) in
                ap (λ r. cond (is_eq r) (Some e.1) (find R k es)) under ∙ find-below k es (below_trans k e.0 es under (first_of _ _ h));
          }
        ] refl

-- where a test that holds at the front alone stops is how many pass it
pub point-prefix_len : {X : Type 0} (p : X → Bool) (xs : List X) (i : ℕ) → i ≤ length xs → IsPartitionPoint (λ y. p y ≡ true) (λ y. p y ≡ false) xs i → i ≡ prefix_len p xs
point-prefix_len p [] i le h = omega arith
point-prefix_len p (x ∷ xs) i le h =
    sym (prefix_len_is p (x ∷ xs) i x le (λ k lt. h.0 k x (omega arith) lt) (λ lt. h.1 i x (omega arith) lt))

-- what a put and a removal at the key's place leave
module _ {K V : Type 0} {R : K → K → Ordering} (o : IsTotalOrder R) where
  pub sorted-inserted : (k : K) (v : V) (i : ℕ) (es new : List (K × V)) → is_sorted R es ≡ true → find R k es ≡ None → i ≡ place R k es → new ≡ insert es i (k, v) → is_sorted R new ≡ true
  sorted-inserted k v i es new h none at is =
      let all : new ≡ put R k v es = is ∙ ap (λ n. insert es n (k, v)) at ∙ sym (put-place R k v es o none) in
      ap (is_sorted R) all ∙ truth _ (is_sorted-put R o k v es (subst T (sym h) tt))

  pub find-inserted : (k : K) (v : V) (i : ℕ) (es new : List (K × V)) → find R k es ≡ None → i ≡ place R k es → new ≡ insert es i (k, v) → (q : K) → find R q new ≡ cond (eq_by_cmp R q k) (Some v) (find R q es)
  find-inserted k v i es new none at is q =
      let all : new ≡ put R k v es = is ∙ ap (λ n. insert es n (k, v)) at ∙ sym (put-place R k v es o none) in
      ap (find R q) all ∙ find-put R o q k v es

  pub sorted-removed : (k : K) (v : V) (i : ℕ) (es new : List (K × V)) → is_sorted R es ≡ true → find R k es ≡ Some v → i ≡ place R k es → new ≡ remove es i → is_sorted R new ≡ true
  sorted-removed k v i es new h is at left =
      let sorted : T (is_sorted R es) = subst T (sym h) tt in
      let all : new ≡ where_key R (λ x. not (eq_by_cmp R k x)) es = left ∙ ap (λ n. remove es n) at ∙ sym (where-place R o k v es sorted is) in
      ap (is_sorted R) all ∙ truth _ (is_sorted-where_key R (λ x. not (eq_by_cmp R k x)) es sorted)

  pub find-removed : (k : K) (v : V) (i : ℕ) (es new : List (K × V)) → is_sorted R es ≡ true → find R k es ≡ Some v → i ≡ place R k es → new ≡ remove es i → (q : K) → find R q new ≡ cond (eq_by_cmp R q k) None (find R q es)
  find-removed k v i es new h is at left q =
      let sorted : T (is_sorted R es) = subst T (sym h) tt in
      let all : new ≡ where_key R (λ x. not (eq_by_cmp R k x)) es = left ∙ ap (λ n. remove es n) at ∙ sym (where-place R o k v es sorted is) in
      ap (find R q) all
      ∙ find-where_key R (λ x. not (eq_by_cmp R k x)) q (λ x t. ap (λ r. not (is_eq r)) (sym (alike_right o q x k t))) es
      ∙ turned (eq_by_cmp R k q) (find R q es) None ∙ ap (λ b. cond b None (find R q es)) ((eq_by_cmp_equiv o).symm k q)

  -- a key that isn't there: nothing is taken out
  pub find-kept : (k : K) (es : List (K × V)) → find R k es ≡ None → (q : K) → find R q es ≡ cond (eq_by_cmp R q k) None (find R q es)
  find-kept k es none q =
      elim (eq_by_cmp R q k) as (λ b. eq_by_cmp R q k ≡ b → find R q es ≡ cond b None (find R q es)) [
        | true ↦ λ p. sym (find_tied R o q k (equal (R q k) (subst T (sym p) tt)) es) ∙ none
        | false ↦ λ p. refl
      ] refl
