-- Values in a slab behind an index of its keys, as a map: what comes, goes and changes in both, comes, goes and changes in the map.
use Rattle.std.specs.Prelude.{◌≡◌, ◌≢◌, ℕ, ◌+◌, ◌-◌, ◌<◌, ◌≤◌, Bool, true, false, cond, List, [], ◌∷◌, length, Option, None, Some, is_some, IsSome, slice_index_or, count_by, refl}
use Rattle.std.proofs.Common.{sym, ap, ◌∙◌, inl, inr, ◌⊎◌, arith}
use Rattle.std.specs.declared.cmp.Ordering.TheVariants.{Less, Equal, Greater}
use Rattle.std.specs.Ordering.{nat_cmp, eq_by_cmp, is_eq, is_lt}
use Rattle.std.specs.Option.{option_and_then}
use Rattle.std.specs.FinMap as map
use Rattle.std.proofs.lemmas.Cmp.{nat_cmp_total, ranked}
use Rattle.std.proofs.lemmas.Option.{none-some, same_Some}
use Rattle.std.proofs.lemmas.Bool.{cases_lt, false≢true}
use Rattle.slab.specs.Slab as slab
use Rattle.slab.proofs.SlabLemmas.{Updates-with_value, ContainsKey-within}
use Rattle.std.proofs.lemmas.List.Sums.{sum_by-set}
use Rattle.chan_table.specs.Index.{AllBelow, IsFirst}
use Rattle.chan_table.specs.Numbers.{IsLeastAbsent, IsNext, IsNoneFrom}
use Rattle.chan_table.specs.Kept.{with_at, gathered, IsSound}

-- two numbers are one, or they are not, and a look-up sees it
pub same_or_not : (q n : ℕ) → ((q ≡ n) × (eq_by_cmp nat_cmp q n ≡ true)) ⊎ ((q ≢ n) × (eq_by_cmp nat_cmp q n ≡ false))
same_or_not q n =
    elim (nat_cmp q n) as (λ r. r ≡ nat_cmp q n → ((q ≡ n) × (is_eq r ≡ true)) ⊎ ((q ≢ n) × (is_eq r ≡ false))) [
      | Less ↦ λ e. let lt : q < n = ranked q n Less e in inr ((λ is. absurd (omega arith)), refl)
      | Equal ↦ λ e. inl (ranked q n Equal e, refl)
      | Greater ↦ λ e. let gt : n < q = ranked q n Greater e in inr ((λ is. absurd (omega arith)), refl)
    ] refl

-- a value that is there is none that isn't
pub some_there : {V : Type 0} (o : Option V) → IsSome o → o ≡ None → ⊥
some_there o h e = absurd (false≢true (sym (ap is_some e) ∙ h))

pub none_from : {A : Type 0} (o : Option A) → is_some o ≡ false → o ≡ None
none_from None e = refl
none_from (Some x) e = absurd (false≢true (sym e))

-- the order of numbers, as a look-up tests it
lt_from : (a b : ℕ) → is_lt (nat_cmp a b) ≡ true → a < b
lt_from a b e =
    elim (nat_cmp a b) as (λ r. r ≡ nat_cmp a b → is_lt r ≡ true → a < b) [
      | Less ↦ λ p _. ranked a b Less p
      | Equal ↦ λ _ f. absurd (false≢true f)
      | Greater ↦ λ _ f. absurd (false≢true f)
    ] refl e

pub lt_of : (a b : ℕ) → a < b → is_lt (nat_cmp a b) ≡ true
lt_of a b lt =
    elim (nat_cmp a b) as (λ r. r ≡ nat_cmp a b → is_lt r ≡ true) [
      | Less ↦ λ _. refl
      | Equal ↦ λ p. let is : a ≡ b = ranked a b Equal p in absurd (omega arith)
      | Greater ↦ λ p. let gt : b < a = ranked a b Greater p in absurd (omega arith)
    ] refl

pub ge_from : (a b : ℕ) → is_lt (nat_cmp a b) ≡ false → b ≤ a
ge_from a b e = elim (cases_lt a b) [ inl lt ↦ absurd (false≢true (sym e ∙ lt_of a b lt)) | inr ge ↦ ge ]

pub ge_of : (a b : ℕ) → b ≤ a → is_lt (nat_cmp a b) ≡ false
ge_of a b ge =
    elim (is_lt (nat_cmp a b)) as (λ t. is_lt (nat_cmp a b) ≡ t → t ≡ false) [
      | true ↦ λ p. let lt : a < b = lt_from a b p in absurd (omega arith)
      | false ↦ λ p. refl
    ] refl

module _ {V : Type 0} where
  get-with_at : (m : map.FinMap nat_cmp V) (n : ℕ) (o : Option V) (q : ℕ) → map.get (with_at m n o) q ≡ cond (eq_by_cmp nat_cmp q n) o (map.get m q)
  get-with_at m n None q = map.get-remove nat_cmp_total m n q
  get-with_at m n (Some v) q = map.get-insert nat_cmp_total m n v q

  through : (f : ℕ → Option V) (b : Bool) (k : ℕ) (o : Option ℕ) → cond b (f k) (option_and_then f o) ≡ option_and_then f (cond b (Some k) o)
  through f true k o = refl
  through f false k o = refl

  -- a look-up goes through the index
  pub get-gathered : (es : List (ℕ × ℕ)) (s : slab.Slab V) (q : ℕ) → map.get (gathered es s) q ≡ option_and_then (slab.get s) (map.find nat_cmp q es)
  unfolding gathered
  get-gathered [] s q = map.get-empty nat_cmp q
  get-gathered (e ∷ es) s q =
      get-with_at (gathered es s) e.0 (slab.get s e.1) q
      ∙ ap (cond (eq_by_cmp nat_cmp q e.0) (slab.get s e.1)) (get-gathered es s q)
      ∙ through (slab.get s) (eq_by_cmp nat_cmp q e.0) e.1 (map.find nat_cmp q es)

  -- what a number has whose key is known
  pub get-known : (es : List (ℕ × ℕ)) (s : slab.Slab V) (q : ℕ) (o : Option ℕ) → o ≡ map.find nat_cmp q es → map.get (gathered es s) q ≡ option_and_then (slab.get s) o
  get-known es s q o e = get-gathered es s q ∙ ap (option_and_then (slab.get s)) (sym e)

  same_maps : (m n : map.FinMap nat_cmp V) → ((q : ℕ) → map.get m q ≡ map.get n q) → m ≡ n
  same_maps m n is = map.same_map nat_cmp_total map.nat_cmp-IsAntisymmetric m n is

  -- a number has a value exactly where it has a key
  pub is_some-gathered : (es : List (ℕ × ℕ)) (s : slab.Slab V) (room most : ℕ) → IsSound es s room most → (q : ℕ) → is_some (map.find nat_cmp q es) ≡ is_some (map.get (gathered es s) q)
  is_some-gathered es s room most h q =
      elim (map.find nat_cmp q es) as (λ o. o ≡ map.find nat_cmp q es → is_some o ≡ is_some (map.get (gathered es s) q)) [
        | None ↦ λ e. ap is_some (sym (get-known es s q None e))
        | Some k ↦ λ e. sym (h.stored q k (sym e)) ∙ ap is_some (sym (get-known es s q (Some k) e))
      ] refl

  -- how much fits plays no part
  pub gathered-same : (es new : List (ℕ × ℕ)) (s t : slab.Slab V) → new ≡ es → t.slots ≡ s.slots → gathered new t ≡ gathered es s
  gathered-same es new s t same slots = same_maps _ _ (λ q.
      get-gathered new t q
      ∙ ap (λ xs. option_and_then (slab.get t) (map.find nat_cmp q xs)) same
      ∙ read (map.find nat_cmp q es)
      ∙ sym (get-gathered es s q))
    where
      read : (o : Option ℕ) → option_and_then (slab.get t) o ≡ option_and_then (slab.get s) o
      read None = refl
      read (Some k) = ap (λ xs. slice_index_or xs k None) slots

  pub key-absent : (es : List (ℕ × ℕ)) (s : slab.Slab V) (room most : ℕ) → IsSound es s room most → (q : ℕ) → map.get (gathered es s) q ≡ None → map.find nat_cmp q es ≡ None
  key-absent es s room most h q e = none_from (map.find nat_cmp q es) (is_some-gathered es s room most h q ∙ ap is_some e)

  -- ---- the numbers in order
  pub next-none : (es : List (ℕ × ℕ)) (s : slab.Slab V) (from : ℕ) → AllBelow nat_cmp es from → IsNoneFrom (map.get (gathered es s)) from
  next-none es s from h = record { none = λ k le. get-known es s k None (sym (h.none k (ge_of k from le))) }

  pub next-some : (es : List (ℕ × ℕ)) (s : slab.Slab V) (room most from : ℕ) (e : ℕ × ℕ) → IsSound es s room most → IsFirst nat_cmp es from e → IsNext (map.get (gathered es s)) from e.0
  next-some es s room most from e sound h = record {
    present = sym (is_some-gathered es s room most sound e.0) ∙ ap is_some h.found;
    above = ge_from e.0 from h.above;
    least = λ k le lt. get-known es s k None (sym (h.least k (ge_of k from le) (lt_of k e.0 lt)));
  }

  pub absent-gathered : (es : List (ℕ × ℕ)) (s : slab.Slab V) (room most n : ℕ) → IsSound es s room most → IsLeastAbsent (λ q. map.find nat_cmp q es) n → IsLeastAbsent (map.get (gathered es s)) n
  absent-gathered es s room most n sound h = record {
    absent = get-known es s n None (sym h.absent);
    below = λ k lt. sym (is_some-gathered es s room most sound k) ∙ h.below k lt;
  }

  -- ---- nothing is there
  pub gathered-empty : (es : List (ℕ × ℕ)) (s : slab.Slab V) → es ≡ [] → gathered es s ≡ map.empty
  unfolding gathered
  gathered-empty es s e = ap (λ xs. gathered xs s) e

  pub sound-empty : (es : List (ℕ × ℕ)) (s : slab.Slab V) (room most : ℕ) → es ≡ [] → s.slots ≡ [] → room ≤ s.capacity → room ≤ most → IsSound es s room most
  sound-empty es s room most none vacant in_slab in_index =
      let short : length es ≡ 0 = ap length none in
      record {
        stored = λ q j e. absurd (none-some j (ap (map.find nat_cmp q) (sym none) ∙ e));
        apart = λ q r j e f. absurd (none-some j (ap (map.find nat_cmp q) (sym none) ∙ e));
        counted = ap (count_by is_some) vacant ∙ sym short;
        sized = ap map.len (gathered-empty es s none) ∙ map.len-empty nat_cmp V ∙ sym short;
        few = omega arith;
        in_slab = in_slab;
        in_index = in_index;
      }

  -- more room is taken
  pub sound-roomier : (es new : List (ℕ × ℕ)) (s t : slab.Slab V) (room most room' most' : ℕ) → IsSound es s room most → new ≡ es → t.slots ≡ s.slots
      → length new ≤ room' → room' ≤ t.capacity → room' ≤ most' → IsSound new t room' most'
  sound-roomier es new s t room most room' most' h same slots few in_slab in_index =
      let of : (q : ℕ) → map.find nat_cmp q new ≡ map.find nat_cmp q es = λ q. ap (map.find nat_cmp q) same in
      let at : (k : ℕ) → slab.get t k ≡ slab.get s k = λ k. ap (λ xs. slice_index_or xs k None) slots in
      record {
        stored = λ q j e. ap is_some (at j) ∙ h.stored q j (sym (of q) ∙ e);
        apart = λ q r j e f. h.apart q r j (sym (of q) ∙ e) (sym (of r) ∙ f);
        counted = ap (count_by is_some) slots ∙ h.counted ∙ ap length (sym same);
        sized = ap map.len (gathered-same es new s t same slots) ∙ h.sized ∙ ap length (sym same);
        few = few;
        in_slab = in_slab;
        in_index = in_index;
      }

  -- ---- a value comes
  module _ (es new : List (ℕ × ℕ)) (s t : slab.Slab V) (n k : ℕ) (v : V) (room most : ℕ) (h : IsSound es s room most)
      (finds : (q : ℕ) → map.find nat_cmp q new ≡ cond (eq_by_cmp nat_cmp q n) (Some k) (map.find nat_cmp q es))
      (vacant : slab.get s k ≡ None) (updates : slab.Updates s t k (Some v)) where
    apart_from : (q j : ℕ) → map.find nat_cmp q es ≡ Some j → j ≢ k
    apart_from q j e is = some_there (slab.get s j) (h.stored q j e) (ap (slab.get s) is ∙ vacant)

    others_stay : (q : ℕ) (o : Option ℕ) → map.find nat_cmp q es ≡ o → option_and_then (slab.get t) o ≡ option_and_then (slab.get s) o
    others_stay q None e = refl
    others_stay q (Some j) e = updates.others j (apart_from q j e)

    pub gathered-inserted : gathered new t ≡ map.insert (gathered es s) n v
    gathered-inserted = same_maps _ _ (λ q.
        get-gathered new t q ∙ ap (option_and_then (slab.get t)) (finds q)
        ∙ sym (through (slab.get t) (eq_by_cmp nat_cmp q n) k (map.find nat_cmp q es))
        ∙ ap (λ o. cond (eq_by_cmp nat_cmp q n) o (option_and_then (slab.get t) (map.find nat_cmp q es))) updates.changed
        ∙ ap (cond (eq_by_cmp nat_cmp q n) (Some v)) (others_stay q (map.find nat_cmp q es) refl ∙ sym (get-gathered es s q))
        ∙ sym (map.get-insert nat_cmp_total (gathered es s) n v q))

    key_of_new : (q j : ℕ) → map.find nat_cmp q new ≡ Some j → ((q ≡ n) × (j ≡ k)) ⊎ ((q ≢ n) × (map.find nat_cmp q es ≡ Some j))
    key_of_new q j e = elim (same_or_not q n) [
      | inl p ↦ inl (p.0, same_Some j k (sym e ∙ finds q ∙ ap (λ b. cond b (Some k) (map.find nat_cmp q es)) p.1))
      | inr p ↦ inr (p.0, ap (λ b. cond b (Some k) (map.find nat_cmp q es)) (sym p.1) ∙ sym (finds q) ∙ e)
    ]

    stored_new : (q j : ℕ) → map.find nat_cmp q new ≡ Some j → IsSome (slab.get t j)
    stored_new q j e = elim (key_of_new q j e) [
      | inl p ↦ ap (λ i. is_some (slab.get t i)) p.1 ∙ ap is_some updates.changed
      | inr p ↦ ap is_some (updates.others j (apart_from q j p.1)) ∙ h.stored q j p.1
    ]

    apart_new : (q r j : ℕ) → map.find nat_cmp q new ≡ Some j → map.find nat_cmp r new ≡ Some j → q ≡ r
    apart_new q r j e f = elim (key_of_new q j e) [
      | inl p ↦ elim (key_of_new r j f) [
        | inl p' ↦ p.0 ∙ sym p'.0
        | inr p' ↦ absurd (apart_from r j p'.1 p.1)
      ]
      | inr p ↦ elim (key_of_new r j f) [
        | inl p' ↦ absurd (apart_from q j p.1 p'.1)
        | inr p' ↦ h.apart q r j p.1 p'.1
      ]
    ]

    pub sound-inserted : (most' : ℕ) → map.find nat_cmp n es ≡ None → length new ≡ length es + 1 → length es < room → slab.slab_len t ≡ slab.slab_len s + 1
        → t.capacity ≡ s.capacity → most' ≡ most → IsSound new t room most'
    sound-inserted most' none more few count capacity same =
        let counted = h.counted in
        let sized = h.sized in
        let in_slab = h.in_slab in
        let in_index = h.in_index in
        let absent : is_some (map.get (gathered es s) n) ≡ false = ap is_some (get-known es s n None (sym none)) in
        let size : map.len (gathered new t) ≡ map.len (gathered es s) + 1 =
        ap map.len gathered-inserted ∙ map.len-insert nat_cmp_total (gathered es s) n v
        ∙ ap (λ b. cond b (map.len (gathered es s)) (map.len (gathered es s) + 1)) absent in
        record {
          stored = stored_new;
          apart = apart_new;
          counted = omega arith;
          sized = omega arith;
          few = omega arith;
          in_slab = omega arith;
          in_index = omega arith;
        }

  -- ---- a value goes
  module _ (es new : List (ℕ × ℕ)) (s t : slab.Slab V) (n k : ℕ) (room most : ℕ) (h : IsSound es s room most)
      (there : map.find nat_cmp n es ≡ Some k)
      (finds : (q : ℕ) → map.find nat_cmp q new ≡ cond (eq_by_cmp nat_cmp q n) None (map.find nat_cmp q es))
      (updates : slab.Updates s t k None) where
    key_of_left : (q j : ℕ) → map.find nat_cmp q new ≡ Some j → (q ≢ n) × (map.find nat_cmp q es ≡ Some j)
    key_of_left q j e = elim (same_or_not q n) [
      | inl p ↦ absurd (none-some j (sym (finds q ∙ ap (λ b. cond b None (map.find nat_cmp q es)) p.1) ∙ e))
      | inr p ↦ (p.0, ap (λ b. cond b None (map.find nat_cmp q es)) (sym p.1) ∙ sym (finds q) ∙ e)
    ]

    stays : (q j : ℕ) → q ≢ n → map.find nat_cmp q es ≡ Some j → slab.get t j ≡ slab.get s j
    stays q j ne e = updates.others j (λ is. ne (h.apart q n j e (there ∙ ap Some (sym is))))

    left_at : (q : ℕ) (o : Option ℕ) → map.find nat_cmp q es ≡ o → q ≢ n → option_and_then (slab.get t) o ≡ option_and_then (slab.get s) o
    left_at q None e ne = refl
    left_at q (Some j) e ne = stays q j ne e

    pub gathered-removed : gathered new t ≡ map.remove (gathered es s) n
    gathered-removed = same_maps _ _ (λ q.
        get-gathered new t q ∙ ap (option_and_then (slab.get t)) (finds q)
        ∙ elim (same_or_not q n) [
          | inl p ↦ ap (λ b. option_and_then (slab.get t) (cond b None (map.find nat_cmp q es))) p.1
              ∙ ap (λ b. cond b None (map.get (gathered es s) q)) (sym p.1)
          | inr p ↦ ap (λ b. option_and_then (slab.get t) (cond b None (map.find nat_cmp q es))) p.1
              ∙ left_at q (map.find nat_cmp q es) refl p.0 ∙ sym (get-gathered es s q)
              ∙ ap (λ b. cond b None (map.get (gathered es s) q)) (sym p.1)
        ]
        ∙ sym (map.get-remove nat_cmp_total (gathered es s) n q))

    pub sound-removed : (most' : ℕ) → length new + 1 ≡ length es → slab.slab_len t + 1 ≡ slab.slab_len s
        → t.capacity ≡ s.capacity → most' ≡ most → IsSound new t room most'
    sound-removed most' less count capacity same =
        let counted = h.counted in
        let sized = h.sized in
        let few = h.few in
        let in_slab = h.in_slab in
        let in_index = h.in_index in
        let present : is_some (map.get (gathered es s) n) ≡ true = sym (is_some-gathered es s room most h n) ∙ ap is_some there in
        let size : map.len (gathered new t) ≡ map.len (gathered es s) - 1 =
        ap map.len gathered-removed ∙ map.len-remove nat_cmp_total (gathered es s) n
        ∙ ap (λ b. cond b (map.len (gathered es s) - 1) (map.len (gathered es s))) present in
        record {
          stored = λ q j e. ap is_some (stays q j (key_of_left q j e).0 (key_of_left q j e).1) ∙ h.stored q j (key_of_left q j e).1;
          apart = λ q r j e f. h.apart q r j (key_of_left q j e).1 (key_of_left r j f).1;
          counted = omega arith;
          sized = omega arith;
          few = omega arith;
          in_slab = omega arith;
          in_index = omega arith;
        }

  -- nothing is taken from where nothing is
  pub remove-absent : (m : map.FinMap nat_cmp V) (n : ℕ) → map.get m n ≡ None → m ≡ map.remove m n
  remove-absent m n none = same_maps m (map.remove m n) (λ q.
      elim (same_or_not q n) [
        | inl p ↦ ap (map.get m) p.0 ∙ none ∙ ap (λ b. cond b None (map.get m q)) (sym p.1)
        | inr p ↦ ap (λ b. cond b None (map.get m q)) (sym p.1)
      ]
      ∙ sym (map.get-remove nat_cmp_total m n q))

  -- ---- a value changes
  count-changed : (s : slab.Slab V) (k : ℕ) (w : V) → slab.ContainsKey s k → slab.slab_len (slab.with_value s k w) ≡ slab.slab_len s
  count-changed s k w h =
      let one : cond {A = ℕ} (is_some (slab.get s k)) 1 0 ≡ 1 = ap (λ b. cond b 1 0) h in
      let sums : slab.slab_len (slab.with_value s k w) + cond (is_some (slab.get s k)) 1 0 ≡ slab.slab_len s + 1 = sum_by-set (λ x. cond (is_some x) 1 0) s.slots k (Some w) None (ContainsKey-within s k h) in
      omega arith

  module _ (es : List (ℕ × ℕ)) (s : slab.Slab V) (n k : ℕ) (w : V) (room most : ℕ) (h : IsSound es s room most)
      (there : map.find nat_cmp n es ≡ Some k) where
    changes : slab.Updates s (slab.with_value s k w) k (Some w)
    changes = Updates-with_value s k w (h.stored n k there)

    changed_at : (q : ℕ) (o : Option ℕ) → map.find nat_cmp q es ≡ o → q ≢ n → option_and_then (slab.get (slab.with_value s k w)) o ≡ option_and_then (slab.get s) o
    changed_at q None e ne = refl
    changed_at q (Some j) e ne = changes.others j (λ is. ne (h.apart q n j e (there ∙ ap Some (sym is))))

    pub gathered-changed : gathered es (slab.with_value s k w) ≡ map.insert (gathered es s) n w
    gathered-changed = same_maps _ _ (λ q.
        get-gathered es (slab.with_value s k w) q
        ∙ elim (same_or_not q n) [
          | inl p ↦ ap (λ x. option_and_then (slab.get (slab.with_value s k w)) (map.find nat_cmp x es)) p.0
              ∙ ap (option_and_then (slab.get (slab.with_value s k w))) there ∙ changes.changed
              ∙ ap (λ b. cond b (Some w) (map.get (gathered es s) q)) (sym p.1)
          | inr p ↦ changed_at q (map.find nat_cmp q es) refl p.0 ∙ sym (get-gathered es s q)
              ∙ ap (λ b. cond b (Some w) (map.get (gathered es s) q)) (sym p.1)
        ]
        ∙ sym (map.get-insert nat_cmp_total (gathered es s) n w q))

    stored_changed : (q j : ℕ) → map.find nat_cmp q es ≡ Some j → IsSome (slab.get (slab.with_value s k w) j)
    stored_changed q j e = elim (same_or_not q n) [
      | inl p ↦
          let same : j ≡ k = same_Some j k (sym e ∙ ap (λ x. map.find nat_cmp x es) p.0 ∙ there) in
          ap (λ i. is_some (slab.get (slab.with_value s k w) i)) same ∙ ap is_some changes.changed
      | inr p ↦ ap is_some (changed_at q (Some j) e p.0) ∙ h.stored q j e
    ]

    pub sound-changed : IsSound es (slab.with_value s k w) room most
    sound-changed =
        let present : is_some (map.get (gathered es s) n) ≡ true = sym (is_some-gathered es s room most h n) ∙ ap is_some there in
        record {
          stored = stored_changed;
          apart = h.apart;
          counted = count-changed s k w (h.stored n k there) ∙ h.counted;
          sized = ap map.len gathered-changed ∙ map.len-insert nat_cmp_total (gathered es s) n w
              ∙ ap (λ b. cond b (map.len (gathered es s)) (map.len (gathered es s) + 1)) present ∙ h.sized;
          few = h.few;
          in_slab = h.in_slab;
          in_index = h.in_index;
        }
