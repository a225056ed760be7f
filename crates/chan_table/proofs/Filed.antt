-- Requests filed by their channels: what stays filed as requests come, go and are lent, and which is found first.
use Rattle.std.specs.Prelude.{◌≡◌, ◌≢◌, ℕ, ◌+◌, ◌-◌, ◌<◌, Bool, true, false, cond, ◌&&◌, [], length, Option, None, Some, is_some, IsSome, refl}
use Rattle.std.proofs.Common.{sym, ap, subst, ◌∙◌, inl, inr, arith}
use Rattle.std.specs.declared.cmp.Ordering.{Ordering}
use Rattle.std.specs.declared.cmp.Ordering.TheVariants.{Less, Equal, Greater}
use Rattle.std.specs.Ordering.{nat_cmp, eq_by_cmp, is_eq, is_lt, ordering_then}
use Rattle.std.specs.Option.{option_map}
use Rattle.std.specs.FinMap as map
use Rattle.std.specs.Cmp.{nat_cmp_is}
use Rattle.std.proofs.lemmas.Cmp.{nat_cmp_total, tied_itself}
use Rattle.std.proofs.lemmas.Option.{none-some, same_Some}
use Rattle.std.proofs.lemmas.Bool.{cases_lt, false≢true}
use Rattle.chan_table.specs.declared.ask.Ask.{Ask}
use Rattle.chan_table.specs.Index.{AllBelow, IsFirst}
use Rattle.chan_table.specs.Filing.{Filings, filed_cmp, filed_at, is_at, IsFiled}
use Rattle.chan_table.specs.Tables.{sid_at, IsFreeOf, IsLeastOn}
use Rattle.chan_table.proofs.Gathered.{same_or_not, remove-absent, none_from, lt_of, ge_of}

-- ---- pairs as keys
tied : (x y : Ordering) → is_eq (ordering_then x y) ≡ (is_eq x && is_eq y)
tied Less y = refl
tied Equal y = refl
tied Greater y = refl

both : (a b : Bool) → b ≡ false → (a && b) ≡ false
both true b e = e
both false b e = refl

pub eq_true : (q n : ℕ) → q ≡ n → eq_by_cmp nat_cmp q n ≡ true
eq_true q n e = elim (same_or_not q n) [ inl p ↦ p.1 | inr p ↦ absurd (p.0 e) ]

pub eq_false : (q n : ℕ) → q ≢ n → eq_by_cmp nat_cmp q n ≡ false
eq_false q n ne = elim (same_or_not q n) [ inl p ↦ absurd (ne p.0) | inr p ↦ p.1 ]

pair_same : (s i t j : ℕ) → s ≡ t → i ≡ j → eq_by_cmp filed_cmp (s, i) (t, j) ≡ true
pair_same s i t j e f = tied (nat_cmp s t) (nat_cmp i j) ∙ ap (λ a. a && eq_by_cmp nat_cmp i j) (eq_true s t e) ∙ eq_true i j f

pair_other_id : (s i t j : ℕ) → i ≢ j → eq_by_cmp filed_cmp (s, i) (t, j) ≡ false
pair_other_id s i t j ne = tied (nat_cmp s t) (nat_cmp i j) ∙ both (eq_by_cmp nat_cmp s t) _ (eq_false i j ne)

pair_other_sid : (s i t j : ℕ) → s ≢ t → eq_by_cmp filed_cmp (s, i) (t, j) ≡ false
pair_other_sid s i t j ne = tied (nat_cmp s t) (nat_cmp i j) ∙ ap (λ a. a && eq_by_cmp nat_cmp i j) (eq_false s t ne)

-- what a look-up of a pair finds after a change at one
at_it : {A : Type 0} (b : Bool) (x y : A) → b ≡ true → cond b x y ≡ x
at_it b x y e = ap (λ c. cond c x y) e

elsewhere : {A : Type 0} (b : Bool) (x y : A) → b ≡ false → cond b x y ≡ y
elsewhere b x y e = ap (λ c. cond c x y) e

-- the sid that is told is the one that is there
pub told : (o : Option ℕ) (sid : ℕ) → is_at o sid ≡ true → o ≡ Some sid
told None sid e = absurd (false≢true e)
told (Some t) sid e = elim (same_or_not sid t) [ inl p ↦ ap Some (sym p.0) | inr p ↦ absurd (false≢true (sym p.1 ∙ e)) ]

pub not_told : (o : Option ℕ) (sid : ℕ) → is_at o sid ≡ false → o ≢ Some sid
not_told o sid e is = false≢true (sym e ∙ ap (λ p. is_at p sid) is ∙ eq_true sid sid refl)

-- the order of pairs
at_or_above : (sid i : ℕ) → is_lt (filed_cmp (sid, i) (sid, 0)) ≡ false
at_or_above sid i = ap (λ r. is_lt (ordering_then r (nat_cmp i 0))) (tied_itself nat_cmp_total sid) ∙ ge_of i 0 (omega arith)

below_id : (sid k id : ℕ) → k < id → is_lt (filed_cmp (sid, k) (sid, id)) ≡ true
below_id sid k id lt = ap (λ r. is_lt (ordering_then r (nat_cmp k id))) (tied_itself nat_cmp_total sid) ∙ lt_of k id lt

below_sid : (s i t j : ℕ) → s < t → is_lt (filed_cmp (s, i) (t, j)) ≡ true
below_sid s i t j lt = ap (λ r. is_lt (ordering_then r (nat_cmp i j))) (sym (nat_cmp_is s t Less lt))

sid_below : (t sid j : ℕ) → t ≢ sid → is_lt (filed_cmp (t, j) (sid, 0)) ≡ false → sid < t
sid_below t sid j other above =
    elim (cases_lt t sid) [
      | inl lt ↦ absurd (false≢true (sym above ∙ below_sid t j sid 0 lt))
      | inr ge ↦ omega arith
    ]

module _ {S : Type 0} where
  sid_of_known : (m : map.FinMap nat_cmp (Ask S)) (id : ℕ) (ask : Ask S) → map.get m id ≡ Some ask → sid_at m id ≡ Some ask.sid
  sid_of_known m id ask e = ap (option_map (λ (a : Ask S). a.sid)) e

  sid_at-insert : (m : map.FinMap nat_cmp (Ask S)) (id : ℕ) (ask : Ask S) (q : ℕ) → q ≢ id → sid_at (map.insert m id ask) q ≡ sid_at m q
  sid_at-insert m id ask q ne = ap (option_map (λ (a : Ask S). a.sid)) (map.get-insert nat_cmp_total m id ask q ∙ elsewhere _ _ _ (eq_false q id ne))

  sid_at-inserted : (m : map.FinMap nat_cmp (Ask S)) (id : ℕ) (ask : Ask S) (q : ℕ) → q ≡ id → sid_at (map.insert m id ask) q ≡ Some ask.sid
  sid_at-inserted m id ask q e = ap (option_map (λ (a : Ask S). a.sid)) (map.get-insert nat_cmp_total m id ask q ∙ at_it _ _ _ (eq_true q id e))

  sid_at-remove : (m : map.FinMap nat_cmp (Ask S)) (id q : ℕ) → q ≢ id → sid_at (map.remove m id) q ≡ sid_at m q
  sid_at-remove m id q ne = ap (option_map (λ (a : Ask S). a.sid)) (map.get-remove nat_cmp_total m id q ∙ elsewhere _ _ _ (eq_false q id ne))

  sid_at-removed : (m : map.FinMap nat_cmp (Ask S)) (id q : ℕ) → q ≡ id → sid_at (map.remove m id) q ≡ None
  sid_at-removed m id q e = ap (option_map (λ (a : Ask S). a.sid)) (map.get-remove nat_cmp_total m id q ∙ at_it _ _ _ (eq_true q id e))

  none_lent : (m : map.FinMap nat_cmp (Ask S)) (at : ℕ × ℕ) → None ≡ Some at → IsSome (map.get m at.1)
  none_lent m at e = absurd (none-some at e)

  -- nothing is filed where nothing is
  pub filed-empty : (es : Filings) (lent : Option (ℕ × ℕ)) (m : map.FinMap nat_cmp (Ask S)) → es ≡ [] → lent ≡ None → m ≡ map.empty → IsFiled es lent m
  filed-empty es lent m nothing none e = record {
    filed = λ s i.
        ap (λ xs. is_some (map.find filed_cmp (s, i) xs)) nothing
        ∙ ap (λ o. is_at (option_map (λ (a : Ask S). a.sid) o) s) (sym (ap (λ n. map.get n i) e ∙ map.get-empty nat_cmp i))
        ∙ ap (λ l. is_at (filed_at l m i) s) (sym none);
    counted = ap length nothing ∙ sym (ap map.len e ∙ map.len-empty nat_cmp (Ask S));
    there = λ at is. absurd (none-some at (sym none ∙ is));
  }

  -- ---- settling: the request that was lent is on the channel that it was on
  pub filed-same : (es : Filings) (lent : ℕ × ℕ) (m : map.FinMap nat_cmp (Ask S)) (ask : Ask S) → IsFiled es (Some lent) m
      → map.get m lent.1 ≡ Some ask → ask.sid ≡ lent.0 → IsFiled es None m
  filed-same es lent m ask h known same = record {
    filed = λ s i. h.filed s i ∙ ap (λ o. is_at o s) (elim (same_or_not i lent.1) [
      | inl p ↦ at_it _ (Some lent.0) (sid_at m i) p.1 ∙ ap Some (sym same) ∙ sym (sid_of_known m i ask (ap (map.get m) p.0 ∙ known))
      | inr p ↦ elsewhere _ (Some lent.0) (sid_at m i) p.1
    ]);
    counted = h.counted;
    there = none_lent m;
  }

  -- or on another
  pub filed-moved : (es mid new : Filings) (lent : ℕ × ℕ) (m : map.FinMap nat_cmp (Ask S)) (ask : Ask S) → IsFiled es (Some lent) m
      → map.get m lent.1 ≡ Some ask → ask.sid ≢ lent.0
      → ((q : ℕ × ℕ) → map.find filed_cmp q mid ≡ cond (eq_by_cmp filed_cmp q lent) None (map.find filed_cmp q es))
      → ((q : ℕ × ℕ) → map.find filed_cmp q new ≡ cond (eq_by_cmp filed_cmp q (ask.sid, lent.1)) (Some tt) (map.find filed_cmp q mid))
      → length new ≡ length es → IsFiled new None m
  filed-moved es mid new lent m ask h known other finds finds' size = record {
    filed = λ s i. elim (same_or_not i lent.1) [
      | inl p ↦
          let here : sid_at m i ≡ Some ask.sid = sid_of_known m i ask (ap (map.get m) p.0 ∙ known) in
          let was : is_some (map.find filed_cmp (s, i) es) ≡ eq_by_cmp nat_cmp s lent.0 =
          h.filed s i ∙ ap (λ o. is_at o s) (at_it _ (Some lent.0) (sid_at m i) p.1) in
          elim (same_or_not s ask.sid) [
            | inl r ↦ ap is_some (finds' (s, i) ∙ at_it _ _ _ (pair_same s i ask.sid lent.1 r.0 p.0)) ∙ sym r.1 ∙ ap (λ o. is_at o s) (sym here)
            | inr r ↦ ap is_some (finds' (s, i) ∙ elsewhere _ _ _ (pair_other_sid s i ask.sid lent.1 r.0) ∙ finds (s, i))
                ∙ elim (same_or_not s lent.0) [
                  | inl t ↦ ap is_some (at_it _ None (map.find filed_cmp (s, i) es) (pair_same s i lent.0 lent.1 t.0 p.0))
                  | inr t ↦ ap is_some (elsewhere _ None (map.find filed_cmp (s, i) es) (pair_other_sid s i lent.0 lent.1 t.0)) ∙ was ∙ t.1
                ]
                ∙ sym r.1 ∙ ap (λ o. is_at o s) (sym here)
          ]
      | inr p ↦ ap is_some (finds' (s, i) ∙ elsewhere _ _ _ (pair_other_id s i ask.sid lent.1 p.0) ∙ finds (s, i) ∙ elsewhere _ _ _ (pair_other_id s i lent.0 lent.1 p.0))
          ∙ h.filed s i ∙ ap (λ o. is_at o s) (elsewhere _ (Some lent.0) (sid_at m i) p.1)
    ];
    counted = size ∙ h.counted;
    there = none_lent m;
  }

  -- under its own sid nothing else is filed yet
  pub unfiled-own : (es mid : Filings) (lent : ℕ × ℕ) (m : map.FinMap nat_cmp (Ask S)) (sid : ℕ) → IsFiled es (Some lent) m → sid ≢ lent.0
      → ((q : ℕ × ℕ) → map.find filed_cmp q mid ≡ cond (eq_by_cmp filed_cmp q lent) None (map.find filed_cmp q es))
      → map.find filed_cmp (sid, lent.1) mid ≡ None
  unfiled-own es mid lent m sid h other finds =
      finds (sid, lent.1) ∙ elsewhere _ _ _ (pair_other_sid sid lent.1 lent.0 lent.1 other)
      ∙ none_from (map.find filed_cmp (sid, lent.1) es)
      (h.filed sid lent.1 ∙ ap (λ o. is_at o sid) (at_it _ (Some lent.0) (sid_at m lent.1) (eq_true lent.1 lent.1 refl)) ∙ eq_false sid lent.0 other)

  -- what the lent one is filed under is there
  pub filed-lent : (es : Filings) (lent : ℕ × ℕ) (m : map.FinMap nat_cmp (Ask S)) → IsFiled es (Some lent) m → is_some (map.find filed_cmp lent es) ≡ true
  filed-lent es lent m h =
      h.filed lent.0 lent.1 ∙ ap (λ o. is_at o lent.0) (at_it _ (Some lent.0) (sid_at m lent.1) (eq_true lent.1 lent.1 refl)) ∙ eq_true lent.0 lent.0 refl

  -- ---- a request comes
  pub unfiled : (es : Filings) (m : map.FinMap nat_cmp (Ask S)) (sid id : ℕ) → IsFiled es None m → map.get m id ≡ None → map.find filed_cmp (sid, id) es ≡ None
  unfiled es m sid id h none = none_from _ (h.filed sid id ∙ ap (λ o. is_at (option_map (λ (a : Ask S). a.sid) o) sid) none)

  pub filed-inserted : (es new : Filings) (m : map.FinMap nat_cmp (Ask S)) (id : ℕ) (ask : Ask S) → IsFiled es None m → map.get m id ≡ None
      → ((q : ℕ × ℕ) → map.find filed_cmp q new ≡ cond (eq_by_cmp filed_cmp q (ask.sid, id)) (Some tt) (map.find filed_cmp q es))
      → length new ≡ length es + 1 → IsFiled new None (map.insert m id ask)
  filed-inserted es new m id ask h none finds more =
      let size : map.len (map.insert m id ask) ≡ map.len m + 1 =
      map.len-insert nat_cmp_total m id ask ∙ ap (λ o. cond (is_some o) (map.len m) (map.len m + 1)) none in
      let counted = h.counted in
      record {
        filed = λ s i. elim (same_or_not i id) [
          | inl p ↦
              let here : sid_at (map.insert m id ask) i ≡ Some ask.sid = sid_at-inserted m id ask i p.0 in
              elim (same_or_not s ask.sid) [
                | inl r ↦ ap is_some (finds (s, i) ∙ at_it _ _ _ (pair_same s i ask.sid id r.0 p.0)) ∙ sym r.1 ∙ ap (λ o. is_at o s) (sym here)
                | inr r ↦ ap is_some (finds (s, i) ∙ elsewhere _ _ _ (pair_other_sid s i ask.sid id r.0) ∙ unfiled es m s i h (ap (map.get m) p.0 ∙ none))
                    ∙ sym r.1 ∙ ap (λ o. is_at o s) (sym here)
              ]
          | inr p ↦ ap is_some (finds (s, i) ∙ elsewhere _ _ _ (pair_other_id s i ask.sid id p.0)) ∙ h.filed s i
              ∙ ap (λ o. is_at o s) (sym (sid_at-insert m id ask i p.0))
        ];
        counted = omega arith;
        there = none_lent (map.insert m id ask);
      }

  -- ---- a request goes
  pub filed-removed : (es new : Filings) (m : map.FinMap nat_cmp (Ask S)) (id : ℕ) (ask : Ask S) → IsFiled es None m → map.get m id ≡ Some ask
      → ((q : ℕ × ℕ) → map.find filed_cmp q new ≡ cond (eq_by_cmp filed_cmp q (ask.sid, id)) None (map.find filed_cmp q es))
      → length new + 1 ≡ length es → IsFiled new None (map.remove m id)
  filed-removed es new m id ask h known finds less =
      let size : map.len (map.remove m id) ≡ map.len m - 1 =
      map.len-remove nat_cmp_total m id ∙ ap (λ o. cond (is_some o) (map.len m - 1) (map.len m)) known in
      let counted = h.counted in
      record {
        filed = λ s i. elim (same_or_not i id) [
          | inl p ↦
              let gone : sid_at (map.remove m id) i ≡ None = sid_at-removed m id i p.0 in
              elim (same_or_not s ask.sid) [
                | inl r ↦ ap is_some (finds (s, i) ∙ at_it _ _ _ (pair_same s i ask.sid id r.0 p.0)) ∙ ap (λ o. is_at o s) (sym gone)
                | inr r ↦ ap is_some (finds (s, i) ∙ elsewhere _ _ _ (pair_other_sid s i ask.sid id r.0)) ∙ h.filed s i
                    ∙ ap (λ o. is_at o s) (sid_of_known m i ask (ap (map.get m) p.0 ∙ known)) ∙ r.1 ∙ ap (λ o. is_at o s) (sym gone)
              ]
          | inr p ↦ ap is_some (finds (s, i) ∙ elsewhere _ _ _ (pair_other_id s i ask.sid id p.0)) ∙ h.filed s i
              ∙ ap (λ o. is_at o s) (sym (sid_at-remove m id i p.0))
        ];
        counted = omega arith;
        there = none_lent (map.remove m id);
      }

  pub filed-known : (es : Filings) (m : map.FinMap nat_cmp (Ask S)) (id : ℕ) (ask : Ask S) → IsFiled es None m → map.get m id ≡ Some ask
      → is_some (map.find filed_cmp (ask.sid, id) es) ≡ true
  filed-known es m id ask h known = h.filed ask.sid id ∙ ap (λ o. is_at o ask.sid) (sid_of_known m id ask known) ∙ eq_true ask.sid ask.sid refl

  pub filed-without : (es : Filings) (m : map.FinMap nat_cmp (Ask S)) (id : ℕ) → IsFiled es None m → map.get m id ≡ None → IsFiled es None (map.remove m id)
  filed-without es m id h none = subst (IsFiled es None) (remove-absent m id none) h

  -- ---- a request is lent: whatever is written to it, it stays filed as it was
  pub filed-written : (es : Filings) (m : map.FinMap nat_cmp (Ask S)) (id : ℕ) (ask written : Ask S) → IsFiled es None m → map.get m id ≡ Some ask
      → IsFiled es (Some (ask.sid, id)) (map.insert m id written)
  filed-written es m id ask written h known = record {
    filed = λ s i. h.filed s i ∙ ap (λ o. is_at o s) (elim (same_or_not i id) [
      | inl p ↦ sid_of_known m i ask (ap (map.get m) p.0 ∙ known) ∙ sym (at_it _ (Some ask.sid) (sid_at (map.insert m id written) i) p.1)
      | inr p ↦ sym (sid_at-insert m id written i p.0) ∙ sym (elsewhere _ (Some ask.sid) (sid_at (map.insert m id written) i) p.1)
    ]);
    counted = h.counted ∙ sym (map.len-insert nat_cmp_total m id written ∙ ap (λ o. cond (is_some o) (map.len m) (map.len m + 1)) known);
    there = λ at e.
        let same : id ≡ at.1 = ap (λ x. x.1) (same_Some (ask.sid, id) at e) in
        ap (λ q. is_some (map.get (map.insert m id written) q)) (sym same)
        ∙ ap is_some (map.get-insert nat_cmp_total m id written id ∙ at_it _ _ _ (eq_true id id refl));
  }

  -- ---- the first on a channel
  pub free-below : (es : Filings) (m : map.FinMap nat_cmp (Ask S)) (sid : ℕ) → IsFiled es None m → AllBelow filed_cmp es (sid, 0) → IsFreeOf (sid_at m) sid
  free-below es m sid h below = record {
    none = λ i. not_told (sid_at m i) sid (sym (h.filed sid i) ∙ ap is_some (below.none (sid, i) (at_or_above sid i)));
  }

  pub first-on : (es : Filings) (m : map.FinMap nat_cmp (Ask S)) (sid : ℕ) (e : (ℕ × ℕ) × Unit {0}) → IsFiled es None m
      → IsFirst filed_cmp es (sid, 0) e → e.0.0 ≡ sid → IsLeastOn (sid_at m) sid e.0.1
  first-on es m sid e h first same = record {
    on = told (sid_at m e.0.1) sid (sym (h.filed sid e.0.1) ∙ ap is_some (ap (λ s. map.find filed_cmp (s, e.0.1) es) (sym same) ∙ first.found));
    least = λ k lt. not_told (sid_at m k) sid (sym (h.filed sid k)
        ∙ ap is_some (first.least (sid, k) (at_or_above sid k) (ap (λ s. is_lt (filed_cmp (sid, k) (s, e.0.1))) same ∙ below_id sid k e.0.1 lt)));
  }

  pub free-first : (es : Filings) (m : map.FinMap nat_cmp (Ask S)) (sid : ℕ) (e : (ℕ × ℕ) × Unit {0}) → IsFiled es None m
      → IsFirst filed_cmp es (sid, 0) e → e.0.0 ≢ sid → IsFreeOf (sid_at m) sid
  free-first es m sid e h first other =
      let later : sid < e.0.0 = sid_below e.0.0 sid e.0.1 other first.above in
      record {
        none = λ i. not_told (sid_at m i) sid (sym (h.filed sid i)
            ∙ ap is_some (first.least (sid, i) (at_or_above sid i) (below_sid sid i e.0.0 e.0.1 later)));
      }
