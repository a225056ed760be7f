-- Channels by their ids, and requests by theirs.
use Rattle.std.proofs.Common.{◌≡◌, ◌≢◌, ℕ, zero, suc, ◌+◌, ◌-◌, ◌<◌, ◌≤◌, Bool, true, false, cond, not, ◌&&◌, T, List, [], ◌∷◌, ◌==◌, Option, None, Some, map, refl, sym, ◌∙◌, ap, subst, arith, inl, inr}
use Rattle.std.specs.Prelude.{◌⊎◌, is_some, IsSome, option_map, nat_lt}
use Rattle.std.specs.FinMap.{FinMap, get, insert, remove, len, entries, entries_sorted, find, is_sorted, get-entries, get-empty, get-insert, get-remove, get-retain_keys, len-remove, empty_of_len, same_map, nat_cmp-IsAntisymmetric}
use Rattle.std.specs.FinMap.Entries.{below_all}
use Rattle.std.specs.Ordering.{nat_cmp, eq_by_cmp, is_lt}
use Rattle.std.specs.declared.cmp.Ordering.TheVariants.{Less, Equal, Greater}
use Rattle.std.proofs.lemmas.Bool.{false≢true}
use Rattle.std.proofs.lemmas.Bool.Decides.{nat_tests}
use Rattle.std.proofs.lemmas.Cmp.{nat_cmp_total, ranked}
use Rattle.std.proofs.lemmas.Option.{none-some}
use Rattle.std.specs.Cmp.{unsigned_tied}
use Rattle.chan_table.specs.Numbers.{IsLeastAbsent}
use Rattle.desk_api.specs.declared.channel.Channel.{Channel}
use Rattle.srv_session.specs.State.{Channels, Asked, Requests, channel_at, least_from, least_free, is_on, without_channel}

-- numbers that are equal or not

pub tied : (q k : ℕ) → q ≡ k → eq_by_cmp nat_cmp q k ≡ true
tied q k is = let test : (q == k) ≡ true = grind (arith, nat_tests) in unsigned_tied q k ∙ test

pub untied : (q k : ℕ) → q ≢ k → eq_by_cmp nat_cmp q k ≡ false
untied q k apart = let test : (q == k) ≡ false = grind (arith, nat_tests) in unsigned_tied q k ∙ test

pub tied_back : (q k : ℕ) → eq_by_cmp nat_cmp q k ≡ true → q ≡ k
tied_back q k is = let test : (q == k) ≡ true = sym (unsigned_tied q k) ∙ is in grind (arith, nat_tests)

pub same_or_not : (q k : ℕ) → (q ≡ k) ⊎ (q ≢ k)
same_or_not q k = by_test (q == k) refl
  where
    by_test : (b : Bool) → (q == k) ≡ b → (q ≡ k) ⊎ (q ≢ k)
    by_test true is = inl (grind (arith, nat_tests))
    by_test false is = inr (λ e. let other : (q == k) ≡ true = grind (arith, nat_tests) in false≢true (sym is ∙ other))

module _ {V : Type 0} (m : FinMap nat_cmp V) where
  pub got_inserted : (k : ℕ) (v : V) → get (insert m k v) k ≡ Some v
  got_inserted k v = get-insert nat_cmp_total m k v k ∙ ap (λ (b : Bool). cond b (Some v) (get m k)) (tied k k refl)

  pub got_beside : (k : ℕ) (v : V) (q : ℕ) → q ≢ k → get (insert m k v) q ≡ get m q
  got_beside k v q apart = get-insert nat_cmp_total m k v q ∙ ap (λ (b : Bool). cond b (Some v) (get m q)) (untied q k apart)

  pub got_removed : (k : ℕ) → get (remove m k) k ≡ None
  got_removed k = get-remove nat_cmp_total m k k ∙ ap (λ (b : Bool). cond b None (get m k)) (tied k k refl)

  pub got_left : (k q : ℕ) → q ≢ k → get (remove m k) q ≡ get m q
  got_left k q apart = get-remove nat_cmp_total m k q ∙ ap (λ (b : Bool). cond b None (get m q)) (untied q k apart)

  -- where nothing stands nothing is removed
  pub nothing_removed : (k : ℕ) → get m k ≡ None → remove m k ≡ m
  nothing_removed k none = same_map nat_cmp_total nat_cmp-IsAntisymmetric (remove m k) m (λ q. alike q (same_or_not q k))
    where
      alike : (q : ℕ) → (q ≡ k) ⊎ (q ≢ k) → get (remove m k) q ≡ get m q
      alike q (inl e) = ap (get (remove m k)) e ∙ got_removed k ∙ sym none ∙ ap (get m) (sym e)
      alike q (inr apart) = got_left k q apart

pub both_parts : (a b : Bool) → T (a && b) → T a × T b
both_parts true b h = (tt, h)
both_parts false b h = absurd h

-- all of these keys are at or above n
abbrev pub AllFrom : {V : Type 0} → ℕ → List (ℕ × V) → Type 0
AllFrom n [] = Unit {0}
AllFrom n (e ∷ es) = (n ≤ e.0) × AllFrom n es

pub less : (x y : ℕ) → T (is_lt (nat_cmp x y)) → x < y
less x y h =
    elim (nat_cmp x y) as (λ r. r ≡ nat_cmp x y → T (is_lt r) → x < y) [
      | Less ↦ λ e t. ranked x y Less e
      | Equal ↦ λ e t. absurd t
      | Greater ↦ λ e t. absurd t
    ] refl h

module _ {V : Type 0} where
  pub above : (x : ℕ) (es : List (ℕ × V)) → T (below_all nat_cmp x es) → AllFrom (x + 1) es
  above x [] h = tt
  above x (e ∷ es) h =
      let parts = both_parts (is_lt (nat_cmp x e.0)) (below_all nat_cmp x es) h in
      let first = less x e.0 parts.0 in
      (omega (arith, first), above x es parts.1)

  pub weaker : (n m : ℕ) (es : List (ℕ × V)) → n ≤ m → AllFrom m es → AllFrom n es
  weaker n m [] le h = tt
  weaker n m (e ∷ es) le h = (omega (arith, le, h.0), weaker n m es le h.1)

  pub missing : (q : ℕ) (es : List (ℕ × V)) → AllFrom (q + 1) es → find nat_cmp q es ≡ None
  missing q [] h = refl
  missing q (e ∷ es) h =
      let first = h.0 in
      let apart : q ≢ e.0 = λ is. omega (arith, is, first) in
      ap (λ (b : Bool). cond b (Some e.1) (find nat_cmp q es)) (untied q e.0 apart) ∙ missing q es h.1

  -- what the walk over rising keys finds
  record Walk (n r : ℕ) (es : List (ℕ × V)) : Type 0 where
    low : n ≤ r
    absent : find nat_cmp r es ≡ None
    below : (k : ℕ) → n ≤ k → k < r → IsSome (find nat_cmp k es)

  module _ (n : ℕ) (e : ℕ × V) (es : List (ℕ × V)) (under : T (below_all nat_cmp e.0 es)) (first : n ≤ e.0) where
    later : (k : ℕ) → k ≢ e.0 → find nat_cmp k (e ∷ es) ≡ find nat_cmp k es
    later k apart = ap (λ (b : Bool). cond b (Some e.1) (find nat_cmp k es)) (untied k e.0 apart)

    -- the first key is n, and the walk goes on
    at_key : (r : ℕ) → e.0 ≡ n → Walk (n + 1) r es → Walk n r (e ∷ es)
    at_key r here rest =
        let low = rest.low in
        record {
          low = omega (arith, low);
          absent = later r (λ same. omega (arith, same, here, low)) ∙ rest.absent;
          below = λ k le lt. below_here k le lt (same_or_not k n);
        }
      where
        below_here : (k : ℕ) → n ≤ k → k < r → (k ≡ n) ⊎ (k ≢ n) → IsSome (find nat_cmp k (e ∷ es))
        below_here k le lt (inl same) = ap (λ (b : Bool). is_some (cond b (Some e.1) (find nat_cmp k es))) (tied k e.0 (same ∙ sym here))
        below_here k le lt (inr apart) =
            let more : n + 1 ≤ k = not_first k le apart in
            subst IsSome (sym (later k (λ same. apart (same ∙ here)))) (rest.below k more lt)
          where
            not_first : (k : ℕ) → n ≤ k → k ≢ n → n + 1 ≤ k
            not_first k le apart = omega (arith, le, apart)

    -- it is greater
    behind_n : n ≢ e.0 → Walk n n (e ∷ es)
    behind_n apart = record {
      low = omega arith;
      absent = later n apart ∙ missing n es (weaker (n + 1) (e.0 + 1) es (omega (arith, first)) (above e.0 es under));
      below = λ k le lt. absurd (omega (arith, le, lt));
    }

    step : (Walk (n + 1) (least_from (n + 1) (map (λ x. x.0) es)) es) → Walk n (least_from n (map (λ x. x.0) (e ∷ es))) (e ∷ es)
    step rest = by_test (e.0 == n) refl
      where
        by_test : (b : Bool) → (e.0 == n) ≡ b → Walk n (cond b (least_from (n + 1) (map (λ x. x.0) es)) n) (e ∷ es)
        by_test true is = at_key (least_from (n + 1) (map (λ x. x.0) es)) (grind (arith, nat_tests)) rest
        by_test false is = behind_n (λ same. let other : (e.0 == n) ≡ true = grind (arith, nat_tests) in false≢true (sym is ∙ other))

  walk : (n : ℕ) (es : List (ℕ × V)) → T (is_sorted nat_cmp es) → AllFrom n es → Walk n (least_from n (map (λ x. x.0) es)) es
  walk n [] sorted from = record { low = omega arith; absent = refl; below = λ k le lt. absurd (omega (arith, le, lt)) }
  walk n (e ∷ es) sorted from =
      let parts = both_parts (below_all nat_cmp e.0 es) (is_sorted nat_cmp es) sorted in
      let first = from.0 in
      step n e es parts.0 first (walk (n + 1) es parts.1 (weaker (n + 1) (e.0 + 1) es (omega (arith, first)) (above e.0 es parts.0)))

pub all_from_zero : {V : Type 0} (es : List (ℕ × V)) → AllFrom 0 es
all_from_zero [] = tt
all_from_zero (e ∷ es) = (omega arith, all_from_zero es)

-- the least number that no channel has
pub is_least : (channels : Channels) → IsLeastAbsent (get channels) (least_free channels)
is_least channels =
    let found = walk 0 (entries channels) (entries_sorted channels) (all_from_zero (entries channels)) in
    record {
      absent = get-entries channels (least_free channels) ∙ found.absent;
      below = λ k lt. subst IsSome (sym (get-entries channels k)) (found.below k (omega arith) lt);
    }

pub one_least : (channels : Channels) (n m : ℕ) → IsLeastAbsent (get channels) n → IsLeastAbsent (get channels) m → n ≡ m
one_least channels n m a b = by_tests (nat_lt n m) (nat_lt m n) refl refl
  where
    some_none : (k : ℕ) → get channels k ≡ None → IsSome (get channels k) → ⊥
    some_none k none some = false≢true (sym (ap (λ o. is_some o) none) ∙ some)

    by_tests : (less more : Bool) → nat_lt n m ≡ less → nat_lt m n ≡ more → n ≡ m
    by_tests true more lt gt = absurd (some_none n a.absent (b.below n (grind (arith, nat_tests))))
    by_tests false true lt gt = absurd (some_none m b.absent (a.below m (grind (arith, nat_tests))))
    by_tests false false lt gt = grind (arith, nat_tests)

-- The channels under other numbers stay where one comes or goes.

pub opened_beside : (channels : Channels) (n q : ℕ) (c : ℕ × Channel) → q ≢ n → channel_at (insert channels n c) q ≡ channel_at channels q
opened_beside channels n q c apart = ap (option_map (λ x. x.1)) (got_beside channels n c q apart)

pub opened_here : (channels : Channels) (n : ℕ) (c : ℕ × Channel) → channel_at (insert channels n c) n ≡ Some c.1
opened_here channels n c = ap (option_map (λ x. x.1)) (got_inserted channels n c)

pub left_beside : (channels : Channels) (n q : ℕ) → q ≢ n → channel_at (remove channels n) q ≡ channel_at channels q
left_beside channels n q apart = ap (option_map (λ x. x.1)) (got_left channels n q apart)

pub left_none : (channels : Channels) (n : ℕ) → channel_at (remove channels n) n ≡ None
left_none channels n = ap (option_map (λ x. x.1)) (got_removed channels n)

-- The requests on a channel.

pub got_without : (sid : ℕ) (requests : Requests) (req : ℕ) → get (without_channel sid requests) req ≡ cond (not (is_on sid (get requests req))) (get requests req) None
got_without sid requests req =
    get-retain_keys requests (λ q. not (is_on sid (get requests q))) req (λ x ties. ap (λ (k : ℕ). not (is_on sid (get requests k))) (sym (nat_cmp-IsAntisymmetric req x ties)))

-- one of those that stay is on another channel
pub stays_elsewhere : (sid : ℕ) (requests : Requests) (req : ℕ) (ask : Asked) → get (without_channel sid requests) req ≡ Some ask → (get requests req ≡ Some ask) × (is_on sid (Some ask) ≡ false)
stays_elsewhere sid requests req ask is = by_place (get requests req) (is_on sid (get requests req)) refl refl (sym (got_without sid requests req) ∙ is)
  where
    by_place : (found : Option Asked) (on : Bool) → get requests req ≡ found → is_on sid (get requests req) ≡ on
        → cond (not (is_on sid (get requests req))) (get requests req) None ≡ Some ask → (get requests req ≡ Some ask) × (is_on sid (Some ask) ≡ false)
    by_place found true at on kept = absurd (none-some ask (sym (ap (λ (b : Bool). cond (not b) (get requests req) None) on) ∙ kept))
    by_place found false at on kept =
        let here : get requests req ≡ Some ask = sym (ap (λ (b : Bool). cond (not b) (get requests req) None) on) ∙ kept in
        (here, sym (ap (is_on sid) here) ∙ on)

-- where no request is on the channel all stay
pub none_on : (sid : ℕ) (requests : Requests) → ((req : ℕ) → is_on sid (get requests req) ≡ false) → without_channel sid requests ≡ requests
none_on sid requests none =
    same_map nat_cmp_total nat_cmp-IsAntisymmetric (without_channel sid requests) requests
    (λ req. got_without sid requests req ∙ ap (λ (b : Bool). cond (not b) (get requests req) None) (none req))

-- a request of the channel that is taken out first makes no difference
pub taken_first : (sid : ℕ) (requests : Requests) (req : ℕ) → is_on sid (get requests req) ≡ true → without_channel sid (remove requests req) ≡ without_channel sid requests
taken_first sid requests req on =
    same_map nat_cmp_total nat_cmp-IsAntisymmetric (without_channel sid (remove requests req)) (without_channel sid requests)
    (λ q. got_without sid (remove requests req) q ∙ alike q (same_or_not q req) ∙ sym (got_without sid requests q))
  where
    kept : Option Asked → Option Asked
    kept found = cond (not (is_on sid found)) found None

    alike : (q : ℕ) → (q ≡ req) ⊎ (q ≢ req) → kept (get (remove requests req) q) ≡ kept (get requests q)
    alike q (inl same) =
        ap kept (ap (get (remove requests req)) same ∙ got_removed requests req)
        ∙ sym (ap (λ (b : Bool). cond (not b) (get requests req) None) on)
        ∙ ap (λ (k : ℕ). kept (get requests k)) (sym same)
    alike q (inr apart) = ap kept (got_left requests req q apart)

-- one fewer
pub fewer : {V : Type 0} (m : FinMap nat_cmp V) (k : ℕ) (v : V) → get m k ≡ Some v → len (remove m k) < len m
fewer m k v is =
    let less : len (remove m k) ≡ len m - 1 = len-remove nat_cmp_total m k ∙ ap (λ (o : Option _). cond (is_some o) (len m - 1) (len m)) is in
    by_count (len m) refl less
  where
    by_count : (n : ℕ) → len m ≡ n → len (remove m k) ≡ n - 1 → len (remove m k) < n
    by_count zero none less = absurd (none-some v (sym (get-empty nat_cmp k) ∙ sym (ap (λ x. get x k) (empty_of_len m none)) ∙ is))
    by_count (suc n) some less = omega (arith, less)

-- whether one is on the channel, by its sid
pub sid_is_on : (requests : Requests) (sid req : ℕ) → option_map (λ (a : Asked). a.sid) (get requests req) ≡ Some sid → is_on sid (get requests req) ≡ true
sid_is_on requests sid req is = by_place (get requests req) is
  where
    same : {x y : ℕ} → Some x ≡ Some y → x ≡ y
    same e = cc

    by_place : (o : Option Asked) → option_map (λ (a : Asked). a.sid) o ≡ Some sid → is_on sid o ≡ true
    by_place None e = absurd (none-some sid e)
    by_place (Some ask) e = let here = same e in grind (arith, nat_tests)

pub sid_not_on : (requests : Requests) (sid req : ℕ) → (option_map (λ (a : Asked). a.sid) (get requests req) ≡ Some sid → ⊥) → is_on sid (get requests req) ≡ false
sid_not_on requests sid req apart = by_place (get requests req) apart
  where
    by_place : (o : Option Asked) → (option_map (λ (a : Asked). a.sid) o ≡ Some sid → ⊥) → is_on sid o ≡ false
    by_place None e = refl
    by_place (Some ask) e = by_test (ask.sid == sid) refl
      where
        by_test : (b : Bool) → (ask.sid == sid) ≡ b → b ≡ false
        by_test true is = let here : ask.sid ≡ sid = grind (arith, nat_tests) in absurd (e (ap Some here))
        by_test false is = refl

-- none of those that stay is on the channel
pub none_stays : (sid : ℕ) (requests : Requests) (req : ℕ) → option_map (λ (a : Asked). a.sid) (get (without_channel sid requests) req) ≡ Some sid → ⊥
none_stays sid requests req is =
    let on = sid_is_on (without_channel sid requests) sid req is in
    by_place (get (without_channel sid requests) req) refl on
  where
    by_place : (o : Option Asked) → get (without_channel sid requests) req ≡ o → is_on sid o ≡ true → ⊥
    by_place None e on = false≢true on
    by_place (Some ask) e on = false≢true (sym (stays_elsewhere sid requests req ask e).1 ∙ on)
