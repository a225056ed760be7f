-- The slots of requests, by the rising ids of the requests.
use Rattle.std.proofs.Common.{◌≡◌, ◌≢◌, ℕ, zero, suc, ◌+◌, ◌<◌, ◌≤◌, Bool, true, false, cond, T, List, [], ◌∷◌, ◌++◌, Option, None, Some, Result, Ok, Err, map, refl, sym, ◌∙◌, ap, subst, arith, inl, inr, append_assoc}
use Rattle.std.specs.Prelude.{◌⊎◌, OnErr}
use Rattle.std.specs.List.{flat_map}
use Rattle.std.specs.FinMap.{get, insert, remove, entries, entries_sorted, entries-insert, find, put, is_sorted, get-entries, get-retain_keys, same_map, nat_cmp-IsAntisymmetric}
use Rattle.std.specs.FinMap.Entries.{below_all, by_order}
use Rattle.std.specs.Ordering.{nat_cmp, eq_by_cmp, is_lt}
use Rattle.std.specs.declared.cmp.Ordering.{Ordering}
use Rattle.std.specs.declared.cmp.Ordering.TheVariants.{Less, Equal, Greater}
use Rattle.std.proofs.lemmas.Bool.{false≢true}
use Rattle.std.proofs.lemmas.Cmp.{nat_cmp_total, ranked}
use Rattle.std.proofs.lemmas.Option.{none-some}
use Rattle.std.proofs.lemmas.List.{append-nil}
use Rattle.pvd_type.specs.declared.memory.NoMemory.{NoMemory}
use Rattle.srv_session.specs.State.{State, Asked, Requests, is_on, on_only, slot_of_sub, slot_of, slots_of}
use Rattle.srv_session.proofs.Tables.{tied, untied, same_or_not, got_inserted, got_beside, got_removed, got_left, nothing_removed, both_parts, AllFrom, above, weaker, missing, all_from_zero}

-- the slots of the requests in a list of entries
abbrev pub slots_in : List (ℕ × Asked) → List ℕ
slots_in [] = []
slots_in (e ∷ es) = slot_of_sub e.1.sub ++ slots_in es

-- What a look-up finds in rising entries.

pub first_found : {V : Type 0} (e : ℕ × V) (es : List (ℕ × V)) → find nat_cmp e.0 (e ∷ es) ≡ Some e.1
first_found e es = ap (λ (b : Bool). cond b (Some e.1) (find nat_cmp e.0 es)) (tied e.0 e.0 refl)

pub later_found : {V : Type 0} (q : ℕ) (e : ℕ × V) (es : List (ℕ × V)) → e.0 < q → find nat_cmp q (e ∷ es) ≡ find nat_cmp q es
later_found q e es lt = ap (λ (b : Bool). cond b (Some e.1) (find nat_cmp q es)) (untied q e.0 (λ is. omega (arith, is, lt)))

-- from here on a function finds what stands in these entries
abbrev pub Finds : {V : Type 0} → (ℕ → Option V) → ℕ → List (ℕ × V) → Type 0
Finds g low es = (k : ℕ) → low ≤ k → g k ≡ find nat_cmp k es

pub finds_rest : {V : Type 0} (g : ℕ → Option V) (low : ℕ) (e : ℕ × V) (es : List (ℕ × V)) → low ≤ e.0 → Finds g low (e ∷ es) → Finds g (e.0 + 1) es
finds_rest g low e es le finds k more = finds k (omega (arith, le, more)) ∙ later_found k e es (omega (arith, more))

by_slots : (g : ℕ → Option Asked) (low : ℕ) (es : List (ℕ × Asked)) → T (is_sorted nat_cmp es) → AllFrom low es → Finds g low es
    → flat_map (λ req. slot_of (g req)) (map (λ e. e.0) es) ≡ slots_in es
by_slots g low [] sorted from finds = refl
by_slots g low (e ∷ es) sorted from finds =
    let parts = both_parts (below_all nat_cmp e.0 es) (is_sorted nat_cmp es) sorted in
    let here : g e.0 ≡ Some e.1 = finds e.0 from.0 ∙ first_found e es in
    ap (λ (l : List ℕ). l ++ flat_map (λ req. slot_of (g req)) (map (λ e. e.0) es)) (ap slot_of here)
    ∙ ap (λ (l : List ℕ). slot_of_sub e.1.sub ++ l) (by_slots g (e.0 + 1) es parts.1 (above e.0 es parts.0) (finds_rest g low e es from.0 finds))

pub slots_entries : (m : Requests) → slots_of m ≡ slots_in (entries m)
slots_entries m = by_slots (get m) 0 (entries m) (entries_sorted m) (all_from_zero (entries m)) (λ k le. get-entries m k)

-- Where a request is put in place of one with the same slot, or of none and has none, the slots are the same.

pub slots_put : (k : ℕ) (v : Asked) (es : List (ℕ × Asked)) → T (is_sorted nat_cmp es) → slot_of (find nat_cmp k es) ≡ slot_of_sub v.sub → slots_in (put nat_cmp k v es) ≡ slots_in es
slots_put k v [] sorted same = ap (λ (l : List ℕ). l ++ []) (sym same)
slots_put k v (e ∷ es) sorted same = by_rank (slots_put k v es parts.1) (nat_cmp k e.0) refl
  where
    parts : T (below_all nat_cmp e.0 es) × T (is_sorted nat_cmp es)
    parts = both_parts (below_all nat_cmp e.0 es) (is_sorted nat_cmp es) sorted

    by_rank : (slot_of (find nat_cmp k es) ≡ slot_of_sub v.sub → slots_in (put nat_cmp k v es) ≡ slots_in es) → (r : Ordering) → r ≡ nat_cmp k e.0
        → slots_in (by_order r ((k, v) ∷ e ∷ es) ((e.0, v) ∷ es) (e ∷ put nat_cmp k v es)) ≡ slot_of_sub e.1.sub ++ slots_in es
    by_rank step Less is =
        let lt : k < e.0 = ranked k e.0 Less is in
        let none : find nat_cmp k (e ∷ es) ≡ None = missing k (e ∷ es) (omega (arith, lt), weaker (k + 1) (e.0 + 1) es (omega (arith, lt)) (above e.0 es parts.0)) in
        ap (λ (l : List ℕ). l ++ (slot_of_sub e.1.sub ++ slots_in es)) (sym same ∙ ap slot_of none)
    by_rank step Equal is =
        let one : k ≡ e.0 = ranked k e.0 Equal is in
        let here : find nat_cmp k (e ∷ es) ≡ Some e.1 = ap (λ (q : ℕ). find nat_cmp q (e ∷ es)) one ∙ first_found e es in
        ap (λ (l : List ℕ). l ++ slots_in es) (sym same ∙ ap slot_of here)
    by_rank step Greater is =
        let gt : e.0 < k = ranked k e.0 Greater is in
        ap (λ (l : List ℕ). slot_of_sub e.1.sub ++ l) (step (ap slot_of (sym (later_found k e es gt)) ∙ same))

-- a request that comes first
front : (k : ℕ) (v : Asked) (es : List (ℕ × Asked)) → AllFrom (k + 1) es → put nat_cmp k v es ≡ (k, v) ∷ es
front k v [] from = refl
front k v (e ∷ es) from = by_rank (nat_cmp k e.0) refl
  where
    lt : k < e.0
    lt = let le = from.0 in omega (arith, le)

    by_rank : (r : Ordering) → r ≡ nat_cmp k e.0 → by_order r ((k, v) ∷ e ∷ es) ((e.0, v) ∷ es) (e ∷ put nat_cmp k v es) ≡ (k, v) ∷ e ∷ es
    by_rank Less is = refl
    by_rank Equal is = let one = ranked k e.0 Equal is in absurd (omega (arith, lt, one))
    by_rank Greater is = let gt = ranked k e.0 Greater is in absurd (omega (arith, lt, gt))

-- where no id below a bound has a request
from_absent : (bound : ℕ) (es : List (ℕ × Asked)) → T (is_sorted nat_cmp es) → ((q : ℕ) → q < bound → find nat_cmp q es ≡ None) → AllFrom bound es
from_absent bound [] sorted none = tt
from_absent bound (e ∷ es) sorted none = (first, weaker bound (e.0 + 1) es (omega (arith, first)) (above e.0 es parts.0))
  where
    parts : T (below_all nat_cmp e.0 es) × T (is_sorted nat_cmp es)
    parts = both_parts (below_all nat_cmp e.0 es) (is_sorted nat_cmp es) sorted

    first : bound ≤ e.0
    first = by_order_of (nat_cmp e.0 bound) refl
      where
        by_order_of : (r : Ordering) → r ≡ nat_cmp e.0 bound → bound ≤ e.0
        by_order_of Less is = let lt = ranked e.0 bound Less is in absurd (none-some e.1 (sym (none e.0 lt) ∙ first_found e es))
        by_order_of Equal is = let one = ranked e.0 bound Equal is in omega (arith, one)
        by_order_of Greater is = let gt = ranked e.0 bound Greater is in omega (arith, gt)

no_slots : (es : List (ℕ × Asked)) → ((q : ℕ) → find nat_cmp q es ≡ None) → slots_in es ≡ []
no_slots [] none = refl
no_slots (e ∷ es) none = absurd (none-some e.1 (sym (none e.0) ∙ first_found e es))

module _ (m : Requests) (k : ℕ) where
  pub slots_insert : (v : Asked) → slot_of (get m k) ≡ slot_of_sub v.sub → slots_of (insert m k v) ≡ slots_of m
  slots_insert v same =
      slots_entries (insert m k v) ∙ ap slots_in (entries-insert nat_cmp_total m k v)
      ∙ slots_put k v (entries m) (entries_sorted m) (ap slot_of (sym (get-entries m k)) ∙ same) ∙ sym (slots_entries m)

  -- one that is there comes back
  pub put_back : (v : Asked) → get m k ≡ Some v → insert (remove m k) k v ≡ m
  put_back v is = same_map nat_cmp_total nat_cmp-IsAntisymmetric (insert (remove m k) k v) m (λ q. alike q (same_or_not q k))
    where
      alike : (q : ℕ) → (q ≡ k) ⊎ (q ≢ k) → get (insert (remove m k) k v) q ≡ get m q
      alike q (inl e) = ap (get (insert (remove m k) k v)) e ∙ got_inserted (remove m k) k v ∙ sym is ∙ ap (get m) (sym e)
      alike q (inr apart) = got_beside (remove m k) k v q apart ∙ got_left m k q apart

  -- where one without a slot goes
  pub slots_remove : slot_of (get m k) ≡ [] → slots_of (remove m k) ≡ slots_of m
  slots_remove none = by_place (get m k) refl none
    where
      by_place : (o : Option Asked) → get m k ≡ o → slot_of o ≡ [] → slots_of (remove m k) ≡ slots_of m
      by_place None is no_slot = ap slots_of (nothing_removed m k is)
      by_place (Some v) is no_slot =
          sym (slots_insert_of (remove m k) v (ap slot_of (got_removed m k) ∙ sym no_slot)) ∙ ap slots_of (put_back v is)
        where
          slots_insert_of : (n : Requests) (v : Asked) → slot_of (get n k) ≡ slot_of_sub v.sub → slots_of (insert n k v) ≡ slots_of n
          slots_insert_of n v same =
              slots_entries (insert n k v) ∙ ap slots_in (entries-insert nat_cmp_total n k v)
              ∙ slots_put k v (entries n) (entries_sorted n) (ap slot_of (sym (get-entries n k)) ∙ same) ∙ sym (slots_entries n)

  -- where the first goes
  pub slots_first : (v : Asked) → get m k ≡ Some v → ((q : ℕ) → q < k → get m q ≡ None) → slots_of m ≡ slot_of_sub v.sub ++ slots_of (remove m k)
  slots_first v is least =
      let rest = entries (remove m k) in
      let from : AllFrom (k + 1) rest = from_absent (k + 1) rest (entries_sorted (remove m k)) (λ q lt. sym (get-entries (remove m k) q) ∙ absent q lt (same_or_not q k)) in
      let es : entries m ≡ (k, v) ∷ rest = ap entries (sym (put_back v is)) ∙ entries-insert nat_cmp_total (remove m k) k v ∙ front k v rest from in
      slots_entries m ∙ ap slots_in es ∙ ap (λ (l : List ℕ). slot_of_sub v.sub ++ l) (sym (slots_entries (remove m k)))
    where
      absent : (q : ℕ) → q < k + 1 → (q ≡ k) ⊎ (q ≢ k) → get (remove m k) q ≡ None
      absent q lt (inl e) = ap (get (remove m k)) e ∙ got_removed m k
      absent q lt (inr apart) = got_left m k q apart ∙ least q (omega (arith, lt, apart))

pub slots_none : (m : Requests) → ((q : ℕ) → get m q ≡ None) → slots_of m ≡ []
slots_none m none = slots_entries m ∙ no_slots (entries m) (λ q. sym (get-entries m q) ∙ none q)

-- The requests on a channel.

pub got_only : (sid : ℕ) (m : Requests) (req : ℕ) → get (on_only sid m) req ≡ cond (is_on sid (get m req)) (get m req) None
got_only sid m req =
    get-retain_keys m (λ q. is_on sid (get m q)) req (λ x ties. ap (λ (k : ℕ). is_on sid (get m k)) (sym (nat_cmp-IsAntisymmetric req x ties)))

pub none_only : (sid : ℕ) (m : Requests) → ((req : ℕ) → is_on sid (get m req) ≡ false) → slots_of (on_only sid m) ≡ []
none_only sid m off = slots_none (on_only sid m) (λ q. got_only sid m q ∙ ap (λ (b : Bool). cond b (get m q) None) (off q))

-- the first of them
module _ (sid : ℕ) (m : Requests) (id : ℕ) (ask : Asked) (here : get m id ≡ Some ask) (on : is_on sid (get m id) ≡ true) (least : (q : ℕ) → q < id → is_on sid (get m q) ≡ false) where
  first_here : get (on_only sid m) id ≡ Some ask
  first_here = got_only sid m id ∙ ap (λ (b : Bool). cond b (get m id) None) on ∙ here

  rest_only : remove (on_only sid m) id ≡ on_only sid (remove m id)
  rest_only = same_map nat_cmp_total nat_cmp-IsAntisymmetric (remove (on_only sid m) id) (on_only sid (remove m id)) (λ q. alike q (same_or_not q id))
    where
      kept : Option Asked → Option Asked
      kept o = cond (is_on sid o) o None

      alike : (q : ℕ) → (q ≡ id) ⊎ (q ≢ id) → get (remove (on_only sid m) id) q ≡ get (on_only sid (remove m id)) q
      alike q (inl same) =
          ap (get (remove (on_only sid m) id)) same ∙ got_removed (on_only sid m) id
          ∙ sym (got_only sid (remove m id) q ∙ ap kept (ap (get (remove m id)) same ∙ got_removed m id))
      alike q (inr apart) =
          got_left (on_only sid m) id q apart ∙ got_only sid m q ∙ ap kept (sym (got_left m id q apart)) ∙ sym (got_only sid (remove m id) q)

  pub slots_first_on : slots_of (on_only sid m) ≡ slot_of_sub ask.sub ++ slots_of (on_only sid (remove m id))
  slots_first_on =
      slots_first (on_only sid m) id ask first_here (λ q lt. got_only sid m q ∙ ap (λ (b : Bool). cond b (get m q) None) (least q lt))
      ∙ ap (λ (r : Requests). slot_of_sub ask.sub ++ slots_of r) rest_only

-- Where the state is as before, the subscriptions are.
pub still : {s t : State} → t ≡ s → slots_of t.requests ≡ slots_of s.requests
still is = ap (λ (z : State). slots_of z.requests) is

pub on_err : {A : Type 0} (result : Result (Unit {0}) NoMemory) → A → OnErr result A
on_err (Ok u) a = tt
on_err (Err e) a = a
