-- Slots that are listed under records.
use Rattle.std.specs.Prelude.{◌≡◌, ◌↔◌, ◌&&◌, ◌||◌, ℕ, zero, suc, ◌+◌, ◌≤◌, ◌<◌, Bool, true, false, cond, not, List, [], ◌∷◌, ◌++◌, length, take, set, Option, Some, slice_get, Result, Ok, Err, OnOk, OnErr, refl}
use Rattle.std.proofs.Common.{sym, ◌∙◌, ap, arith, eqb}
use Rattle.std.specs.List.{list_any, filter}
use Rattle.std.proofs.lemmas.Bool.{eqb-true, eq-eqb, ne_eqb, false≢true}
use Rattle.std.proofs.lemmas.List.Folds.{list_any-append, list_any_more}
use Rattle.std.proofs.lemmas.Map.Views.{any-filter_same}
use Rattle.std.proofs.lemmas.Option.{slice_get_within, slice_get_past, get_or_from_slice_get}
use Rattle.std.specs.Ordering.{nat_cmp}
use Rattle.std.specs.FinSet.{FinSet, contains, insert, empty, intersection, len, len-empty, empty_of_len}
use Rattle.pvd_type.proofs.Sets.{in_insert}
use Rattle.mon_queue.proofs.Merging.{same, in_both, in_none}
use Rattle.mon_shown.specs.Channels.{ChannelView, is_one_of}
use Rattle.mon_shown.specs.Noting.{has_slot, listed, has_slot_at, names, wants, OthersStay}
use Rattle.mon_shown.specs.declared.index.Listed.{Listed}
use Rattle.mon_shown.specs.declared.index.Index.{Index}

pub or_false : (b : Bool) → (b || false) ≡ b
or_false true = refl
or_false false = refl

or_true : (b : Bool) → (b || true) ≡ true
or_true true = refl
or_true false = refl

or_assoc : (a b c : Bool) → ((a || b) || c) ≡ (a || (b || c))
or_assoc true b c = refl
or_assoc false b c = refl

or_swap : (a b c : Bool) → (b || (a || c)) ≡ ((a || c) || b)
or_swap true true c = refl
or_swap true false c = refl
or_swap false true true = refl
or_swap false true false = refl
or_swap false false true = refl
or_swap false false false = refl

-- one list

pub one_more : (xs : List ℕ) (k s : ℕ) → is_one_of (xs ++ k ∷ []) s ≡ (is_one_of xs s || eqb s k)
one_more xs k s = list_any-append (λ j. eqb s j) xs (k ∷ []) ∙ ap (λ (b : Bool). is_one_of xs s || b) (or_false (eqb s k))

pub one_fewer : (xs : List ℕ) (k s : ℕ) → is_one_of (filter (λ j. not (eqb j k)) xs) s ≡ (not (eqb s k) && is_one_of xs s)
one_fewer xs k s = any-filter_same (λ j. eqb s j) (λ j. not (eqb j k)) (not (eqb s k)) (λ j e. ap (λ (z : ℕ). not (eqb z k)) (sym (eqb-true s j e))) xs

pub any_next : {X : Type 0} (p : X → Bool) (xs : List X) (i : ℕ) (x : X) → slice_get xs i ≡ Some x → list_any p (take (i + 1) xs) ≡ (list_any p (take i xs) || p x)
any_next p xs i x at = list_any_more p xs i x (slice_get_within xs i x at) ∙ ap (λ y. list_any p (take i xs) || p y) (get_or_from_slice_get xs i x x at)

-- a set that takes one item of a list after another
pub taken_in : (old found : FinSet nat_cmp) (xs : List ℕ) (i x : ℕ) → slice_get xs i ≡ Some x
    → ((s : ℕ) → contains found s ≡ (contains old s || is_one_of (take i xs) s)) → (s : ℕ) → contains (insert found x) s ≡ (contains old s || is_one_of (take (i + 1) xs) s)
taken_in old found xs i x at h s =
    in_insert found x s
    ∙ ap (λ (b : Bool). eqb s x || b) (h s)
    ∙ or_swap (contains old s) (eqb s x) (is_one_of (take i xs) s)
    ∙ or_assoc (contains old s) (is_one_of (take i xs) s) (eqb s x)
    ∙ ap (λ (b : Bool). contains old s || b) (sym (any_next (λ j. eqb s j) xs i x at))

-- all lists

pub got_same : {X : Type 0} (xs : List X) (n : ℕ) (y : X) → n < length xs → slice_get (set xs n y) n ≡ Some y
got_same [] n y less = absurd (omega (arith, less))
got_same (x ∷ xs) zero y less = refl
got_same (x ∷ xs) (suc n) y less = got_same xs n y (omega (arith, less))

pub got_other : {X : Type 0} (xs : List X) (n j : ℕ) (y : X) → (j ≡ n → ⊥) → slice_get (set xs n y) j ≡ slice_get xs j
got_other [] n j y ne = refl
got_other (x ∷ xs) zero zero y ne = absurd (ne refl)
got_other (x ∷ xs) zero (suc j) y ne = refl
got_other (x ∷ xs) (suc n) zero y ne = refl
got_other (x ∷ xs) (suc n) (suc j) y ne = got_other xs n j y (λ e. ne (ap suc e))

set_at : (lists : List Listed) (at r s : ℕ) (l : Listed) → at < length lists → has_slot_at (set lists at l) r s ≡ cond (eqb r at) (has_slot l s) (has_slot_at lists r s)
set_at lists at r s l less = step (eqb r at) refl
  where
    step : (b : Bool) → eqb r at ≡ b → has_slot_at (set lists at l) r s ≡ cond b (has_slot l s) (has_slot_at lists r s)
    step true e = ap (λ (z : ℕ). has_slot_at (set lists at l) z s) (eqb-true r at e) ∙ ap (λ (o : Option Listed). listed o s) (got_same lists at l less)
    step false e = ap (λ (o : Option Listed). listed o s) (got_other lists at r l (λ z. false≢true (sym e ∙ eq-eqb r at z)))

at_is : (lists : List Listed) (at r s : ℕ) (l : Listed) → slice_get lists at ≡ Some l → eqb r at ≡ true → has_slot_at lists r s ≡ has_slot l s
at_is lists at r s l here e = ap (λ (z : ℕ). has_slot_at lists z s) (eqb-true r at e) ∙ ap (λ (o : Option Listed). listed o s) here

pub added_at : (lists : List Listed) (at slot r s : ℕ) (l m : Listed) → slice_get lists at ≡ Some l → ((k : ℕ) → has_slot m k ≡ (has_slot l k || eqb k slot))
    → has_slot_at (set lists at m) r s ≡ (has_slot_at lists r s || (eqb r at && eqb s slot))
added_at lists at slot r s l m here h = set_at lists at r s m (slice_get_within lists at l here) ∙ step (eqb r at) refl
  where
    step : (b : Bool) → eqb r at ≡ b → cond b (has_slot m s) (has_slot_at lists r s) ≡ (has_slot_at lists r s || (b && eqb s slot))
    step true e = h s ∙ ap (λ (b : Bool). b || eqb s slot) (sym (at_is lists at r s l here e))
    step false e = sym (or_false (has_slot_at lists r s))

pub removed_at : (lists : List Listed) (at slot r s : ℕ) (l m : Listed) → slice_get lists at ≡ Some l → ((k : ℕ) → has_slot m k ≡ (not (eqb k slot) && has_slot l k))
    → has_slot_at (set lists at m) r s ≡ (not (eqb r at && eqb s slot) && has_slot_at lists r s)
removed_at lists at slot r s l m here h = set_at lists at r s m (slice_get_within lists at l here) ∙ step (eqb r at) refl
  where
    step : (b : Bool) → eqb r at ≡ b → cond b (has_slot m s) (has_slot_at lists r s) ≡ (not (b && eqb s slot) && has_slot_at lists r s)
    step true e = h s ∙ ap (λ (b : Bool). not (eqb s slot) && b) (sym (at_is lists at r s l here e))
    step false e = refl

pub same_at : (lists : List Listed) (at r s : ℕ) (l m : Listed) → slice_get lists at ≡ Some l → ((k : ℕ) → has_slot m k ≡ has_slot l k) → has_slot_at (set lists at m) r s ≡ has_slot_at lists r s
same_at lists at r s l m here h = set_at lists at r s m (slice_get_within lists at l here) ∙ step (eqb r at) refl
  where
    step : (b : Bool) → eqb r at ≡ b → cond b (has_slot m s) (has_slot_at lists r s) ≡ has_slot_at lists r s
    step true e = h s ∙ sym (at_is lists at r s l here e)
    step false e = refl

-- there is no list behind all
pub removed_past : (lists : List Listed) (at slot r s : ℕ) → length lists ≤ at → has_slot_at lists r s ≡ (not (eqb r at && eqb s slot) && has_slot_at lists r s)
removed_past lists at slot r s past = step (eqb r at) refl
  where
    both : (b : Bool) → (b && false) ≡ false
    both true = refl
    both false = refl

    step : (b : Bool) → eqb r at ≡ b → has_slot_at lists r s ≡ (not (b && eqb s slot) && has_slot_at lists r s)
    step true e =
        let none : has_slot_at lists r s ≡ false = ap (λ (z : ℕ). has_slot_at lists z s) (eqb-true r at e) ∙ ap (λ (o : Option Listed). listed o s) (slice_get_past lists at past) in
        none ∙ sym (ap (λ (b : Bool). not (eqb s slot) && b) none ∙ both (not (eqb s slot)))
    step false e = refl

pub widened : (lists : List Listed) (l : Listed) (r s : ℕ) → ((k : ℕ) → has_slot l k ≡ false) → has_slot_at (lists ++ l ∷ []) r s ≡ has_slot_at lists r s
widened [] l zero s h = h s
widened [] l (suc r) s h = refl
widened (x ∷ lists) l zero s h = refl
widened (x ∷ lists) l (suc r) s h = widened lists l r s h

-- the records that trigger leaves of a channel, one after another

pub not_wanted : (c : ChannelView) (mask : FinSet nat_cmp) (rec : ℕ) → intersection (c.triggers rec) mask ≡ empty → wants c mask rec ≡ false
not_wanted c mask rec none = ap (λ (n : ℕ). not (eqb n 0)) (ap len none ∙ len-empty nat_cmp)

pub wanted : (c : ChannelView) (mask : FinSet nat_cmp) (rec : ℕ) → (intersection (c.triggers rec) mask ≡ empty → ⊥) → wants c mask rec ≡ true
wanted c mask rec some = step (eqb (len (intersection (c.triggers rec) mask)) 0) refl
  where
    step : (b : Bool) → eqb (len (intersection (c.triggers rec) mask)) 0 ≡ b → not b ≡ true
    step true e = absurd (some (empty_of_len (intersection (c.triggers rec) mask) (eqb-true (len (intersection (c.triggers rec) mask)) 0 e)))
    step false e = refl

pub none_wanted : (c : ChannelView) (mask : FinSet nat_cmp) (rec : ℕ) → wants c mask rec ≡ false → intersection (c.triggers rec) mask ≡ empty
none_wanted c mask rec none = empty_of_len (intersection (c.triggers rec) mask) (eqb-true (len (intersection (c.triggers rec) mask)) 0 (step (eqb (len (intersection (c.triggers rec) mask)) 0) none))
  where
    step : (b : Bool) → not b ≡ false → b ≡ true
    step true e = refl
    step false e = absurd (false≢true (sym e))

pub untriggered : (c : ChannelView) (mask : FinSet nat_cmp) (rec : ℕ) → c.triggers rec ≡ empty → wants c mask rec ≡ false
untriggered c mask rec none = not_wanted c mask rec (ap (λ (t : FinSet nat_cmp). intersection t mask) none ∙ same (intersection empty mask) empty (λ k. in_both empty mask k ∙ ap (λ (b : Bool). b && contains mask k) (in_none k) ∙ sym (in_none k)))

-- The slot is listed under the first records, where they trigger leaves that are asked for.
pub record IsNoting (c : ChannelView) (mask : FinSet nat_cmp) (old : Index) (slot : ℕ) (recs : List ℕ) (i : ℕ) (new : Index) : Type 0 where
  pub others : OthersStay old slot new
  pub own : (r : ℕ) → names new r slot ≡ (is_one_of (take i recs) r && wants c mask r)

module _ (c : ChannelView) (mask : FinSet nat_cmp) (old now new : Index) (slot : ℕ) (recs : List ℕ) (i rec : ℕ) (at : slice_get recs i ≡ Some rec) (n : IsNoting c mask old slot recs i now) where
  pub noting_skips : wants c mask rec ≡ false → IsNoting c mask old slot recs (i + 1) now
  noting_skips none = record {
    others = n.others;
    own = λ r. n.own r ∙ sym (ap (λ (b : Bool). b && wants c mask r) (any_next (λ j. eqb r j) recs i rec at) ∙ step r (eqb r rec) refl (is_one_of (take i recs) r));
  }
    where
      both : (a : Bool) → (a && false) ≡ false
      both true = refl
      both false = refl

      step : (r : ℕ) (b : Bool) → eqb r rec ≡ b → (a : Bool) → ((a || b) && wants c mask r) ≡ (a && wants c mask r)
      step r false e a = ap (λ (x : Bool). x && wants c mask r) (or_false a)
      step r true e a =
          let out : wants c mask r ≡ false = ap (wants c mask) (eqb-true r rec e) ∙ none in
          ap (λ (x : Bool). (a || true) && x) out ∙ both (a || true) ∙ sym (ap (λ (x : Bool). a && x) out ∙ both a)

  pub noting_adds : wants c mask rec ≡ true → ((r s : ℕ) → names new r s ≡ (names now r s || (eqb r rec && eqb s slot))) → IsNoting c mask old slot recs (i + 1) new
  noting_adds there added = record {
    others = λ r s ne. added r s ∙ ap (λ (b : Bool). names now r s || (eqb r rec && b)) (ne_eqb s slot ne) ∙ ap (λ (b : Bool). names now r s || b) (both (eqb r rec)) ∙ or_false (names now r s) ∙ n.others r s ne;
    own = λ r.
        added r slot
        ∙ (λ j. n.own r j || (eqb r rec && eq-eqb slot slot refl j))
        ∙ step r (eqb r rec) refl (is_one_of (take i recs) r)
        ∙ sym (ap (λ (b : Bool). b && wants c mask r) (any_next (λ j. eqb r j) recs i rec at));
  }
    where
      both : (a : Bool) → (a && false) ≡ false
      both true = refl
      both false = refl

      plain : (a w : Bool) → ((a && w) || false) ≡ ((a || false) && w)
      plain true w = or_false w
      plain false w = refl

      held : (a w : Bool) → w ≡ true → ((a && w) || true) ≡ ((a || true) && w)
      held true w e = or_true w ∙ sym e
      held false w e = sym e

      step : (r : ℕ) (b : Bool) → eqb r rec ≡ b → (a : Bool) → ((a && wants c mask r) || (b && true)) ≡ ((a || b) && wants c mask r)
      step r false e a = plain a (wants c mask r)
      step r true e a = held a (wants c mask r) (ap (wants c mask) (eqb-true r rec e) ∙ there)

  pub noting_step : (b : Bool) → (b ≡ false ↔ (intersection (c.triggers rec) mask ≡ empty)) → ((r s : ℕ) → names new r s ≡ (names now r s || (b && (eqb r rec && eqb s slot)))) → IsNoting c mask old slot recs (i + 1) new
  noting_step true tells h = noting_adds (wanted c mask rec (λ z. false≢true (sym (tells.1 z)))) h
  noting_step false tells h =
      let m = noting_skips (not_wanted c mask rec (tells.0 refl)) in record {
        others = λ r s ne. h r s ∙ or_false (names now r s) ∙ m.others r s ne;
        own = λ r. h r slot ∙ or_false (names now r slot) ∙ m.own r;
      }

pub noting_starts : (c : ChannelView) (mask : FinSet nat_cmp) (old : Index) (slot : ℕ) (recs : List ℕ) → ((r : ℕ) → names old r slot ≡ false) → IsNoting c mask old slot recs 0 old
noting_starts c mask old slot recs free = record { others = λ r s ne. refl; own = λ r. free r }

pub noted_within : (c : ChannelView) (mask : FinSet nat_cmp) (old new : Index) (slot : ℕ) (recs : List ℕ) (i : ℕ) → IsNoting c mask old slot recs i new → (r : ℕ) → c.triggers r ≡ empty → names new r slot ≡ false
noted_within c mask old new slot recs i n r none = n.own r ∙ ap (λ (b : Bool). is_one_of (take i recs) r && b) (untriggered c mask r none) ∙ both (is_one_of (take i recs) r)
  where
    both : (a : Bool) → (a && false) ≡ false
    both true = refl
    both false = refl

pub noted_all : (c : ChannelView) (mask : FinSet nat_cmp) (old new : Index) (slot : ℕ) (recs : List ℕ) (i : ℕ) → IsNoting c mask old slot recs i new → take i recs ≡ recs
    → ((r : ℕ) → is_one_of recs r ≡ false → c.triggers r ≡ empty) → (r : ℕ) → names new r slot ≡ wants c mask r
noted_all c mask old new slot recs i n whole tells r = n.own r ∙ ap (λ (l : List ℕ). is_one_of l r && wants c mask r) whole ∙ step (is_one_of recs r) refl
  where
    step : (b : Bool) → is_one_of recs r ≡ b → (b && wants c mask r) ≡ wants c mask r
    step true e = refl
    step false e = sym (untriggered c mask r (tells r e))

-- The slot is taken from the lists of the first records.
pub record IsForgetting (old : Index) (slot : ℕ) (recs : List ℕ) (i : ℕ) (new : Index) : Type 0 where
  pub others : OthersStay old slot new
  pub own : (r : ℕ) → names new r slot ≡ (not (is_one_of (take i recs) r) && names old r slot)

pub forgetting_starts : (old : Index) (slot : ℕ) (recs : List ℕ) → IsForgetting old slot recs 0 old
forgetting_starts old slot recs = record { others = λ r s ne. refl; own = λ r. refl }

pub forgetting_step : (old now new : Index) (slot : ℕ) (recs : List ℕ) (i rec : ℕ) → slice_get recs i ≡ Some rec → IsForgetting old slot recs i now
    → ((r s : ℕ) → names new r s ≡ (not (eqb r rec && eqb s slot) && names now r s)) → IsForgetting old slot recs (i + 1) new
forgetting_step old now new slot recs i rec at f removed = record {
  others = λ r s ne. removed r s ∙ ap (λ (b : Bool). not (eqb r rec && b) && names now r s) (ne_eqb s slot ne) ∙ ap (λ (b : Bool). not b && names now r s) (both (eqb r rec)) ∙ f.others r s ne;
  own = λ r.
      removed r slot
      ∙ (λ j. not (eqb r rec && eq-eqb slot slot refl j) && f.own r j)
      ∙ step (eqb r rec) (is_one_of (take i recs) r) (names old r slot)
      ∙ sym (ap (λ (b : Bool). not b && names old r slot) (any_next (λ j. eqb r j) recs i rec at));
}
  where
    both : (a : Bool) → (a && false) ≡ false
    both true = refl
    both false = refl

    step : (b a o : Bool) → (not (b && true) && (not a && o)) ≡ (not (a || b) && o)
    step true true o = refl
    step true false o = refl
    step false true o = refl
    step false false o = refl

pub forgotten_all : (c : ChannelView) (old new : Index) (slot : ℕ) (recs : List ℕ) (i : ℕ) → IsForgetting old slot recs i new → take i recs ≡ recs
    → ((r : ℕ) → is_one_of recs r ≡ false → c.triggers r ≡ empty) → ((r : ℕ) → c.triggers r ≡ empty → names old r slot ≡ false) → (r : ℕ) → names new r slot ≡ false
forgotten_all c old new slot recs i f whole tells within r = f.own r ∙ ap (λ (l : List ℕ). not (is_one_of l r) && names old r slot) whole ∙ step (is_one_of recs r) refl
  where
    step : (b : Bool) → is_one_of recs r ≡ b → (not b && names old r slot) ≡ false
    step true e = refl
    step false e = within r (tells r e)

-- a fact of each result
pub ok_map : {X E P Q : Type 0} (r : Result X E) → (P → Q) → OnOk r P → OnOk r Q
ok_map (Ok x) f p = f p
ok_map (Err e) f p = tt

pub err_map : {X E P Q : Type 0} (r : Result X E) → (P → Q) → OnErr r P → OnErr r Q
err_map (Ok x) f p = tt
err_map (Err e) f p = f p
