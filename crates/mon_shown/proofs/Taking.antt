-- One slot after another is made ready, and takes what was made ready.
use Rattle.std.specs.Prelude.{◌≡◌, ◌≢◌, ◌&&◌, ℕ, ◌+◌, ◌≤◌, ◌<◌, Bool, true, false, cond, List, [], ◌∷◌, ◌++◌, length, Option, None, Some, is_none, refl}
use Rattle.std.proofs.Common.{sym, ◌∙◌, ap, subst, arith, eqb, inl, inr}
use Rattle.std.proofs.lemmas.Bool.{eqb-true, eq-eqb, ne_eqb, false≢true, cases_lt}
use Rattle.rec_kinds.specs.declared.state.RecState.{RecState}
use Rattle.journal_core.specs.declared.entry.Entry.{Entry}
use Rattle.mon_shown.specs.Channels.{ChannelView}
use Rattle.mon_shown.specs.Readies.{found_for, are_apart}
use Rattle.mon_shown.specs.Slots.{slot_of, slot_in, SlotMay, SlotReady, SlotTook}
use Rattle.mon_shown.specs.declared.watching.Watching.{Watching}
use Rattle.mon_shown.specs.declared.watching.Ready.{Ready}
use Rattle.mon_shown.specs.declared.subscriptions.Subscriptions.{Subscriptions}
use Rattle.mon_shown.proofs.Standing.{at_past, not_both}

-- behind a list that doesn't have the slot
pub found_last : (s k : ℕ) (r : Ready) (xs : List (ℕ × Ready)) → found_for s xs ≡ None → found_for s (xs ++ (k, r) ∷ []) ≡ cond (eqb k s) (Some r) None
found_last s k r [] h = refl
found_last s k r (x ∷ xs) h = step (eqb x.0 s) refl (found_last s k r xs)
  where
    step : (b : Bool) → eqb x.0 s ≡ b → (found_for s xs ≡ None → found_for s (xs ++ (k, r) ∷ []) ≡ cond (eqb k s) (Some r) None)
        → cond b (Some x.1) (found_for s (xs ++ (k, r) ∷ [])) ≡ cond (eqb k s) (Some r) None
    step true e f = absurd (not_both (ap (λ (b : Bool). cond b (Some x.1) (found_for s xs)) (sym e) ∙ h) refl)
    step false e f = f (ap (λ (b : Bool). cond b (Some x.1) (found_for s xs)) (sym e) ∙ h)

-- a list that has it goes on having it
pub found_still : (s k : ℕ) (r z : Ready) (xs : List (ℕ × Ready)) → found_for s xs ≡ Some z → found_for s (xs ++ (k, r) ∷ []) ≡ Some z
found_still s k r z [] h = absurd (not_both refl h)
found_still s k r z (x ∷ xs) h = step (eqb x.0 s) refl (found_still s k r z xs)
  where
    step : (b : Bool) → eqb x.0 s ≡ b → (found_for s xs ≡ Some z → found_for s (xs ++ (k, r) ∷ []) ≡ Some z) → cond b (Some x.1) (found_for s (xs ++ (k, r) ∷ [])) ≡ Some z
    step true e f = ap (λ (b : Bool). cond b (Some x.1) (found_for s xs)) (sym e) ∙ h
    step false e f = f (ap (λ (b : Bool). cond b (Some x.1) (found_for s xs)) (sym e) ∙ h)

pub found_else : (s k : ℕ) (r : Ready) (xs : List (ℕ × Ready)) → (s ≡ k → ⊥) → found_for s (xs ++ (k, r) ∷ []) ≡ found_for s xs
found_else s k r [] ne = ap (λ (b : Bool). cond b (Some r) None) (ne_eqb k s (λ e. ne (sym e)))
found_else s k r (x ∷ xs) ne = ap (λ (o : Option Ready). cond (eqb x.0 s) (Some x.1) o) (found_else s k r xs ne)

pub found_own : (k : ℕ) (r : Ready) (xs : List (ℕ × Ready)) → found_for k xs ≡ None → found_for k (xs ++ (k, r) ∷ []) ≡ Some r
found_own k r xs h = found_last k k r xs h ∙ ap (λ (b : Bool). cond b (Some r) None) (eq-eqb k k refl)

-- whether slots stand apart
pub apart_more : (k : ℕ) (r : Ready) (xs : List (ℕ × Ready)) → are_apart xs ≡ true → found_for k xs ≡ None → are_apart (xs ++ (k, r) ∷ []) ≡ true
apart_more k r [] a h = refl
apart_more k r (x ∷ xs) a h = step (eqb x.0 k) refl (apart_more k r xs)
  where
    both : (b c : Bool) → (b && c) ≡ true → (b ≡ true) × (c ≡ true)
    both true c e = (refl, e)
    both false c e = absurd (false≢true e)

    step : (b : Bool) → eqb x.0 k ≡ b → (are_apart xs ≡ true → found_for k xs ≡ None → are_apart (xs ++ (k, r) ∷ []) ≡ true) → are_apart ((x ∷ xs) ++ (k, r) ∷ []) ≡ true
    step true e f = absurd (not_both (ap (λ (b : Bool). cond b (Some x.1) (found_for k xs)) (sym e) ∙ h) refl)
    step false e f =
        let parts = both (is_none (found_for x.0 xs)) (are_apart xs) a in
        let other : found_for x.0 (xs ++ (k, r) ∷ []) ≡ found_for x.0 xs = found_else x.0 k r xs (λ z. false≢true (sym e ∙ eq-eqb x.0 k z)) in
        let rest = f parts.1 (ap (λ (b : Bool). cond b (Some x.1) (found_for k xs)) (sym e) ∙ h) in
        (λ i. is_none (other i) && rest i) ∙ ap (λ (b : Bool). b && true) parts.0

pub apart_less : (k : ℕ) (r : Ready) (xs : List (ℕ × Ready)) → are_apart (xs ++ (k, r) ∷ []) ≡ true → (are_apart xs ≡ true) × (found_for k xs ≡ None)
apart_less k r [] a = (refl, refl)
apart_less k r (x ∷ xs) a = step (apart_less k r xs parts.1) (eqb x.0 k) refl
  where
    both : (b c : Bool) → (b && c) ≡ true → (b ≡ true) × (c ≡ true)
    both true c e = (refl, e)
    both false c e = absurd (false≢true e)

    is_no : (o : Option Ready) → is_none o ≡ true → o ≡ None
    is_no None e = refl
    is_no (Some z) e = absurd (false≢true e)

    parts : (is_none (found_for x.0 (xs ++ (k, r) ∷ [])) ≡ true) × (are_apart (xs ++ (k, r) ∷ []) ≡ true)
    parts = both (is_none (found_for x.0 (xs ++ (k, r) ∷ []))) (are_apart (xs ++ (k, r) ∷ [])) a

    step : (are_apart xs ≡ true) × (found_for k xs ≡ None) → (b : Bool) → eqb x.0 k ≡ b → (are_apart (x ∷ xs) ≡ true) × (found_for k (x ∷ xs) ≡ None)
    step rest true e =
        let here : x.0 ≡ k = eqb-true x.0 k e in
        let one : found_for x.0 (xs ++ (k, r) ∷ []) ≡ Some r = ap (λ (z : ℕ). found_for z (xs ++ (k, r) ∷ [])) here ∙ found_own k r xs rest.1 in
        absurd (not_both (is_no (found_for x.0 (xs ++ (k, r) ∷ [])) parts.0) one)
    step rest false e =
        let other : found_for x.0 (xs ++ (k, r) ∷ []) ≡ found_for x.0 xs = found_else x.0 k r xs (λ z. false≢true (sym e ∙ eq-eqb x.0 k z)) in (
          (λ i. is_none (sym other i) && rest.0 i) ∙ ap (λ (b : Bool). b && true) parts.0,
          ap (λ (b : Bool). cond b (Some x.1) (found_for k xs)) e ∙ rest.1,
        )

-- the slots below a start are made ready
pub record IsMaking {C : Type 0} (shows : C → ChannelView) (states : List RecState) (e : Entry) (subs : Subscriptions C) (start : ℕ) (made : List (ℕ × Ready)) : Type 0 where
  pub fresh : (s : ℕ) → start ≤ s → found_for s made ≡ None
  pub done : (s : ℕ) → s < start → SlotReady shows states e (slot_in subs s) (found_for s made)

module _ {C : Type 0} (shows : C → ChannelView) (states : List RecState) (e : Entry) (subs : Subscriptions C) where
  untouched_as : (s : ℕ) (o : Option Ready) → o ≡ None → SlotReady shows states e (slot_in subs s) None → SlotReady shows states e (slot_in subs s) o
  untouched_as s o is t = subst (SlotReady shows states e (slot_in subs s)) (sym is) t

  pub making_step : (start slot : ℕ) (made more : List (ℕ × Ready)) → IsMaking shows states e subs start made → start ≤ slot
      → ((s : ℕ) → start ≤ s → s < slot → SlotReady shows states e (slot_in subs s) None)
      → ((s : ℕ) → s ≢ slot → found_for s more ≡ found_for s made) → SlotReady shows states e (slot_in subs slot) (found_for slot more) → IsMaking shows states e subs (slot + 1) more
  making_step start slot made more m le between others own = record {
    fresh = λ s past. others s (λ z. omega (arith, z, past)) ∙ m.fresh s (omega (arith, past, le));
    done = λ s less. elim (cases_lt s slot) [
      | inl before ↦
          subst (SlotReady shows states e (slot_in subs s)) (sym (others s (λ z. omega (arith, z, before))))
          (elim (cases_lt s start) [
            | inl was ↦ m.done s was
            | inr from ↦ untouched_as s (found_for s made) (m.fresh s from) (between s from before)
          ])
      | inr after ↦ let here : slot ≡ s = omega (arith, less, after) in subst (λ (z : ℕ). SlotReady shows states e (slot_in subs z) (found_for z more)) here own
    ];
  }

  pub made_all : (start : ℕ) (made : List (ℕ × Ready)) → IsMaking shows states e subs start made
      → ((s : ℕ) → start ≤ s → s < length subs.slots.items → SlotReady shows states e (slot_in subs s) None) → (s : ℕ) → SlotReady shows states e (slot_in subs s) (found_for s made)
  made_all start made m rest s =
      elim (cases_lt s start) [
        | inl was ↦ m.done s was
        | inr from ↦ untouched_as s (found_for s made) (m.fresh s from) (elim (cases_lt s (length subs.slots.items)) [
          | inl inside ↦ rest s from inside
          | inr past ↦ subst (λ (o : Option (Watching C)). SlotReady shows states e o None) (sym (at_past subs.slots.items s past)) tt
        ])
      ]

  pub may_of : (o : Option (Watching C)) (r : Option Ready) → SlotReady shows states e o r → SlotMay o r
  may_of None r t = tt
  may_of (Some x) r t = t.may

-- what isn't left is taken
pub record IsTaking {C : Type 0} (old : List (Option (Watching C))) (all : List (ℕ × Ready)) (now : List (Option (Watching C))) (left : List (ℕ × Ready)) : Type 0 where
  pub apart : are_apart left ≡ true
  pub kept : (s : ℕ) (r : Ready) → found_for s left ≡ Some r → (found_for s all ≡ Some r) × (slot_of now s ≡ slot_of old s)
  pub took : (s : ℕ) → found_for s left ≡ None → SlotTook (slot_of old s) (found_for s all) (slot_of now s)

module _ {C : Type 0} where
  pub took_none : (o : Option (Watching C)) → SlotTook o None o
  took_none None = refl
  took_none (Some x) = record { shown_is = refl; unread_is = refl; size = refl; ty = refl; requested = refl; channel = refl }

  pub taking_starts : (old : List (Option (Watching C))) (all : List (ℕ × Ready)) → are_apart all ≡ true → IsTaking old all old all
  taking_starts old all apart = record {
    apart = apart;
    kept = λ s r is. (is, refl);
    took = λ s none. subst (λ (o : Option Ready). SlotTook (slot_of old s) o (slot_of old s)) (sym none) (took_none (slot_of old s));
  }

  module _ (old now new : List (Option (Watching C))) (all left more : List (ℕ × Ready)) (k : ℕ) (r : Ready) (t : IsTaking old all now left) (is : left ≡ more ++ (k, r) ∷ []) where
    apart : (are_apart more ≡ true) × (found_for k more ≡ None)
    apart = apart_less k r more (ap are_apart (sym is) ∙ t.apart)

    here : found_for k left ≡ Some r
    here = ap (found_for k) is ∙ found_own k r more apart.1

    pub may_take : ((s : ℕ) → SlotMay (slot_of old s) (found_for s all)) → SlotMay (slot_of now k) (Some r)
    may_take may =
        let there = t.kept k r here in
        subst (λ (o : Option (Watching C)). SlotMay o (Some r)) (sym there.1) (subst (λ (o : Option Ready). SlotMay (slot_of old k) o) there.0 (may k))

    pub taking_step : SlotTook (slot_of now k) (Some r) (slot_of new k) → ((s : ℕ) → s ≢ k → slot_of new s ≡ slot_of now s) → IsTaking old all new more
    taking_step own others = record {
      apart = apart.0;
      kept = λ s z found.
          let was = t.kept s z (ap (found_for s) is ∙ found_still s k r z more found) in
          (was.0, others s (λ e. not_both apart.1 (ap (λ (n : ℕ). found_for n more) (sym e) ∙ found)) ∙ was.1);
      took = λ s none. step s none (eqb s k) refl;
    }
      where
        step : (s : ℕ) → found_for s more ≡ None → (b : Bool) → eqb s k ≡ b → SlotTook (slot_of old s) (found_for s all) (slot_of new s)
        step s none true e =
            let there = t.kept k r here in
            subst (λ (n : ℕ). SlotTook (slot_of old n) (found_for n all) (slot_of new n)) (sym (eqb-true s k e))
            (subst (λ (o : Option Ready). SlotTook (slot_of old k) o (slot_of new k)) (sym there.0)
            (subst (λ (o : Option (Watching C)). SlotTook o (Some r) (slot_of new k)) there.1 own))
        step s none false e =
            let ne : s ≡ k → ⊥ = λ z. false≢true (sym e ∙ eq-eqb s k z) in
            subst (SlotTook (slot_of old s) (found_for s all)) (sym (others s ne)) (t.took s (ap (found_for s) is ∙ found_else s k r more ne ∙ none))

  pub taken_all : (old now : List (Option (Watching C))) (all : List (ℕ × Ready)) → IsTaking old all now [] → (s : ℕ) → SlotTook (slot_of old s) (found_for s all) (slot_of now s)
  taken_all old now all t s = t.took s refl

pub apart_pushed : (b : Bool) (k : ℕ) (r : Ready) (old new : List (ℕ × Ready)) → new ≡ cond b (old ++ (k, r) ∷ []) old → are_apart old ≡ true → found_for k old ≡ None → are_apart new ≡ true
apart_pushed true k r old new e a h = ap are_apart e ∙ apart_more k r old a h
apart_pushed false k r old new e a h = ap are_apart e ∙ a

pub none_left : {X : Type 0} (xs : List X) → length xs ≡ 0 → xs ≡ []
none_left [] e = refl
none_left (x ∷ xs) e = absurd (omega (arith, e))
