-- The subscriptions stand through beginnings, endings, pops and entries.
use Rattle.std.specs.Prelude.{◌≡◌, ◌&&◌, ◌||◌, ℕ, zero, suc, ◌≤◌, ◌<◌, Bool, true, false, List, [], ◌∷◌, ◌++◌, length, Option, None, Some, is_some, refl}
use Rattle.std.proofs.Common.{sym, ◌∙◌, ap, subst, arith, eqb, inl, inr}
use Rattle.std.proofs.Math.Path.{fun_ext}
use Rattle.std.specs.List.{fold, list_any}
use Rattle.std.proofs.lemmas.Bool.{eqb-true, eq-eqb, false≢true, true≢false, cases_lt}
use Rattle.std.specs.Ordering.{nat_cmp}
use Rattle.std.specs.FinSet.{FinSet, contains, empty, union, intersection}
use Rattle.rec_kinds.specs.declared.state.RecState.{RecState}
use Rattle.journal_core.specs.declared.entry.Entry.{Entry}
use Rattle.mon_queue.specs.Unread.{type_of}
use Rattle.mon_queue.specs.declared.update.Update.{Update}
use Rattle.mon_queue.proofs.Merging.{same, in_both, in_none, in_union}
use Rattle.mon_shown.specs.Channels.{ChannelView}
use Rattle.mon_shown.specs.Keeping.{IsOf}
use Rattle.mon_shown.specs.Noting.{names, wants, OthersStay}
use Rattle.mon_shown.specs.Slots.{slot_of, slot_in, is_concerned, Stand, SlotReady, SlotTook, OtherSlotsStay, SlotPopped}
use Rattle.mon_shown.specs.declared.index.Index.{Index}
use Rattle.mon_shown.specs.declared.watching.Watching.{Watching}
use Rattle.mon_shown.specs.declared.watching.Ready.{Ready}
use Rattle.mon_shown.specs.declared.subscriptions.Subscriptions.{Subscriptions}
use Rattle.mon_shown.proofs.Kept.{ready_untouched}
use Rattle.mon_shown.proofs.Listing.{none_wanted}

pub some_is : {X : Type 0} {x y : X} {o : Option X} → o ≡ Some x → o ≡ Some y → x ≡ y
some_is {X} {x} {y} {o} p q = let e : Some x ≡ Some y = sym p ∙ q in let same : x ≡ y = cc in same

pub not_both : {X : Type 0} {x : X} {o : Option X} → o ≡ None → o ≡ Some x → ⊥
not_both {X} {x} {o} p q = true≢false (ap is_some (sym q) ∙ ap is_some p)

pub none_of : {X : Type 0} (o : Option X) → is_some o ≡ false → o ≡ None
none_of None h = refl
none_of (Some x) h = absurd (true≢false h)

pub at_past : {X : Type 0} (xs : List (Option X)) (s : ℕ) → length xs ≤ s → slot_of xs s ≡ None
at_past [] s le = refl
at_past (x ∷ xs) zero le = absurd (omega (arith, le))
at_past (x ∷ xs) (suc s) le = at_past xs s (omega (arith, le))

pub at_end : {X : Type 0} (xs : List (Option X)) (s : ℕ) → slot_of (xs ++ None ∷ []) s ≡ slot_of xs s
at_end [] zero = refl
at_end [] (suc s) = refl
at_end (x ∷ xs) zero = refl
at_end (x ∷ xs) (suc s) = at_end xs s

module _ {C : Type 0} where
  -- what a slot holds is of the same kind
  abbrev pub SameKind : Option (Watching C) → Option (Watching C) → Type 0
  SameKind None y = y ≡ None
  SameKind (Some x) None = ⊥
  SameKind (Some x) (Some y) = (y.channel ≡ x.channel) × (y.requested ≡ x.requested) × (type_of y.queue ≡ type_of x.queue)

  pub took_kind : (x y : Option (Watching C)) (r : Option Ready) → SlotTook x r y → SameKind x y
  took_kind None y r t = t
  took_kind (Some x) None r t = absurd t
  took_kind (Some x) (Some y) r t = (t.channel, t.requested, t.ty)

  pub popped_kind : (x y : Option (Watching C)) (u : Option Update) → SlotPopped x u y → SameKind x y
  popped_kind None y u t = t.1
  popped_kind (Some x) None u t = absurd t
  popped_kind (Some x) (Some y) u t = (t.channel, t.requested, t.ty)

  pub same_kind : (x : Option (Watching C)) → SameKind x x
  same_kind None = refl
  same_kind (Some x) = (refl, refl, refl)

  -- where one slot changes
  pub kinds_at : (old new : List (Option (Watching C))) (slot : ℕ) → SameKind (slot_of old slot) (slot_of new slot) → ((s : ℕ) → (s ≡ slot → ⊥) → slot_of new s ≡ slot_of old s) → (s : ℕ) → SameKind (slot_of old s) (slot_of new s)
  kinds_at old new slot here others s = step (eqb s slot) refl
    where
      step : (b : Bool) → eqb s slot ≡ b → SameKind (slot_of old s) (slot_of new s)
      step true e = subst (λ (n : ℕ). SameKind (slot_of old n) (slot_of new n)) (sym (eqb-true s slot e)) here
      step false e = subst (SameKind (slot_of old s)) (sym (others s (λ z. false≢true (sym e ∙ eq-eqb s slot z)))) (same_kind (slot_of old s))

  pub kinds_stay : (old new : List (Option (Watching C))) → ((s : ℕ) → slot_of new s ≡ slot_of old s) → (s : ℕ) → SameKind (slot_of old s) (slot_of new s)
  kinds_stay old new stay s = subst (SameKind (slot_of old s)) (sym (stay s)) (same_kind (slot_of old s))

  module _ (has : C → Bool) (shows : C → ChannelView) where
    kind_of : (o p : Option (Watching C)) → SameKind o p → ((x : Watching C) → o ≡ Some x → IsOf has shows x) → (y : Watching C) → p ≡ Some y → IsOf has shows y
    kind_of None p k f y is = absurd (not_both k is)
    kind_of (Some x) None k f y is = absurd (not_both refl is)
    kind_of (Some x) (Some z) k f y is =
        let old = f x refl in
        subst (IsOf has shows) (some_is refl is) (record {
          there = ap has k.0 ∙ old.there;
          ty = k.2 ∙ old.ty ∙ ap (λ (c : C). (shows c).ty) (sym k.0);
        })

    kind_concerned : (rec : ℕ) (o p : Option (Watching C)) → SameKind o p → is_concerned shows rec o ≡ is_concerned shows rec p
    kind_concerned rec None p k = ap (is_concerned shows rec) (sym k)
    kind_concerned rec (Some x) None k = absurd k
    kind_concerned rec (Some x) (Some y) k = λ i. wants (shows (sym k.0 i)) (sym k.1 i) rec

    pub stand_kept : (old new : Subscriptions C) → new.index ≡ old.index → ((s : ℕ) → SameKind (slot_in old s) (slot_in new s)) → Stand has shows old → Stand has shows new
    stand_kept old new index kinds t = record {
      is_of = λ s. kind_of (slot_in old s) (slot_in new s) (kinds s) (t.is_of s);
      listed = λ s rec. ap (λ (ix : Index). names ix rec s) index ∙ t.listed s rec ∙ kind_concerned rec (slot_in old s) (slot_in new s) (kinds s);
    }

    module _ (old new : Subscriptions C) (slot : ℕ) (t : Stand has shows old) (index : OthersStay old.index slot new.index) (slots : OtherSlotsStay old slot new) where
      -- at the slot, and at each other
      both : (P : ℕ → Type 0) → P slot → ((s : ℕ) → (s ≡ slot → ⊥) → P s) → (s : ℕ) → P s
      both P here else s = step (eqb s slot) refl
        where
          step : (b : Bool) → eqb s slot ≡ b → P s
          step true e = subst P (sym (eqb-true s slot e)) here
          step false e = else s (λ z. false≢true (sym e ∙ eq-eqb s slot z))

      of_others : (s : ℕ) → (s ≡ slot → ⊥) → (x : Watching C) → slot_in new s ≡ Some x → IsOf has shows x
      of_others s ne x is = t.is_of s x (sym (slots s ne) ∙ is)

      listed_others : (s : ℕ) → (s ≡ slot → ⊥) → (rec : ℕ) → names new.index rec s ≡ is_concerned shows rec (slot_in new s)
      listed_others s ne rec = index rec s ne ∙ t.listed s rec ∙ ap (is_concerned shows rec) (sym (slots s ne))

      -- one more subscription
      pub stand_filled : (x : Watching C) → slot_in new slot ≡ Some x → IsOf has shows x → ((rec : ℕ) → names new.index rec slot ≡ wants (shows x.channel) x.requested rec) → Stand has shows new
      stand_filled x there of noted = record {
        is_of = both (λ s. (y : Watching C) → slot_in new s ≡ Some y → IsOf has shows y) (λ y is. subst (IsOf has shows) (some_is there is) of) of_others;
        listed = both (λ s. (rec : ℕ) → names new.index rec s ≡ is_concerned shows rec (slot_in new s)) (λ rec. noted rec ∙ ap (is_concerned shows rec) (sym there)) listed_others;
      }

      -- one fewer
      pub stand_freed : slot_in new slot ≡ None → ((rec : ℕ) → names new.index rec slot ≡ false) → Stand has shows new
      stand_freed there gone = record {
        is_of = both (λ s. (y : Watching C) → slot_in new s ≡ Some y → IsOf has shows y) (λ y is. absurd (not_both there is)) of_others;
        listed = both (λ s. (rec : ℕ) → names new.index rec s ≡ is_concerned shows rec (slot_in new s)) (λ rec. gone rec ∙ ap (is_concerned shows rec) (sym there)) listed_others;
      }

    -- under the records of a free slot nothing is listed
    pub free_unlisted : (subs : Subscriptions C) (slot : ℕ) → Stand has shows subs → slot_in subs slot ≡ None → (rec : ℕ) → names subs.index rec slot ≡ false
    free_unlisted subs slot t free rec = t.listed slot rec ∙ ap (is_concerned shows rec) free

    pub listed_for : (subs : Subscriptions C) (slot : ℕ) (x : Watching C) → Stand has shows subs → slot_in subs slot ≡ Some x → (rec : ℕ) → names subs.index rec slot ≡ wants (shows x.channel) x.requested rec
    listed_for subs slot x t there rec = t.listed slot rec ∙ ap (is_concerned shows rec) there

pub within_slots : {X : Type 0} (xs : List (Option X)) (s : ℕ) (x : X) → slot_of xs s ≡ Some x → s < length xs
within_slots xs s x there =
    elim (cases_lt s (length xs)) [
      | inl less ↦ less
      | inr past ↦ absurd (not_both (at_past xs s past) there)
    ]

pub others_trans : (a b c : Index) (slot : ℕ) → OthersStay a slot b → OthersStay b slot c → OthersStay a slot c
others_trans a b c slot p q r s ne = q r s ne ∙ p r s ne

-- an entry whose records trigger nothing that is asked for
joined_apart : (a t mask : FinSet nat_cmp) → intersection a mask ≡ empty → intersection t mask ≡ empty → intersection (union a t) mask ≡ empty
joined_apart a t mask p q = same (intersection (union a t) mask) empty (λ k.
    in_both (union a t) mask k
    ∙ ap (λ (b : Bool). b && contains mask k) (in_union a t k)
    ∙ step (contains a k) (contains t k) (contains mask k) (out a p k) (out t q k)
    ∙ sym (in_none k))
  where
    out : (s : FinSet nat_cmp) → intersection s mask ≡ empty → (k : ℕ) → (contains s k && contains mask k) ≡ false
    out s h k = sym (in_both s mask k) ∙ ap (λ (z : FinSet nat_cmp). contains z k) h ∙ in_none k

    step : (x y m : Bool) → (x && m) ≡ false → (y && m) ≡ false → ((x || y) && m) ≡ false
    step true y m h g = h
    step false y m h g = g

first_false : (a b : Bool) → (a || b) ≡ false → (a ≡ false) × (b ≡ false)
first_false true b h = absurd (true≢false h)
first_false false b h = (refl, h)

untouched_from : (c : ChannelView) (mask : FinSet nat_cmp) (writes : List (ℕ × RecState)) (acc : FinSet nat_cmp) → intersection acc mask ≡ empty → list_any (λ w. wants c mask w.0) writes ≡ false
    → intersection (fold (λ leaves w. union leaves (c.triggers w.0)) acc writes) mask ≡ empty
untouched_from c mask [] acc h none = h
untouched_from c mask (w ∷ writes) acc h none =
    let parts = first_false (wants c mask w.0) (list_any (λ v. wants c mask v.0) writes) none in
    untouched_from c mask writes (union acc (c.triggers w.0)) (joined_apart acc (c.triggers w.0) mask h (none_wanted c mask w.0 parts.0)) parts.1

nothing_apart : (mask : FinSet nat_cmp) → intersection empty mask ≡ empty
nothing_apart mask = same (intersection empty mask) empty (λ k. in_both empty mask k ∙ ap (λ (b : Bool). b && contains mask k) (in_none k) ∙ sym (in_none k))

pub unconcerned : {C : Type 0} (has : C → Bool) (shows : C → ChannelView) (states : List RecState) (e : Entry) (subs : Subscriptions C) → Stand has shows subs
    → (s : ℕ) → list_any (λ w. names subs.index w.0 s) e.writes ≡ false → SlotReady shows states e (slot_in subs s) None
unconcerned {C} has shows states e subs t s none = step (slot_in subs s) refl
  where
    step : (o : Option (Watching C)) → slot_in subs s ≡ o → SlotReady shows states e o None
    step None is = tt
    step (Some x) is = ready_untouched shows states e x
        (untouched_from (shows x.channel) x.requested e.writes empty (nothing_apart x.requested)
        (ap (λ (p : ℕ × RecState → Bool). list_any p e.writes) (fun_ext (λ w. sym (t.listed s w.0 ∙ ap (is_concerned shows w.0) is))) ∙ none))
