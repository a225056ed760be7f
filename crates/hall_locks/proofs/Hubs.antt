-- The hub is taken.
use Rattle.std.proofs.Common.{◌≡◌, ℕ, suc, ◌<◌, ◌≤◌, ◌≢◌, eqb, true, false, List, [], ◌∷◌, length, get_or, set, sym, refl, ◌∙◌, subst, arith, length-set, eq-eqb, ne_eqb}
use mathlib.Core.Logic.{dite}
use mathlib.Core.Option.{none, some}
use native.Mathlib.Decide.{ℕ_discrete}
use lib.ListN.{get_elem?}
use prog.Atomic.{either}
use Rattle.atomic_table.specs.Table.{State, Me, step, keeps, takes, stepped, Allows}
use Rattle.atomic_table.proofs.Lists.{set_else}
use Rattle.hall_core.specs.Meanings.{AreDistinct, Meaning, Pairs}
use Rattle.histories.specs.History.{IsLegalAfter, entries_of, deeds_by}
use Rattle.hall_locks.specs.declared.view.View.{View}
use Rattle.hall_locks.specs.declared.view.Place.{Place}
use Rattle.hall_locks.specs.declared.view.Place.TheVariants.{Hub}
use Rattle.hall_locks.specs.Hall.{with_hub, shown_by, numbers_of, IsHub, InHand}
use Rattle.hall_locks.specs.Hands.{Found}
use Rattle.hall_locks.specs.Steps.{TakesHub}
use Rattle.histories.proofs.Judged.{every_weaken}
use Rattle.hall_locks.proofs.Lists.{held_by, held_here, held_else}
use Rattle.hall_locks.proofs.Floors.{floor_takes_hub}
use Rattle.hall_locks.proofs.Rules.{Rule, moved, unmoved, awaited, hub_in_hand}
use Rattle.histories.proofs.Stories.{begins_self}

module _ (C H E B M R S : Type 0) (law : Meaning C H E B M R S) (base : B) (slots id : ℕ) (inside : 0 < slots) where
  abbrev Vw : Type 0
  Vw = View H E B M R S

  abbrev Pl : Type 0
  Pl = Place C H

  abbrev Rl : State Pl Vw → Type 0
  Rl = Rule C H E B M R S law base

  takes_free : (n : ℕ) → n ≢ 0 → n ≤ 2 → (s : State Pl Vw) (r : Rl s) (v : Vw) (cs : List (ℕ × Pl)) → length s.homes ≡ slots → get_elem? s.views id ≡ some v → get_or s.words 0 0 ≡ 0 → v.live ≡ true
      → (h : H) × (get_elem? s.homes 0 ≡ some (some (Hub h))) × Rl (stepped s 0 n id cs (with_hub v r.journal h) (takes 0 (Hub h))) × Found law v r.journal h
  takes_free n taken two s r v cs long at zero_now live =
      let in_words : 0 < length s.words = omega (arith, r.wide) in
      let h = r.hub_home in_words zero_now in
      let nobody : r.holder 0 ≡ 0 = r.free 0 in_words zero_now in
      let holder' : ℕ → ℕ = held_by r.holder 0 (suc id) in
      let w : Vw = with_hub v r.journal h.value in
      let was = r.each id v at in
      let own = was.own live in (
        h.value,
        h.there,
        moved C H E B M R S law base s r 0 n (suc id) (set s.homes 0 none) in_words (λ i ne. set_else s.homes 0 i none ne) id v w at record { live = refl; number = refl; others = refl } (λ t. t) (λ t e. refl) (length-set s.homes 0 none)
            (λ e. absurd (taken e)) (λ _. (two, omega arith)) (λ d e _. absurd (omega arith)) (λ _ e. absurd (taken e)) (λ j _ e. let z : suc j ≡ 0 = sym e ∙ nobody in omega arith) (λ i ne a. hub_in_hand C H E B M R S law base v r.journal h.value i ne a) (λ _. (refl, (h.value, refl)))
            (floor_takes_hub C H E B M R S law base (length s.words) r.journal r.holder id nobody r.floor)
            record {
              seen = λ _. begins_self r.journal;
              old = tt;
              own = was.own;
              did = λ _. refl;
              had = λ _. tt;
              others = was.others;
              distinct = was.distinct;
              before = was.before;
              unborn = was.unborn;
              cells = every_weaken (InHand law r.journal r.holder v.bound id) (InHand law r.journal holder' v.bound id) v.cells
                  (λ p i. record { held = held_else r.holder 0 (suc id) (suc p.0) (λ e. omega arith) ∙ i.held; bounded = i.bounded; value = i.value }) was.cells;
              falls = was.falls;
              hub = λ x is. let e : h.value ≡ x = cc is in record { held = held_here r.holder 0 (suc id) 0 refl; whole = refl; hub = subst (λ y. IsHub law r.journal r.logs y) e h.hub };
              empty = λ dead. let e : true ≡ false = sym live ∙ dead in absurd (cc e);
            },
        record {
          goes_on = was.seen own.2;
          base = h.hub.base;
          entries = h.hub.entries;
          own = subst (λ (z : ℕ × List M). law.keeps h.value r.journal z.0 z.1) (λ i. (sym own.0 i, sym own.1 i)) (h.hub.keeps id);
          logged = subst (λ (z : ℕ × List M). Pairs law.adds law.fits z.1 (deeds_by z.0 r.journal.deeds)) (λ i. (sym own.0 i, sym own.1 i)) (r.pairs id);
          legal = subst (λ g. IsLegalAfter (law.may_follow g) [] (entries_of r.journal.deeds)) (sym r.same_base) r.legal;
          shown = every_weaken (InHand law r.journal r.holder v.bound id) (λ p. p.1 ≡ shown_by law r.journal p.0) v.cells (λ p i. i.value) was.cells;
          did = subst (λ k. deeds_by k r.journal.deeds ≡ deeds_by k v.seen.deeds) (sym own.0) (sym (was.did live));
          distinct = subst (λ n. AreDistinct (n ∷ numbers_of v.others)) (sym own.0) was.distinct;
          others_logged = every_weaken (λ (p : ℕ × List M). (p.1 ≡ r.logs p.0) × (r.keeper p.0 ≡ suc id)) (λ (p : ℕ × List M). Pairs law.adds law.fits p.1 (deeds_by p.0 r.journal.deeds)) v.others
              (λ p is. subst (λ log. Pairs law.adds law.fits log (deeds_by p.0 r.journal.deeds)) (sym is.0) (r.pairs p.0)) was.others;
        },
      )

  pub takes_hub : (me : Me Pl Vw) → me.0.live ≡ true → Allows Rl slots id me 0 (λ n. either (eqb n 0) 1 n) (TakesHub law (step slots 0 0 1 none) me)
  takes_hub me live s r long at small = let n : ℕ = get_or s.words 0 0 in dite (ℕ_discrete n 0)
      (λ hit. let t = takes_free 1 (λ e. omega arith) (omega arith) s r me.0 me.1 long at hit live in (
        with_hub me.0 r.journal t.0,
        takes 0 (Hub t.0),
        t.1,
        subst (λ b. Rl (stepped s 0 (either b 1 n) id me.1 (with_hub me.0 r.journal t.0) (takes 0 (Hub t.0)))) (sym (eq-eqb n 0 hit)) t.2,
        ((λ _. record { hub = t.0; seen = r.journal; now = refl; found = t.3 }), λ miss. absurd (miss hit)),
      ))
      (λ miss. (
        me.0,
        keeps,
        tt,
        subst (λ b. Rl (stepped s 0 (either b 1 n) id me.1 me.0 keeps)) (sym (ne_eqb n 0 miss)) (unmoved C H E B M R S law base s r 0 id me.0 me.1 at),
        ((λ hit. absurd (miss hit)), λ _. refl),
      ))

  -- the same by a step after which the word says that somebody may wait
  pub takes_hub_waiting : (me : Me Pl Vw) → me.0.live ≡ true → Allows Rl slots id me 0 (λ _. 2) (TakesHub law (step slots 0 2 0 none) me)
  takes_hub_waiting me live s r long at small = let n : ℕ = get_or s.words 0 0 in dite (ℕ_discrete n 0)
      (λ hit. let t = takes_free 2 (λ e. omega arith) (omega arith) s r me.0 me.1 long at hit live in (
        with_hub me.0 r.journal t.0,
        takes 0 (Hub t.0),
        t.1,
        t.2,
        ((λ _. record { hub = t.0; seen = r.journal; now = refl; found = t.3 }), λ miss. absurd (miss hit)),
      ))
      (λ miss. (
        me.0,
        keeps,
        tt,
        awaited C H E B M R S law base s r 0 id me.0 me.1 at (omega (arith, r.wide)) miss,
        ((λ hit. absurd (miss hit)), λ _. refl),
      ))
