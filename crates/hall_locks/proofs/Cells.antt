-- A cell is taken, and given back.
use Rattle.std.proofs.Common.{◌≡◌, ℕ, suc, ◌*◌, ◌<◌, ◌≤◌, ◌≢◌, eqb, true, false, List, [], ◌∷◌, length, get_or, set, sym, refl, ap, ◌∙◌, subst, arith, length-set, eq-eqb, ne_eqb, Some, None}
use mathlib.Core.Logic.{dite}
use mathlib.Core.Option.{none, some}
use native.Mathlib.Decide.{ℕ_discrete}
use lib.ListN.{get_elem?}
use prog.Atomic.{either}
use Rattle.atomic_table.specs.Table.{State, Me, step, keeps, takes, gives, stepped, Allows, rest}
use Rattle.atomic_table.proofs.Lists.{set_here, set_else}
use Rattle.hall_core.specs.Meanings.{Meaning, Among}
use Rattle.histories.specs.History.{Every, IsLegalAfter, entries_of}
use Rattle.hall_locks.specs.declared.view.View.{View}
use Rattle.hall_locks.specs.declared.view.Place.{Place}
use Rattle.hall_locks.specs.declared.view.Place.TheVariants.{Away, Cell}
use Rattle.hall_locks.specs.Hall.{with_cell, with_cells, WasShown, shown_by, InHand, Falls}
use Rattle.hall_locks.specs.Lines.{word_at}
use Rattle.hall_locks.specs.Steps.{MayTake, TookCell, TakesCell, GivesCell}
use Rattle.hall_locks.proofs.Lists.{every_both, held_by, held_here, held_else}
use Rattle.hall_locks.proofs.Floors.{floor_takes, floor_gives}
use Rattle.hall_locks.proofs.Deeds.{every_among}
use Rattle.hall_locks.proofs.Rules.{Rule, has_it, no_hub_of, moved, unmoved, awaited, more_in_hand, less_in_hand}

module _ (C H E B M R S : Type 0) (law : Meaning C H E B M R S) (base : B) (slots id c : ℕ) (inside : suc c < slots) where
  abbrev Vw : Type 0
  Vw = View H E B M R S

  abbrev Pl : Type 0
  Pl = Place C H

  abbrev Rl : State Pl Vw → Type 0
  Rl = Rule C H E B M R S law base

  takes_free : (n : ℕ) → n ≢ 0 → n ≤ 2 → (bound : List ℕ) (s : State Pl Vw) (r : Rl s) (v : Vw) (cs : List (ℕ × Pl)) → length s.homes ≡ slots → get_elem? s.views id ≡ some v → get_or s.words (suc c) 0 ≡ 0 → v.live ≡ true → MayTake v bound c
      → (x : C) × (get_elem? s.homes (suc c) ≡ some (some (Cell x))) × Rl (stepped s (suc c) n id cs (with_cell v bound c (law.shows x)) (takes (suc c) (Cell x))) × WasShown law v.seen.base (c, law.shows x)
  takes_free n taken two bound s r v cs long at zero_now live may =
      let in_words : suc c < length s.words = omega (arith, r.wide) in
      let h = r.home c in_words zero_now in
      let nobody : r.holder (suc c) ≡ 0 = r.free (suc c) in_words zero_now in
      let holder' : ℕ → ℕ = held_by r.holder (suc c) (suc id) in
      let w : Vw = with_cell v bound c (law.shows h.value) in
      let was = r.each id v at in
      let goes_on = was.seen (was.own live).2 in (
        h.value,
        h.there,
        moved C H E B M R S law base s r (suc c) n (suc id) (set s.homes (suc c) none) in_words (λ i ne. set_else s.homes (suc c) i none ne) id v w at record { live = refl; number = refl; others = refl } (λ t. t) (λ t e. e) (length-set s.homes (suc c) none)
            (λ e. absurd (taken e)) (λ _. (two, omega arith)) (λ d _ e. absurd (taken e)) (λ e _. absurd (omega arith)) (λ j _ e. let z : suc j ≡ 0 = sym e ∙ nobody in omega arith) (λ i _ a. more_in_hand C H E B M R S law base v bound c (law.shows h.value) i a) (λ _. (refl, (0, omega arith, refl)))
            (floor_takes C H E B M R S law base (length s.words) r.journal r.holder id c in_words nobody (λ above le l holds. let a = has_it C H E B M R S law base s r id v at (suc above) l holds in let less : above < c = every_among (λ n. n < c) v.cells above a.0 a.1 a.2 may.above in omega arith)
            (no_hub_of C H E B M R S law base s r id v at may.no_hub (omega arith)) r.floor)
            record {
              seen = was.seen;
              old = was.old;
              own = was.own;
              did = was.did;
              had = was.had;
              others = was.others;
              distinct = was.distinct;
              before = was.before;
              unborn = was.unborn;
              cells = (
                record { held = held_here r.holder (suc c) (suc id) (suc c) refl; bounded = may.among; value = h.shown },
                every_both (InHand law r.journal r.holder v.bound id) (λ p. (p.0 < c) × Among p.0 bound) (InHand law r.journal holder' bound id) v.cells
                    (λ p i b. let less : p.0 < c = b.0 in record { held = held_else r.holder (suc c) (suc id) (suc p.0) (λ e. omega arith) ∙ i.held; bounded = b.1; value = i.value }) was.cells
                    (every_both (λ p. p.0 < c) (λ p. Among p.0 bound) (λ p. (p.0 < c) × Among p.0 bound) v.cells (λ p a b. (a, b)) may.above may.within),
              );
              falls = (may.above, was.falls);
              hub = λ x is. absurd (let e : None ≡ Some x = sym may.no_hub ∙ is in cc e);
              empty = λ dead. let e : true ≡ false = sym live ∙ dead in absurd (cc e);
            },
        (
          entries_of r.journal.deeds,
          subst (λ g. IsLegalAfter (law.may_follow g) [] (entries_of r.journal.deeds)) (sym r.same_base ∙ goes_on.base) r.legal,
          h.shown ∙ ap (λ g. law.shown_after g (entries_of r.journal.deeds) c) goes_on.base,
        ),
      )

  pub takes_cell : (bound : List ℕ) (me : Me Pl Vw) → me.0.live ≡ true → MayTake me.0 bound c
      → Allows Rl slots id me (suc c) (λ n. either (eqb n 0) 1 n) (TakesCell law bound (step slots (word_at (suc c)) 0 1 none) me)
  takes_cell bound me live may s r long at small = let n : ℕ = get_or s.words (suc c) 0 in dite (ℕ_discrete n 0)
      (λ hit. let t = takes_free 1 (λ e. omega arith) (omega arith) bound s r me.0 me.1 long at hit live may in (
        with_cell me.0 bound c (law.shows t.0),
        takes (suc c) (Cell t.0),
        t.1,
        subst (λ b. Rl (stepped s (suc c) (either b 1 n) id me.1 (with_cell me.0 bound c (law.shows t.0)) (takes (suc c) (Cell t.0)))) (sym (eq-eqb n 0 hit)) t.2,
        ((λ _. record { cell = c; value = t.0; of_word = refl; may = may; now = refl; was = t.3 }), λ miss. absurd (miss hit)),
      ))
      (λ miss. (
        me.0,
        keeps,
        tt,
        subst (λ b. Rl (stepped s (suc c) (either b 1 n) id me.1 me.0 keeps)) (sym (ne_eqb n 0 miss)) (unmoved C H E B M R S law base s r (suc c) id me.0 me.1 at),
        ((λ hit. absurd (miss hit)), λ _. refl),
      ))

  -- the same by a step after which the word says that somebody may wait
  pub takes_waiting : (bound : List ℕ) (me : Me Pl Vw) → me.0.live ≡ true → MayTake me.0 bound c
      → Allows Rl slots id me (suc c) (λ _. 2) (TakesCell law bound (step slots (word_at (suc c)) 2 0 none) me)
  takes_waiting bound me live may s r long at small = let n : ℕ = get_or s.words (suc c) 0 in dite (ℕ_discrete n 0)
      (λ hit. let t = takes_free 2 (λ e. omega arith) (omega arith) bound s r me.0 me.1 long at hit live may in (
        with_cell me.0 bound c (law.shows t.0),
        takes (suc c) (Cell t.0),
        t.1,
        t.2,
        ((λ _. record { cell = c; value = t.0; of_word = refl; may = may; now = refl; was = t.3 }), λ miss. absurd (miss hit)),
      ))
      (λ miss. (
        me.0,
        keeps,
        tt,
        awaited C H E B M R S law base s r (suc c) id me.0 me.1 at (omega (arith, r.wide)) miss,
        ((λ hit. absurd (miss hit)), λ _. refl),
      ))

  gives_last : (s : State Pl Vw) (r : Rule C H E B M R S law base s) (v : Vw) (y : C) (ps : List (ℕ × S)) (cs : List (ℕ × Pl)) → length s.homes ≡ slots → get_elem? s.views id ≡ some v → v.cells ≡ (c, law.shows y) ∷ ps → v.hub ≡ None
      → Rule C H E B M R S law base (stepped s (suc c) 0 id ((suc c, Cell y) ∷ cs) (with_cells v ps) gives)
  gives_last s r v y ps cs long at last no_hub =
      let in_words : suc c < length s.words = omega (arith, r.wide) in
      let was = r.each id v at in
      let mine : Every (InHand law r.journal r.holder v.bound id) ((c, law.shows y) ∷ ps) = subst (Every (InHand law r.journal r.holder v.bound id)) last was.cells in
      let order : Falls ((c, law.shows y) ∷ ps) = subst Falls last was.falls in
      let owner : r.holder (suc c) ≡ suc id = mine.0.held in
      let holder' : ℕ → ℕ = held_by r.holder (suc c) 0 in
      let w : Vw = with_cells v ps in
      moved C H E B M R S law base s r (suc c) 0 0 (set s.homes (suc c) (some (Cell y))) in_words (λ i ne. set_else s.homes (suc c) i (some (Cell y)) ne) id v w at record { live = refl; number = refl; others = refl } (λ t. t) (λ t e. e) (length-set s.homes (suc c) (some (Cell y)))
      (λ _. refl) (λ ne. absurd (ne refl))
      (λ d e _. let is : d ≡ c = omega arith in record {
        value = y;
        there = ap (λ n. get_elem? (set s.homes (suc c) (some (Cell y))) (suc n)) is ∙ set_here s.homes (suc c) (some (Cell y)) (omega arith);
        shown = subst (λ n. law.shows y ≡ shown_by law r.journal n) (sym is) mine.0.value;
      })
      (λ e _. absurd (omega arith)) (λ j other e. other (let z : suc j ≡ suc id = sym e ∙ owner in omega arith)) (λ i ne a. less_in_hand C H E B M R S law base v c (law.shows y) ps last i ne a) (λ ne. absurd (ne refl))
      (floor_gives C H E B M R S law base (length s.words) r.journal r.holder id c in_words owner (no_hub_of C H E B M R S law base s r id v at no_hub (omega arith)) r.floor)
      record {
        seen = was.seen;
        old = was.old;
        own = was.own;
        did = was.did;
        had = was.had;
        others = was.others;
        distinct = was.distinct;
        before = was.before;
        unborn = was.unborn;
        cells = every_both (InHand law r.journal r.holder v.bound id) (λ p. p.0 < c) (InHand law r.journal holder' v.bound id) ps
            (λ p i b. let less : p.0 < c = b in record { held = held_else r.holder (suc c) 0 (suc p.0) (λ e. omega arith) ∙ i.held; bounded = i.bounded; value = i.value }) mine.1 order.0;
        falls = order.1;
        hub = λ x is. absurd (let e : None ≡ Some x = sym no_hub ∙ is in cc e);
        empty = λ dead. let e : (c, law.shows y) ∷ ps ≡ [] = sym last ∙ (was.empty dead).0 in absurd (cc e);
      }

  pub gives_cell : (me : Me Pl Vw) (y : C) → me.0.cells ≡ (c, law.shows y) ∷ rest me.0.cells → me.1 ≡ (suc c, Cell y) ∷ rest me.1 → me.0.hub ≡ None
      → Allows Rl slots id me (suc c) (λ _. 0) (GivesCell (step slots (word_at (suc c)) 0 0 none) me)
  gives_cell me y last carried no_hub =
      subst (λ (l : List (ℕ × Pl)). Allows Rl slots id (me.0, l) (suc c) (λ _. 0) (GivesCell (step slots (word_at (suc c)) 0 0 none) (me.0, l))) (sym carried)
      (λ s r long at small. (with_cells me.0 (rest me.0.cells), gives, tt, gives_last s r me.0 y (rest me.0.cells) (rest me.1) long at last no_hub, ((suc c, Cell y), refl, refl, no_hub)))

abbrev pub value_or : {C H : Type 0} → C → Place C H → C
value_or d (Cell x) = x
value_or d _ = d

abbrev pub first_or : {P : Type 0} → P → List (ℕ × P) → P
first_or d [] = d
first_or d (x ∷ xs) = x.1

pub first_is : {P V : Type 0} (w : Me P V) (v : V) (cs : List (ℕ × P)) (k n : ℕ) (y : P) → k ≡ n → w ≡ (v, (n, y) ∷ cs) → w.1 ≡ (k, y) ∷ rest w.1
first_is w v cs k n y is e = ap (λ z. z.1) e ∙ ((λ i. (sym is i, y) ∷ cs) ∙ (λ i. (k, y) ∷ rest (sym e i).1))

module _ {C H E B M R S : Type 0} where
  pub took_first : (law : Meaning C H E B M R S) (bound : List ℕ) (place : ℕ) (m w : Me (Place C H) (View H E B M R S)) → TookCell law bound (word_at place) m w → (x : C) × (w.1 ≡ (place, Cell x) ∷ rest w.1)
  took_first law bound place m w t = (t.value, first_is w _ _ place (suc t.cell) (Cell t.value) (let e : place * 8 ≡ suc t.cell * 8 = t.of_word in omega (arith, e)) t.now)

  -- the cell that was asked for is the one that was taken
  pub took_is : (law : Meaning C H E B M R S) (bound : List ℕ) (cell place : ℕ) (m w w' : Me (Place C H) (View H E B M R S)) (x : C) → place ≡ suc cell → TookCell law bound (word_at place) m w → w.1 ≡ (place, Cell x) ∷ rest w.1 → w' ≡ (w.0, (place, Away) ∷ rest w.1)
      → (w' ≡ (with_cell m.0 bound cell (law.shows x), (suc cell, Away) ∷ m.1)) × WasShown law m.0.seen.base (cell, law.shows x)
  took_is law bound cell place m w w' x is t first now =
      let p : t.cell ≡ cell = let e : place * 8 ≡ suc t.cell * 8 = t.of_word in omega (arith, e, is) in
      let q : t.value ≡ x = ap (value_or x) (ap (first_or Away) (sym (ap (λ z. z.1) t.now) ∙ first)) in (
        now ∙ ((λ i. ((t.now i).0, (place, Away) ∷ rest (t.now i).1)) ∙ (λ i. (with_cell m.0 bound (p i) (law.shows (q i)), (is i, Away) ∷ m.1))),
        subst (λ (z : ℕ × C). WasShown law m.0.seen.base (z.0, law.shows z.1)) (λ i. (p i, q i)) t.was,
      )

  pub given_is : (m w w' : Me (Place C H) (View H E B M R S)) (k : ℕ) (y : Place C H) → w ≡ (m.0, (k, y) ∷ rest m.1) → (x : ℕ × Place C H) × (w.1 ≡ x ∷ w'.1) × (w'.0 ≡ with_cells w.0 (rest w.0.cells)) × (w.0.hub ≡ None)
      → w' ≡ (with_cells m.0 (rest m.0.cells), rest m.1)
  given_is m w w' k y is t =
      let p : w'.0 ≡ with_cells m.0 (rest m.0.cells) = t.2 ∙ ap (λ (z : Me (Place C H) (View H E B M R S)). with_cells z.0 (rest z.0.cells)) is in
      let q : w'.1 ≡ rest m.1 = ap (λ (z : List (ℕ × Place C H)). rest z) (sym t.1 ∙ ap (λ z. z.1) is) in
      λ i. (p i, q i)
