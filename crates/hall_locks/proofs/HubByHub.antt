-- The hub in hand.
use Rattle.std.proofs.Common.{◌≡◌, ◌≢◌, ℕ, suc, ◌<◌, true, List, [], ◌∷◌, ◌++◌, sym, refl, ap, ◌∙◌, subst, Option, Some, None}
use mathlib.Core.Option.{none}
use Rattle.atomic_table.specs.Table.{Me, step, Allows, rest}
use Rattle.histories.specs.declared.story.Story.{Story}
use Rattle.histories.specs.declared.story.Deed.{Deed}
use Rattle.histories.specs.declared.story.Deed.TheVariants.{Entry, Item}
use Rattle.hall_core.specs.Meanings.{Meaning, Adds, adds_nothing, adds_entry, adds_item}
use Rattle.histories.specs.History.{entries_of}
use Rattle.hall_locks.specs.declared.view.View.{View}
use Rattle.hall_locks.specs.declared.view.Place.{Place}
use Rattle.hall_locks.specs.declared.view.Place.TheVariants.{Away, Hub}
use Rattle.hall_locks.specs.Hall.{with_hub, given_hub, grown, with_mark, last_entry, deed_by, deed_of, shown_cells, cells_after, numbers_of, IsDone, IsDue, IsMarked, IsTrueMark, MayGive}
use Rattle.hall_locks.specs.Hands.{aways, there, Found, Carries, HoldsHub, GlancesAtHub, MayCommit, MayLook, IsOneMore, AddsNoEntry, item_of, looked_at}
use Rattle.hall_locks.specs.Steps.{TookHub, GivesHub}
use Rattle.hall_locks.proofs.Gives.{gives_hub, numbers_after}
use Rattle.hall_locks.proofs.Deeds.{entries_snoc, entries_item}
use Rattle.hall_locks.proofs.Rules.{Rule}
use Rattle.hall_locks.proofs.Cells.{first_or}

abbrev hub_or : {C H : Type 0} → H → Place C H → H
hub_or d (Hub x) = x
hub_or d _ = d

is_done_at : {E R : Type 0} (a : Adds R) (fit : E → Type 0) (e : E) → a ≡ adds_entry → fit e → IsDone a fit (Some (Entry e))
is_done_at {E} {R} a fit e is f = subst (λ (x : Adds R). IsDone x fit (Some (Entry e))) (sym is) f

module _ (C H E B M R S : Type 0) (law : Meaning C H E B M R S) where
  is_done : (a : Adds R) (m : M) (e : E) → a ≡ adds_entry → law.fits m e → IsDone a (law.fits m) (Some (Entry e))
  is_done a m e is f = is_done_at a (law.fits m) e is f

  abbrev Mine : Type 0
  Mine = Me (Place C H) (View H E B M R S)

  pub hub_first : (m w : Mine) → TookHub law m w → (h : H) × (w.1 ≡ (0, Hub h) ∷ rest w.1)
  hub_first m w t = (t.hub, ap (λ z. z.1) t.now ∙ (λ i. (0, Hub t.hub) ∷ rest (sym t.now i).1))

  pub hub_is : (m w w' : Mine) (h : H) → TookHub law m w → w.1 ≡ (0, Hub h) ∷ rest w.1 → w' ≡ (w.0, (0, Away) ∷ rest w.1)
      → (w' ≡ (with_hub m.0 w'.0.seen h, (0, Away) ∷ m.1)) × Found law m.0 w'.0.seen h
  hub_is m w w' h t first now =
      let q : t.hub ≡ h = ap (hub_or h) (ap (first_or Away) (sym (ap (λ z. z.1) t.now) ∙ first)) in
      let is : w' ≡ (with_hub m.0 t.seen t.hub, (0, Away) ∷ m.1) = now ∙ (λ i. ((t.now i).0, (0, Away) ∷ rest (t.now i).1)) in
      let s : w'.0.seen ≡ t.seen = ap (λ (z : Mine). z.0.seen) is in (
        is ∙ (λ i. (with_hub m.0 (sym s i) (q i), (0, Away) ∷ m.1)),
        subst (λ (z : Story B E R × H). Found law m.0 z.0 z.1) (λ i. (sym s i, q i)) t.found,
      )

  pub gives_at : (base : B) (slots id : ℕ) → 0 < slots → (old me : Mine) (next : H) (mark : Option M) → old.0.live ≡ true → me ≡ (old.0, (0, Hub next) ∷ rest old.1) → MayGive law old.0 next mark
      → Allows (Rule C H E B M R S law base) slots id me 0 (λ _. 0) (GivesHub law mark (step slots 0 0 0 none) me)
  gives_at base slots id inside old me next mark live put may = subst (λ (z : Mine). Allows (Rule C H E B M R S law base) slots id z 0 (λ _. 0) (GivesHub law mark (step slots 0 0 0 none) z)) (sym put)
      (gives_hub C H E B M R S law base slots id inside (old.0, (0, Hub next) ∷ rest old.1) next mark live refl may)

  pub gave_is : (m w w' : Mine) (next : H) (mark : Option M) → w ≡ (m.0, (0, Hub next) ∷ rest m.1) → (h : H) × (w.1 ≡ (0, Hub h) ∷ w'.1) × (w'.0 ≡ given_hub law w.0 h mark)
      → w' ≡ (given_hub law m.0 next mark, rest m.1)
  gave_is m w w' next mark is t =
      let slots : (0, Hub t.0) ∷ w'.1 ≡ (0, Hub next) ∷ rest m.1 = sym t.1 ∙ ap (λ (z : Mine). z.1) is in
      let same : t.0 ≡ next = ap (hub_or next) (ap (first_or Away) slots) in
      let p : w'.0 ≡ given_hub law m.0 next mark = t.2 ∙ (λ i. given_hub law (is i).0 (same i) mark) in
      let q : w'.1 ≡ rest m.1 = ap (λ (z : List (ℕ × Place C H)). rest z) slots in
      λ i. (p i, q i)

  -- a hub that was put into its slot may be given back, and then was
  pub gives_there : (m w : Mine) (next : H) (mark : Option M) → w ≡ (m.0, (0, Hub next) ∷ rest m.1) → MayGive law m.0 next mark
      → (h : H) × (w.1 ≡ (0, Hub h) ∷ rest w.1) × MayGive law w.0 h mark
  gives_there m w next mark is may = (next, (λ i. (is i).1) ∙ (λ i. (0, Hub next) ∷ rest (sym is i).1), subst (λ (z : Mine). MayGive law z.0 next mark) (sym is) may)

  pub gave_there : (m w w' : Mine) (next : H) (mark : Option M) → w ≡ (m.0, (0, Hub next) ∷ rest m.1)
      → ((h : H) → w.1 ≡ (0, Hub h) ∷ rest w.1 → w' ≡ (given_hub law w.0 h mark, rest w.1)) → w' ≡ (given_hub law m.0 next mark, rest m.1)
  gave_there m w w' next mark is gave = gave next ((λ i. (is i).1) ∙ (λ i. (0, Hub next) ∷ rest (sym is i).1)) ∙ (λ i. (given_hub law (is i).0 next mark, rest (is i).1))

  -- a seat that took the hub's word has the hub, which is in its slot
  pub glances : (m w : Mine) (footprint : List ℕ) → Carries m footprint → TookHub law m w → GlancesAtHub w footprint
  glances m w footprint carries took = subst (λ (z : Mine). GlancesAtHub z footprint) (sym took.now) record {
    live = carries.live;
    hub = refl;
    slots = ap (λ (l : List (ℕ × Place C H)). (0, Hub took.hub) ∷ l) carries.slots;
    numbers = carries.numbers;
  }

  pub glance_found : (m w : Mine) → TookHub law m w → (h : H) × (w.0 ≡ with_hub m.0 w.0.seen h) × Found law m.0 w.0.seen h
  glance_found m w took =
      let s : w.0.seen ≡ took.seen = ap (λ (z : Mine). z.0.seen) took.now in (
        took.hub,
        ap (λ (z : Mine). z.0) took.now ∙ ap (λ h. with_hub m.0 h took.hub) (sym s),
        subst (λ h. Found law m.0 h took.hub) (sym s) took.found,
      )

  aways_shown : (h : Story B E R) (ps : List (ℕ × S)) → aways {C = C} {H = H} (shown_cells law h ps) ≡ aways ps
  aways_shown h [] = refl
  aways_shown h (p ∷ ps) = ap (λ (l : List (ℕ × Place C H)). (suc p.0, Away) ∷ l) (aways_shown h ps)

  aways_after : (h : Story B E R) (deed : Option (Deed E R)) (ps : List (ℕ × S)) → aways {C = C} {H = H} (cells_after law h deed ps) ≡ aways ps
  aways_after h None ps = refl
  aways_after h (Some (Item i)) ps = refl
  aways_after h (Some (Entry e)) ps = aways_shown h ps

  pub carries_given : (m m' : Mine) (next : H) (mark : Option M) (footprint : List ℕ) → HoldsHub m footprint → m' ≡ (given_hub law m.0 next mark, rest m.1) → Carries m' footprint
  carries_given m m' next mark footprint holds is =
      let after : Story B E R = grown m.0.seen m.0.number (deed_of law mark next) in
      subst (λ (z : Mine). Carries z footprint) (sym is) record {
        live = holds.live;
        hub = refl;
        slots = ap (λ (l : List (ℕ × Place C H)). rest l) holds.slots ∙ sym (aways_after after (deed_of law mark next) m.0.cells);
        numbers = numbers_after law after (deed_of law mark next) m.0.cells ∙ holds.numbers;
      }

  -- the hub that stayed in its slot may be given back, and then the cells of the footprint are in hand, and not the hub
  pub hub_there : (m : Mine) (footprint : List ℕ) (h : H) → GlancesAtHub m footprint → m.0.hub ≡ Some h → m.1 ≡ (0, Hub h) ∷ rest m.1
  hub_there m footprint h glances is =
      let e : m.1 ≡ (0, Hub h) ∷ aways {C = C} {H = H} m.0.cells = glances.slots ∙ ap (λ (o : Option H). there {C = C} o ++ aways {C = C} {H = H} m.0.cells) is in
      e ∙ (λ i. (0, Hub h) ∷ rest (sym e i))

  pub carries_glanced : (m m' : Mine) (h : H) (mark : Option M) (footprint : List ℕ) → GlancesAtHub m footprint → m.0.hub ≡ Some h → m' ≡ (given_hub law m.0 h mark, rest m.1) → Carries m' footprint
  carries_glanced m m' h mark footprint glances is given =
      let e : m.1 ≡ (0, Hub h) ∷ aways {C = C} {H = H} m.0.cells = glances.slots ∙ ap (λ (o : Option H). there {C = C} o ++ aways {C = C} {H = H} m.0.cells) is in
      carries_given (m.0, (0, Away) ∷ rest m.1) m' h mark footprint record {
        live = glances.live;
        slots = ap (λ (l : List (ℕ × Place C H)). (0, Away) ∷ rest l) e;
        numbers = glances.numbers;
      } given

  last_one : (xs : List E) (e : E) → last_entry {R = R} (xs ++ e ∷ []) ≡ Some (Entry e)
  last_one [] e = refl
  last_one (x ∷ []) e = refl
  last_one (x ∷ y ∷ xs) e = last_one (y ∷ xs) e

  -- what a commit adds is the one more entry
  pub committed : (v : View H E B M R S) (next : H) (cells : List C) (mark : Option M) → MayCommit law v next cells mark → (entry : E) → IsOneMore law v next entry → deed_of law mark next ≡ Some (Entry entry)
  committed v next cells mark may entry is =
      let marked : deed_of law mark next ≡ deed_of law (Some may.named) next = ap (λ m. deed_of law m next) may.marked in
      marked ∙ ((λ i. deed_by (may.adds i) (is i)) ∙ last_one (entries_of v.seen.deeds) entry)

  pub commit_gives : (v : View H E B M R S) (next : H) (cells : List C) (mark : Option M) → MayCommit law v next cells mark → MayGive law v next mark
  commit_gives v next cells mark may =
      let deed : deed_of law mark next ≡ Some (Entry may.entry) = committed v next cells mark may may.entry may.entries in
      record {
        found = may.found;
        was = may.was;
        base = may.base;
        entries = may.entries ∙ (sym (entries_snoc v.seen.deeds v.number may.entry) ∙ ap (λ d. entries_of (grown v.seen v.number d).deeds) (sym deed));
        due = subst (IsDue law v.seen (numbers_of v.cells)) (sym deed) (may.legal, may.footprint);
        others = λ k log ne keeps_it. subst (λ d. law.keeps next (grown v.seen v.number d) k log) (sym deed) (may.others k log ne keeps_it);
        own = subst (λ (z : Option M × Option (Deed E R)). law.keeps next (grown v.seen v.number z.1) v.number (with_mark v.log z.0)) (λ i. (sym may.marked i, sym deed i)) may.own;
        marked = subst (λ (z : Option M × Option (Deed E R)). IsMarked law z.0 z.1) (λ i. (sym may.marked i, sym deed i)) (is_done (law.adds may.named) may.named may.entry may.adds may.fits);
        true_mark = subst (λ (z : Option M × Option (Deed E R)). IsTrueMark law z.0 (grown v.seen v.number z.1) v.number v.log) (λ i. (sym may.marked i, sym deed i)) may.true_mark;
      }

  look_adds : (m : M) (a : Adds R) (next : H) → a ≢ adds_entry → deed_by a (law.entries next) ≡ item_of a
  look_adds m adds_nothing next no_entry = refl
  look_adds m adds_entry next no_entry = absurd (no_entry refl)
  look_adds m (adds_item r) next no_entry = refl

  -- what a look adds is what its mark says
  pub looked : (next : H) (mark : Option M) → AddsNoEntry law mark → deed_of law mark next ≡ looked_at law mark
  looked next None no_entry = refl
  looked next (Some m) no_entry = look_adds m (law.adds m) next no_entry

  look_done : (a : Adds R) (fit : E → Type 0) → a ≢ adds_entry → IsDone a fit (item_of a)
  look_done adds_nothing fit no_entry = tt
  look_done adds_entry fit no_entry = absurd (no_entry refl)
  look_done (adds_item r) fit no_entry = refl

  look_marked : (mark : Option M) → AddsNoEntry law mark → IsMarked law mark (looked_at law mark)
  look_marked None no_entry = tt
  look_marked (Some m) no_entry = look_done (law.adds m) (law.fits m) no_entry

  item_due : (a : Adds R) (h : Story B E R) (hand : List ℕ) → IsDue law h hand (item_of a)
  item_due adds_nothing h hand = tt
  item_due adds_entry h hand = tt
  item_due (adds_item r) h hand = tt

  look_due : (mark : Option M) (h : Story B E R) (hand : List ℕ) → IsDue law h hand (looked_at law mark)
  look_due None h hand = tt
  look_due (Some m) h hand = item_due (law.adds m) h hand

  item_entries : (a : Adds R) (h : Story B E R) (n : ℕ) → entries_of (grown h n (item_of {E = E} a)).deeds ≡ entries_of h.deeds
  item_entries adds_nothing h n = refl
  item_entries adds_entry h n = refl
  item_entries (adds_item r) h n = entries_item h.deeds n r

  look_entries : (mark : Option M) (h : Story B E R) (n : ℕ) → entries_of (grown h n (looked_at law mark)).deeds ≡ entries_of h.deeds
  look_entries None h n = refl
  look_entries (Some m) h n = item_entries (law.adds m) h n

  pub look_gives : (v : View H E B M R S) (next : H) (cells : List C) (mark : Option M) → MayLook law v next cells mark → MayGive law v next mark
  look_gives v next cells mark may =
      let deed : deed_of law mark next ≡ looked_at law mark = looked next mark may.adds in
      record {
        found = may.found;
        was = may.was;
        base = may.base;
        entries = may.entries ∙ (sym (look_entries mark v.seen v.number) ∙ ap (λ d. entries_of (grown v.seen v.number d).deeds) (sym deed));
        due = subst (IsDue law v.seen (numbers_of v.cells)) (sym deed) (look_due mark v.seen (numbers_of v.cells));
        others = λ k log ne keeps_it. subst (λ d. law.keeps next (grown v.seen v.number d) k log) (sym deed) (may.others k log ne keeps_it);
        own = subst (λ d. law.keeps next (grown v.seen v.number d) v.number (with_mark v.log mark)) (sym deed) may.own;
        marked = subst (IsMarked law mark) (sym deed) (look_marked mark may.adds);
        true_mark = subst (λ d. IsTrueMark law mark (grown v.seen v.number d) v.number v.log) (sym deed) may.true_mark;
      }

  item_cells : (a : Adds R) (h : Story B E R) (cs : List (ℕ × S)) → cells_after law h (item_of a) cs ≡ cs
  item_cells adds_nothing h cs = refl
  item_cells adds_entry h cs = refl
  item_cells (adds_item r) h cs = refl

  -- a look leaves the cells in hand as they were
  pub look_cells : (mark : Option M) (h : Story B E R) (cs : List (ℕ × S)) → cells_after law h (looked_at law mark) cs ≡ cs
  look_cells None h cs = refl
  look_cells (Some m) h cs = item_cells (law.adds m) h cs
