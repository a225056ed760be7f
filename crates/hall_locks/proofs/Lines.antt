-- The steps on a table whose words lie eight apart.
use Rattle.std.proofs.Common.{◌≡◌, ℕ, zero, suc, ◌+◌, ◌*◌, ◌<◌, eqb, true, false, List, [], ◌∷◌, length, map, get_or, set, replicate, sym, refl, ap, ◌∙◌, subst, arith, Option, None}
use mathlib.Core.Option.{none}
use prog.Atomic.{either}
use Rattle.atomic_table.specs.Table.{State, Me, step, carried_after, homes_after, opening, Allows, Splits, Joins, rest}
use Rattle.histories.specs.declared.story.Story.{Story}
use Rattle.hall_core.specs.Meanings.{Meaning}
use Rattle.hall_core.specs.Floor.{Shows}
use Rattle.hall_locks.specs.declared.view.View.{View}
use Rattle.hall_locks.specs.declared.view.Place.{Place}
use Rattle.hall_locks.specs.declared.view.Place.TheVariants.{Cell, Hub}
use Rattle.hall_locks.specs.Hall.{Ruled, MayGive, no_story, first_view, note_view, spent_view, hearing, merging, numbers_of}
use Rattle.hall_locks.specs.Lines.{word_at, eighths_after, thin}
use Rattle.hall_locks.specs.Steps.{MayTake, TakesCell, GivesCell, TakesHub, GivesHub, Enters, Compares}
use Rattle.hall_locks.proofs.Cells as cells
use Rattle.hall_locks.proofs.Hubs as hubs
use Rattle.hall_locks.proofs.HubByHub as hands
use Rattle.hall_locks.proofs.Seats as seats
use Rattle.hall_locks.proofs.Starts as starts

pub one_more : (c : ℕ) → c + 1 ≡ suc c
one_more c = omega arith

-- the word of a cell is one of the table's
pub within_words : (c count word words : ℕ) → words ≡ word_at (count + 1) → word ≡ word_at (c + 1) → c < count → word < words
within_words c count word words all is inside = let a : words ≡ (count + 1) * 8 = all in let b : word ≡ (c + 1) * 8 = is in omega (arith, a, b, inside)

pub hub_within : (count words : ℕ) → words ≡ word_at (count + 1) → 0 < words
hub_within count words all = let a : words ≡ (count + 1) * 8 = all in omega (arith, a)

none_before : (k : ℕ) → 0 + k * 8 ≡ k * 8
none_before k = omega arith

next_eighth : (k : ℕ) → 0 + suc k * 8 ≡ suc (7 + k * 8)
next_eighth k = omega arith

one_less : (n k : ℕ) → suc n + k * 8 ≡ suc (n + k * 8)
one_less n k = omega arith

eighth_from : (n k : ℕ) (xs : List ℕ) → get_or (eighths_after n xs) k 0 ≡ get_or xs (n + k * 8) 0
eighth_from n k [] = refl
eighth_from zero zero (x ∷ xs) = refl
eighth_from zero (suc k) (x ∷ xs) = eighth_from 7 k xs ∙ ap (λ i. get_or (x ∷ xs) i 0) (sym (next_eighth k))
eighth_from (suc n) k (x ∷ xs) = eighth_from n k xs ∙ ap (λ i. get_or (x ∷ xs) i 0) (sym (one_less n k))

eighth_set : (n k y : ℕ) (xs : List ℕ) → set (eighths_after n xs) k y ≡ eighths_after n (set xs (n + k * 8) y)
eighth_set n k y [] = refl
eighth_set zero zero y (x ∷ xs) = refl
eighth_set zero (suc k) y (x ∷ xs) = ap (λ l. x ∷ l) (eighth_set 7 k y xs) ∙ ap (λ i. eighths_after 0 (set (x ∷ xs) i y)) (sym (next_eighth k))
eighth_set (suc n) k y (x ∷ xs) = eighth_set n k y xs ∙ ap (λ i. eighths_after (suc n) (set (x ∷ xs) i y)) (sym (one_less n k))

eight_more : (n : ℕ) → suc n * 8 ≡ suc (suc (suc (suc (suc (suc (suc (suc (n * 8))))))))
eight_more n = omega arith

eighth_zeros : (n : ℕ) → eighths_after 0 (replicate (n * 8) 0) ≡ replicate n 0
eighth_zeros zero = refl
eighth_zeros (suc n) = ap (λ m. eighths_after 0 (replicate m 0)) (eight_more n) ∙ ap (λ l. 0 ∷ l) (eighth_zeros n)

-- a step on a word side by side with the others is one on the word eight times as far
module _ {S V : Type 0} (holds : State S V → Type 0) where
  apart : (slots id : ℕ) (me : Me S V) (k : ℕ) (f : ℕ → ℕ) (tells : ℕ → Me S V → Type 0) → Allows holds slots id me k f tells → Allows (λ s. holds (thin s)) slots id me (word_at k) f tells
  apart slots id me k f tells allows s r long at small =
      let i : ℕ = word_at k in
      let found : get_or (eighths_after 0 s.words) k 0 ≡ get_or s.words i 0 = eighth_from 0 k s.words ∙ ap (λ j. get_or s.words j 0) (none_before k) in
      let t = allows (thin s) r long at (subst (λ n. n < 18446744073709551616) (sym found) small) in
      let words : set (eighths_after 0 s.words) k (f (get_or (eighths_after 0 s.words) k 0)) ≡ eighths_after 0 (set s.words i (f (get_or s.words i 0))) =
      ap (λ n. set (eighths_after 0 s.words) k (f n)) found ∙ (eighth_set 0 k (f (get_or s.words i 0)) s.words ∙ ap (λ j. eighths_after 0 (set s.words j (f (get_or s.words i 0)))) (none_before k)) in (
        t.0,
        t.1,
        t.2,
        subst (λ ws. holds record { words = ws; homes = homes_after s.homes me.1 t.1; views = set s.views id t.0 }) words t.3,
        subst (λ n. tells n (t.0, carried_after me.1 t.1)) found t.4,
      )

module _ (C H E B M R S : Type 0) (law : Meaning C H E B M R S) (base : B) where
  abbrev Vw : Type 0
  Vw = View H E B M R S

  abbrev Pl : Type 0
  Pl = Place C H

  abbrev Rl : State Pl Vw → Type 0
  Rl s = Ruled law base s

  -- the rule of a hall's table
  abbrev pub Rule : State Pl Vw → Type 0
  Rule s = Ruled law base (thin s)

  pub takes_at : (slots id c : ℕ) → suc c < slots → (i : ℕ) → i ≡ word_at (suc c) → (bound : List ℕ) (me : Me Pl Vw) → me.0.live ≡ true → MayTake me.0 bound c
      → Allows Rule slots id me i (λ n. either (eqb n 0) 1 n) (TakesCell law bound (step slots i 0 1 none) me)
  takes_at slots id c inside i is bound me live may = subst (λ (z : ℕ). Allows Rule slots id me z (λ n. either (eqb n 0) 1 n) (TakesCell law bound (step slots z 0 1 none) me)) (sym is)
      (apart Rl slots id me (suc c) (λ n. either (eqb n 0) 1 n) (TakesCell law bound (step slots (word_at (suc c)) 0 1 none) me) (cells.takes_cell C H E B M R S law base slots id c inside bound me live may))

  pub takes_waiting_at : (slots id c : ℕ) → suc c < slots → (i : ℕ) → i ≡ word_at (suc c) → (bound : List ℕ) (me : Me Pl Vw) → me.0.live ≡ true → MayTake me.0 bound c
      → Allows Rule slots id me i (λ _. 2) (TakesCell law bound (step slots i 2 0 none) me)
  takes_waiting_at slots id c inside i is bound me live may = subst (λ (z : ℕ). Allows Rule slots id me z (λ _. 2) (TakesCell law bound (step slots z 2 0 none) me)) (sym is)
      (apart Rl slots id me (suc c) (λ _. 2) (TakesCell law bound (step slots (word_at (suc c)) 2 0 none) me) (cells.takes_waiting C H E B M R S law base slots id c inside bound me live may))

  -- the slot k is that of the cell, and i its word
  pub gives_at : (slots id c : ℕ) → suc c < slots → (k i : ℕ) → k ≡ suc c → i ≡ word_at (suc c) → (old me : Me Pl Vw) (y : C) → me ≡ (old.0, (k, Cell y) ∷ rest old.1) → old.0.cells ≡ (c, law.shows y) ∷ rest old.0.cells → old.0.hub ≡ None
      → Allows Rule slots id me i (λ _. 0) (GivesCell (step slots i 0 0 none) me)
  gives_at slots id c inside k i at is old me y put last no_hub = subst (λ (z : ℕ). Allows Rule slots id me z (λ _. 0) (GivesCell (step slots z 0 0 none) me)) (sym is)
      (apart Rl slots id me (suc c) (λ _. 0) (GivesCell (step slots (word_at (suc c)) 0 0 none) me)
      (cells.gives_cell C H E B M R S law base slots id c inside me y
      (subst (λ (v : Vw). v.cells ≡ (c, law.shows y) ∷ rest v.cells) (sym (ap (λ (z : Me Pl Vw). z.0) put)) last)
      (cells.first_is me old.0 (rest old.1) (suc c) k (Cell y) (sym at) put)
      (subst (λ (v : Vw). v.hub ≡ None) (sym (ap (λ (z : Me Pl Vw). z.0) put)) no_hub)))

  pub takes_hub : (slots id : ℕ) → 0 < slots → (me : Me Pl Vw) → me.0.live ≡ true → Allows Rule slots id me 0 (λ n. either (eqb n 0) 1 n) (TakesHub law (step slots 0 0 1 none) me)
  takes_hub slots id inside me live = apart Rl slots id me 0 (λ n. either (eqb n 0) 1 n) (TakesHub law (step slots 0 0 1 none) me) (hubs.takes_hub C H E B M R S law base slots id inside me live)

  pub takes_hub_waiting : (slots id : ℕ) → 0 < slots → (me : Me Pl Vw) → me.0.live ≡ true → Allows Rule slots id me 0 (λ _. 2) (TakesHub law (step slots 0 2 0 none) me)
  takes_hub_waiting slots id inside me live = apart Rl slots id me 0 (λ _. 2) (TakesHub law (step slots 0 2 0 none) me) (hubs.takes_hub_waiting C H E B M R S law base slots id inside me live)

  pub gives_hub_at : (slots id : ℕ) → 0 < slots → (old me : Me Pl Vw) (next : H) (mark : Option M) → old.0.live ≡ true → me ≡ (old.0, (0, Hub next) ∷ rest old.1) → MayGive law old.0 next mark
      → Allows Rule slots id me 0 (λ _. 0) (GivesHub law mark (step slots 0 0 0 none) me)
  gives_hub_at slots id inside old me next mark live put may = apart Rl slots id me 0 (λ _. 0) (GivesHub law mark (step slots 0 0 0 none) me) (hands.gives_at C H E B M R S law base slots id inside old me next mark live put may)

  pub tells_note : (id : ℕ) (v : Vw) → v.live ≡ true → Splits Rule id v v (note_view v.seen (v.number ∷ numbers_of v.others))
  tells_note id v live s r at = seats.tells_note C H E B M R S law base id v live (thin s) r at

  pub enters : (slots id : ℕ) (m : Me Pl Vw) (h : Story B E R) (ns : List ℕ) → m ≡ (note_view h ns, []) → Allows Rule slots id m 0 (λ n. n) (Enters (step slots 0 0 0 none) m)
  enters slots id m h ns is = apart Rl slots id m 0 (λ n. n) (Enters (step slots 0 0 0 none) m) (seats.enters C H E B M R S law base slots id m h ns is)

  pub hears : (id : ℕ) (v : Vw) (other : ℕ) (n : Vw) → v.live ≡ true → v.hub ≡ None → n.live ≡ false → n.tells ≡ true → n.cells ≡ [] → n.hub ≡ None → Joins Rule id v other n (hearing v n) (spent_view law.some_base)
  hears id v other n live none_held silent tells no_cells no_hub s r at away there = seats.hears C H E B M R S law base id v other n live none_held silent tells no_cells no_hub (thin s) r at away there

  pub merges : (id : ℕ) (v : Vw) (other : ℕ) (o : Vw) → v.live ≡ true → v.hub ≡ None → o.live ≡ true → o.cells ≡ [] → o.hub ≡ None → Joins Rule id v other o (merging v o) (spent_view law.some_base)
  merges id v other o live none_held alive no_cells no_hub s r at away there = seats.merges C H E B M R S law base id v other o live none_held alive no_cells no_hub (thin s) r at away there

  pub compares : (slots id : ℕ) (m : Me Pl Vw) → m.0.live ≡ true → Allows Rule slots id m 0 (λ n. n) (Compares (step slots 0 0 0 none) m)
  compares slots id m live = apart Rl slots id m 0 (λ n. n) (Compares (step slots 0 0 0 none) m) (seats.compares C H E B M R S law base slots id m live)

module _ (C H E B M R S : Type 0) (law : Meaning C H E B M R S) where
  pub starts_apart : (hub : H) (own : List C) (words : List ℕ) (slots : List (Place C H)) → law.entries hub ≡ [] → Shows law (law.base_of hub) [] own → ((k : ℕ) → law.keeps hub (no_story (law.base_of hub)) k [])
      → words ≡ replicate (word_at (length own + 1)) 0 → slots ≡ Hub hub ∷ map (λ (y : C). Cell y) own → Ruled law (law.base_of hub) (thin (opening words slots (first_view (law.base_of hub))))
  starts_apart hub own words slots empty shown keeps zero_words places =
      starts.starts C H E B M R S law hub own (eighths_after 0 words) slots empty shown keeps (ap (λ ws. eighths_after 0 ws) zero_words ∙ eighth_zeros (length own + 1)) places
