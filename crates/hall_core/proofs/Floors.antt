-- What holds of a floor after every list of events.
use Rattle.std.proofs.Common.{◌≡◌, ◌≢◌, ◌⊎◌, inl, inr, ⊎_elim, ℕ, zero, suc, ◌<◌, Bool, true, false, List, [], ◌∷◌, ◌++◌, length, drop, map, set, slice_get, sym, refl, ap, ◌∙◌, subst, arith, Option, Some, None, append_assoc, length-set}
use mathlib.Core.Logic.{dite}
use native.Mathlib.Decide.{ℕ_discrete}
use Rattle.std.proofs.Math.Seq.{drop-append_seam}
use Rattle.std.proofs.lemmas.List.{append-nil, append_cancel_left}
use Rattle.std.proofs.lemmas.Option.{slice_get_within}
use Rattle.hall_core.specs.Meanings.{Meaning, Among}
use Rattle.histories.specs.History.{Every, IsLegalAfter}
use Rattle.hall_core.specs.Floor.{FloorState, Event, take_cell, take_hub, commit, look, give_cell, Holds, written, by_actor, entries_in, IsSound, MayCommit, IsReady, IsEnabled, Steps, after, made, Runs, ends, goes, LeavesHeld, AllLeaveHeld}
use Rattle.hall_core.proofs.Numbers.{not_first}
use Rattle.histories.proofs.Judged.{legal_snoc}

pub get_set_here : {A : Type 0} (xs : List A) (i : ℕ) (x : A) → i < length xs → slice_get (set xs i x) i ≡ Some x
get_set_here [] i x l = absurd (omega arith)
get_set_here (y ∷ xs) zero x l = refl
get_set_here (y ∷ xs) (suc i) x l = get_set_here xs i x (omega arith)

pub get_set_else : {A : Type 0} (xs : List A) (i j : ℕ) (x : A) → j ≢ i → slice_get (set xs i x) j ≡ slice_get xs j
get_set_else [] i j x ne = refl
get_set_else (y ∷ xs) zero zero x ne = absurd (ne refl)
get_set_else (y ∷ xs) zero (suc j) x ne = refl
get_set_else (y ∷ xs) (suc i) zero x ne = refl
get_set_else (y ∷ xs) (suc i) (suc j) x ne = get_set_else xs i j x (λ e. ne (ap suc e))

abbrev numbers : {C : Type 0} → List (ℕ × C) → List ℕ
numbers ws = map (λ w. w.0) ws

got : {A : Type 0} (xs : List A) (i : ℕ) → i < length xs → (x : A) × (slice_get xs i ≡ Some x)
got [] i l = absurd (omega arith)
got (x ∷ xs) zero l = (x, refl)
got (x ∷ xs) (suc i) l = got xs i (omega arith)

-- a cell has the value of one of the writes, or no write is to it and it has its own
abbrev WrittenBy : {C : Type 0} → List (ℕ × C) → ℕ → C → Type 0
WrittenBy ws c x = (k : ℕ) × (x' : ℕ × _) × (slice_get ws k ≡ Some x') × (x'.0 ≡ c) × (x'.1 ≡ x)

written_at : {C : Type 0} (cells : List C) (ws : List (ℕ × C)) (c : ℕ) (x : C) → slice_get (written cells ws) c ≡ Some x → WrittenBy ws c x ⊎ ((¬ (Among c (numbers ws))) × (slice_get cells c ≡ Some x))
written_at cells [] c x e = inr ((λ a. let l : a.0 < 0 = a.1 in absurd (omega arith)), e)
written_at cells (w ∷ ws) c x e = ⊎_elim
    (λ (t : WrittenBy ws c x). inl (suc t.0, t.1, t.2, t.3, t.4))
    (λ (t : (¬ (Among c (numbers ws))) × (slice_get (set cells w.0 w.1) c ≡ Some x)). dite (ℕ_discrete w.0 c)
    (λ (same : w.0 ≡ c).
    let inside : c < length cells = subst (λ n. c < n) (length-set cells w.0 w.1) (slice_get_within (set cells w.0 w.1) c x t.1) in
    let here : slice_get (set cells w.0 w.1) w.0 ≡ Some w.1 = get_set_here cells w.0 w.1 (subst (λ n. n < length cells) (sym same) inside) in
    let both : Some w.1 ≡ Some x = sym here ∙ (ap (slice_get (set cells w.0 w.1)) same ∙ t.1) in
    inl (0, w, refl, same, cc both))
    (λ ne. inr (not_first c w.0 (numbers ws) ne t.0, sym (get_set_else cells w.0 c w.1 (λ e. ne (sym e))) ∙ t.1)))
    (written_at (set cells w.0 w.1) ws c x e)

pub unwritten : {C : Type 0} (cells : List C) (ws : List (ℕ × C)) (c : ℕ) → ¬ (Among c (numbers ws)) → slice_get (written cells ws) c ≡ slice_get cells c
unwritten cells [] c out = refl
unwritten cells (w ∷ ws) c out = unwritten (set cells w.0 w.1) ws c (λ a. out (suc a.0, (let l : a.0 < length (numbers ws) = a.1 in omega arith), a.2))
    ∙ get_set_else cells w.0 c w.1 (λ e. out (0, omega arith, sym e))

pub among_numbers : {C : Type 0} (K : ℕ → Type 0) (ws : List (ℕ × C)) (c : ℕ) → Among c (numbers ws) → Every (λ w. K w.0) ws → K c
among_numbers K [] c a all = let l : a.0 < 0 = a.1 in absurd (omega arith)
among_numbers K (w ∷ ws) c (zero, l, e) all = subst K e all.0
among_numbers K (w ∷ ws) c (suc k, l, e) all = among_numbers K ws c (k, omega arith, e) all.1

pub every_number : {C : Type 0} (K : ℕ → Type 0) (ws : List (ℕ × C)) → ((c : ℕ) → Among c (numbers ws) → K c) → Every (λ w. K w.0) ws
every_number K [] f = tt
every_number K (w ∷ ws) f = (f w.0 (0, omega arith, refl), every_number K ws (λ c a. f c (suc a.0, (let l : a.0 < length (numbers ws) = a.1 in omega arith), a.2)))

pub length_written : {C : Type 0} (cells : List C) (ws : List (ℕ × C)) → length (written cells ws) ≡ length cells
length_written cells [] = refl
length_written cells (w ∷ ws) = length_written (set cells w.0 w.1) ws ∙ length-set cells w.0 w.1

-- a cell to which each write has this value, and which is written, has it
pub written_all : {C : Type 0} (cells : List C) (ws : List (ℕ × C)) (c : ℕ) (y : C) → c < length cells → ((k : ℕ) (w : ℕ × C) → slice_get ws k ≡ Some w → w.0 ≡ c → w.1 ≡ y) → Among c (numbers ws) → slice_get (written cells ws) c ≡ Some y
written_all cells ws c y inside same there =
    let t = got (written cells ws) c (subst (λ n. c < n) (sym (length_written cells ws)) inside) in
    t.1 ∙ ap (λ x. Some x) (⊎_elim
    (λ (b : WrittenBy ws c t.0). sym b.4 ∙ same b.0 b.1 b.2 b.3)
    (λ (b : (¬ (Among c (numbers ws))) × (slice_get cells c ≡ Some t.0)). absurd (b.0 there))
    (written_at cells ws c t.0 t.1))

-- who holds a cell holds one of the floor
pub held_inside : {C : Type 0} (holders : List (Option ℕ)) (actor n : ℕ) (ws : List (ℕ × C)) → length holders ≡ n → Every (λ w. slice_get holders w.0 ≡ Some (Some actor)) ws → Every (λ w. w.0 < n) ws
held_inside holders actor n [] long all = tt
held_inside holders actor n (w ∷ ws) long all = (subst (λ k. w.0 < k) long (slice_get_within holders w.0 (Some actor) all.0), held_inside holders actor n ws long all.1)

entries_by : {E : Type 0} (a : ℕ) (es : List E) → entries_in (by_actor a es) ≡ es
entries_by a [] = refl
entries_by a (e ∷ es) = ap (λ l. e ∷ l) (entries_by a es)

entries_append : {E : Type 0} (xs ys : List (ℕ × E)) → entries_in (xs ++ ys) ≡ entries_in xs ++ entries_in ys
entries_append [] ys = refl
entries_append (x ∷ xs) ys = ap (λ l. x.1 ∷ l) (entries_append xs ys)

module _ (C H E B S M R : Type 0) (law : Meaning C H E B M R S) where
  abbrev Ev : Type 0
  Ev = Event C H

  abbrev St : Type 0
  St = FloorState C H

  -- there is one entry that the hub has more
  same_entry : (xs : List E) (ys : List E) (d e : E) → ys ≡ xs ++ d ∷ [] → ys ≡ xs ++ e ∷ [] → d ≡ e
  same_entry xs ys d e p q = let heads : d ∷ [] ≡ e ∷ [] = append_cancel_left xs (d ∷ []) (e ∷ []) (sym p ∙ q) in cc heads

  pub enabled_commit : (f : St) (actor : ℕ) (hub : H) (writes : List (ℕ × C)) → MayCommit law f hub writes → f.hub_holder ≡ Some actor → Every (λ w. slice_get f.holders w.0 ≡ Some (Some actor)) writes → IsEnabled law f (commit actor hub writes)
  enabled_commit f actor hub writes may held all = (
    held,
    λ entry is.
        let same : may.entry ≡ entry = same_entry (law.entries f.hub) (law.entries hub) may.entry entry may.entries is in
        subst (λ (e : E). law.may_follow (law.base_of f.hub) (law.entries f.hub) e × ((c : ℕ) → Among c (law.footprint e) → Holds f actor c)) same
        (may.legal, λ c a. among_numbers (λ n. Holds f actor n) writes c ((may.footprint c).1 a) all),
  )

  pub disabled_commit : (f : St) (actor : ℕ) (hub : H) (writes : List (ℕ × C)) → MayCommit law f hub writes → ¬ (Every (λ w. slice_get f.holders w.0 ≡ Some (Some actor)) writes) → ¬ (IsEnabled law f (commit actor hub writes))
  disabled_commit f actor hub writes may not_all en = not_all (every_number (λ n. Holds f actor n) writes (λ c a. (en.1 may.entry may.entries).1 c ((may.footprint c).0 a)))

  -- a commit keeps each cell at what the law gives
  pub commit_sound : (f : St) (actor : ℕ) (hub : H) (writes : List (ℕ × C)) → MayCommit law f hub writes → IsSound law f → IsSound law (after law f (commit actor hub writes))
  commit_sound f actor hub writes may s = record {
    shown = λ c x e. ⊎_elim
        (λ (t : WrittenBy writes c x). ap law.shows (sym t.4) ∙ (may.shown t.0 t.1 t.2 ∙ (λ i. law.shown_after (sym may.base i) (law.entries hub) (t.3 i))))
        (λ (t : (¬ (Among c (numbers writes))) × (slice_get f.cells c ≡ Some x)).
        s.shown c x t.1 ∙ (sym (law.outside (law.base_of f.hub) (law.entries f.hub) may.entry may.legal c (λ a. t.0 ((may.footprint c).1 a)))
        ∙ ap (λ (z : B × List E). law.shown_after z.0 z.1 c) (λ i. (sym may.base i, sym may.entries i))))
        (written_at f.cells writes c x e);
    legal = subst (λ (z : B × List E). IsLegalAfter (law.may_follow z.0) [] z.1) (λ i. (sym may.base i, sym may.entries i)) (legal_snoc (law.may_follow (law.base_of f.hub)) [] (law.entries f.hub) may.entry s.legal may.legal);
  }

  same_sound : (f g : St) → g.cells ≡ f.cells → g.hub ≡ f.hub → IsSound law f → IsSound law g
  same_sound f g cells hub s = record {
    shown = subst (λ (z : List C × H). (c : ℕ) (x : C) → slice_get z.0 c ≡ Some x → law.shows x ≡ law.shown_after (law.base_of z.1) (law.entries z.1) c) (λ i. (sym cells i, sym hub i)) s.shown;
    legal = subst (λ (h : H). IsLegalAfter (law.may_follow (law.base_of h)) [] (law.entries h)) (sym hub) s.legal;
  }

  after_sound : (f : St) (event : Ev) → IsReady law f event → IsSound law f → IsSound law (after law f event)
  after_sound f (take_cell actor cell) ready s = same_sound f (record f { holders = set f.holders cell (Some actor) }) refl refl s
  after_sound f (take_hub actor) ready s = same_sound f (record f { hub_holder = Some actor }) refl refl s
  after_sound f (commit actor hub writes) ready s = commit_sound f actor hub writes ready s
  after_sound f (look actor) ready s = same_sound f (record f { hub_holder = None }) refl refl s
  after_sound f (give_cell actor cell) ready s = same_sound f (record f { holders = set f.holders cell None }) refl refl s

  pub step_sound : (f : St) (event : Ev) (answer : Bool) (g : St) → IsReady law f event → Steps law f event answer g → IsSound law f → IsSound law g
  step_sound f event true g ready step s = subst (IsSound law) (sym step.1) (after_sound f event ready s)
  step_sound f event false g ready step s = subst (IsSound law) (sym step.1) s

  -- after every list of events each cell shows what the law gives after the journal, which is legal
  pub runs_sound : {f g : St} {events : List Ev} {answers : List Bool} {entries : List (ℕ × E)} → Runs law f events answers entries g → IsSound law f → IsSound law g
  runs_sound ends s = s
  runs_sound (goes {f} {m} {g} {event} {events} {answer} ready step r) s = runs_sound r (step_sound f event answer m ready step s)

  -- what an event adds, and that it leaves the base
  Grows : St → St → List (ℕ × E) → Type 0
  Grows f g entries = (law.base_of g.hub ≡ law.base_of f.hub) × (law.entries g.hub ≡ law.entries f.hub ++ entries_in entries)

  grows_none : (f g : St) → g.hub ≡ f.hub → (law.base_of g.hub ≡ law.base_of f.hub) × (law.entries g.hub ≡ law.entries f.hub ++ entries_in {E = E} [])
  grows_none f g hub = (ap law.base_of hub, ap law.entries hub ∙ sym (append-nil (law.entries f.hub)))

  commit_grows : (f : St) (actor : ℕ) (hub : H) (writes : List (ℕ × C)) → MayCommit law f hub writes → law.entries hub ≡ law.entries f.hub ++ entries_in (by_actor actor (drop (length (law.entries f.hub)) (law.entries hub)))
  commit_grows f actor hub writes may = may.entries
      ∙ ap (λ l. law.entries f.hub ++ l) (sym (entries_by actor (drop (length (law.entries f.hub)) (law.entries hub)) ∙ (ap (drop (length (law.entries f.hub))) may.entries ∙ drop-append_seam (law.entries f.hub) (may.entry ∷ []))))

  step_grows : (f : St) (event : Ev) (answer : Bool) (g : St) → IsReady law f event → Steps law f event answer g → (law.base_of g.hub ≡ law.base_of f.hub) × (law.entries g.hub ≡ law.entries f.hub ++ entries_in (made law f event answer))
  step_grows f event false g ready step = grows_none f g (ap (λ (x : St). x.hub) step.1)
  step_grows f (take_cell actor cell) true g ready step = grows_none f g (ap (λ (x : St). x.hub) step.1)
  step_grows f (take_hub actor) true g ready step = grows_none f g (ap (λ (x : St). x.hub) step.1)
  step_grows f (commit actor hub writes) true g ready step =
      let now : g.hub ≡ hub = ap (λ (x : St). x.hub) step.1 in
      (ap law.base_of now ∙ ready.base, ap law.entries now ∙ commit_grows f actor hub writes ready)
  step_grows f (look actor) true g ready step = grows_none f g (ap (λ (x : St). x.hub) step.1)
  step_grows f (give_cell actor cell) true g ready step = grows_none f g (ap (λ (x : St). x.hub) step.1)

  -- the journal grows by what the actors make, and the base stays
  pub runs_grow : {f g : St} {events : List Ev} {answers : List Bool} {entries : List (ℕ × E)} → Runs law f events answers entries g → (law.base_of g.hub ≡ law.base_of f.hub) × (law.entries g.hub ≡ law.entries f.hub ++ entries_in entries)
  runs_grow (ends {f}) = grows_none f f refl
  runs_grow (goes {f} {m} {g} {event} {events} {answer} {answers} {entries} ready step r) =
      let one = step_grows f event answer m ready step in
      let more = runs_grow r in
      let joined : entries_in (made law f event answer ++ entries) ≡ entries_in (made law f event answer) ++ entries_in entries = entries_append (made law f event answer) entries in (
        more.0 ∙ one.0,
        more.1 ∙ (ap (λ l. l ++ entries_in entries) one.1 ∙ (append_assoc (law.entries f.hub) (entries_in (made law f event answer)) (entries_in entries) ∙ ap (λ l. law.entries f.hub ++ l) (sym joined))),
      )

  -- the actor still holds the cell, whose value is what it was
  Kept : ℕ → ℕ → St → St → Type 0
  Kept actor cell f g = (slice_get g.cells cell ≡ slice_get f.cells cell) × Holds g actor cell

  same_cell : (f g : St) (actor cell : ℕ) → g.cells ≡ f.cells → slice_get g.holders cell ≡ slice_get f.holders cell → Holds f actor cell → (slice_get g.cells cell ≡ slice_get f.cells cell) × Holds g actor cell
  same_cell f g actor cell cells holders has = (ap (λ l. slice_get l cell) cells, holders ∙ has)

  -- a cell that is free, or another's, isn't the actor's
  other_cell : (holders : List (Option ℕ)) (cell other : ℕ) (now : Option ℕ) (actor : ℕ) → slice_get holders cell ≡ Some (Some actor) → (other ≡ cell → ⊥) → slice_get (set holders other now) cell ≡ slice_get holders cell
  other_cell holders cell other now actor has ne = get_set_else holders other cell now (λ e. ne (sym e))

  commit_keeps : (f : St) (actor cell by : ℕ) (hub : H) (writes : List (ℕ × C)) → MayCommit law f hub writes → IsEnabled law f (commit by hub writes) → Holds f actor cell → by ≢ actor → slice_get (written f.cells writes) cell ≡ slice_get f.cells cell
  commit_keeps f actor cell by hub writes may en has ne = unwritten f.cells writes cell (λ a.
      let theirs : slice_get f.holders cell ≡ Some (Some by) = (en.1 may.entry may.entries).1 cell ((may.footprint cell).0 a) in
      let same : Some (Some by) ≡ Some (Some actor) = sym theirs ∙ has in
      ne (cc same))

  step_keeps : (f : St) (event : Ev) (answer : Bool) (g : St) (actor cell : ℕ) → IsReady law f event → Steps law f event answer g → Holds f actor cell → LeavesHeld actor cell event answer → (slice_get g.cells cell ≡ slice_get f.cells cell) × Holds g actor cell
  step_keeps f event false g actor cell ready step has leaves = same_cell f g actor cell (ap (λ (x : St). x.cells) step.1) (ap (λ (x : St). slice_get x.holders cell) step.1) has
  step_keeps f (take_cell by other) true g actor cell ready step has leaves = same_cell f g actor cell (ap (λ (x : St). x.cells) step.1)
      (ap (λ (x : St). slice_get x.holders cell) step.1 ∙ other_cell f.holders cell other (Some by) actor has (λ e.
      let both : Some None ≡ Some (Some actor) = sym step.0.0 ∙ (ap (slice_get f.holders) e ∙ has) in absurd (cc both))) has
  step_keeps f (take_hub by) true g actor cell ready step has leaves = same_cell f g actor cell (ap (λ (x : St). x.cells) step.1) (ap (λ (x : St). slice_get x.holders cell) step.1) has
  step_keeps f (commit by hub writes) true g actor cell ready step has leaves = (ap (λ (x : St). slice_get x.cells cell) step.1 ∙ commit_keeps f actor cell by hub writes ready step.0 has leaves, ap (λ (x : St). slice_get x.holders cell) step.1 ∙ has)
  step_keeps f (look by) true g actor cell ready step has leaves = same_cell f g actor cell (ap (λ (x : St). x.cells) step.1) (ap (λ (x : St). slice_get x.holders cell) step.1) has
  step_keeps f (give_cell by other) true g actor cell ready step has leaves = same_cell f g actor cell (ap (λ (x : St). x.cells) step.1)
      (ap (λ (x : St). slice_get x.holders cell) step.1 ∙ other_cell f.holders cell other None actor has (λ e.
      let both : Some (Some by) ≡ Some (Some actor) = sym step.0.0 ∙ (ap (slice_get f.holders) e ∙ has) in leaves (cc both) e)) has

  -- while an actor holds a cell, up to its next commit or look, the cell keeps its value
  pub runs_keep : {f g : St} {events : List Ev} {answers : List Bool} {entries : List (ℕ × E)} (actor cell : ℕ) → Runs law f events answers entries g → Holds f actor cell → AllLeaveHeld actor cell events answers → (slice_get g.cells cell ≡ slice_get f.cells cell) × Holds g actor cell
  runs_keep actor cell ends has leaves = (refl, has)
  runs_keep actor cell (goes {f} {m} {g} {event} {events} {answer} ready step r) has leaves =
      let one = step_keeps f event answer m actor cell ready step has leaves.0 in
      let more = runs_keep actor cell r one.1 leaves.1 in
      (more.0 ∙ one.0, more.1)

  -- one more step at the end
  pub runs_on : {f g h : St} {events : List Ev} {answers : List Bool} {entries : List (ℕ × E)} (event : Ev) (answer : Bool) → Runs law f events answers entries g → IsReady law g event → Steps law g event answer h
      → Runs law f (events ++ event ∷ []) (answers ++ answer ∷ []) (entries ++ made law g event answer) h
  runs_on {h = h} event answer (ends {f}) ready step = subst (λ l. Runs law f (event ∷ []) (answer ∷ []) l h) (append-nil (made law f event answer)) (goes ready step ends)
  runs_on {h = h} event answer (goes {f} {m} {g} {event = first} {events} {answer = said} {answers} {entries} r s more) ready step =
      subst (λ l. Runs law f (first ∷ (events ++ event ∷ [])) (said ∷ (answers ++ answer ∷ [])) l h) (sym (append_assoc (made law f first said) entries (made law g event answer)))
      (goes r s (runs_on event answer more ready step))
