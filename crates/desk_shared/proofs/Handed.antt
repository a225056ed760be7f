-- What is in hand, from what the steps of a hall tell.
use Rattle.std.proofs.Common.{◌≡◌, ℕ, zero, suc, List, [], ◌∷◌, ◌++◌, length, map, reverse, option_map, Option, Some, refl, sym, ◌∙◌, ap, subst, arith}
use Rattle.std.specs.List.{slice_get}
use Rattle.std.proofs.Math.Seq.{take-length}
use Rattle.std.proofs.lemmas.List.{append-nil, map-append, reverse-append, reverse-reverse, length-map, length-reverse}
use Rattle.std.proofs.lemmas.Option.{none-some, slice_get-map, slice_get_within}
use Rattle.rec_kinds.specs.Configs.{Config}
use Rattle.rec_kinds.specs.Validity.{IsValid}
use Rattle.rec_kinds.specs.declared.state.RecState.{RecState}
use Rattle.histories.specs.History.{Every, Begins, deeds_by}
use Rattle.hall_core.specs.Meanings.{Among}
use Rattle.hall_locks.specs.Hall.{numbers_of, shown_by, shown_cells, with_hub, WasShown}
use Rattle.hall_locks.specs.Hands.{in_visit, values_of, AsTaken, AsAfter, Found}
use Rattle.hall_locks.proofs.Lists.{among_left, among_right, every_append}
use Rattle.journal_core.specs.Histories.{replayed}
use Rattle.journal_core.specs.Legality.{AreValid, IsLegal as AreLegal}
use Rattle.journal_core.specs.declared.entry.Entry.{Entry}
use Rattle.journal_core.proofs.Growing.{last_state}
use Rattle.journal_core.proofs.Keeping.{valid_at, valid_history}
use Rattle.desk_api.specs.Calls.{Adds, now}
use Rattle.desk_api.specs.History.{History, commits, state_at}
use Rattle.desk_api.specs.Views.{AreStatesOf}
use Rattle.desk_api.specs.declared.history.SiteData.{SiteData}
use Rattle.desk_api.specs.declared.mark.Mark.{Mark}
use Rattle.desk_api.proofs.Adding.{as_many, grown_length}
use Rattle.desk_hub.specs.Seats.{KeepsSeat}
use Rattle.desk_shared.specs.Hands.{states_of, HasHub, Visits, WasLegal}
use Rattle.desk_shared.specs.Records.{Sight, records, seat_of}
use Rattle.desk_shared.specs.declared.books.Books.{Books}
use Rattle.desk_shared.specs.declared.records.RecCell.{RecCell}
use Rattle.desk_shared.proofs.Listed.{some_same, some_there, states_from_each}

-- ---- lists from behind

rev : {A : Type 0} (x : A) (xs : List A) → reverse (x ∷ xs) ≡ reverse xs ++ x ∷ []
rev x xs = reverse-append (x ∷ []) xs

map_reverse : {A B : Type 0} (f : A → B) (xs : List A) → map f (reverse xs) ≡ reverse (map f xs)
map_reverse f [] = refl
map_reverse f (x ∷ xs) =
    ap (map f) (rev x xs) ∙ map-append f (reverse xs) (x ∷ []) ∙ ap (λ (l : List _). l ++ f x ∷ []) (map_reverse f xs) ∙ sym (rev (f x) (map f xs))

abbrev first_in : {A : Type 0} → ℕ × A → ℕ
first_in p = p.0

abbrev second_in : {A : Type 0} → ℕ × A → A
second_in p = p.1

numbers_map : {A : Type 0} (cs : List (ℕ × A)) → numbers_of cs ≡ map first_in cs
numbers_map [] = refl
numbers_map (p ∷ cs) = ap (λ (l : List ℕ). p.0 ∷ l) (numbers_map cs)

values_map : {A : Type 0} (cs : List (ℕ × A)) → values_of cs ≡ map second_in cs
values_map [] = refl
values_map (p ∷ cs) = ap (λ (l : List _). p.1 ∷ l) (values_map cs)

every_reverse : {A : Type 0} (P : A → Type 0) (xs : List A) → Every P xs → Every P (reverse xs)
every_reverse P [] all = tt
every_reverse P (x ∷ xs) all = subst (Every P) (sym (rev x xs)) (every_append P (reverse xs) (x ∷ []) (every_reverse P xs all.1) (all.0, tt))

pair : {S : Type 0} (d : ℕ × S) (r : ℕ) (s : S) → d.0 ≡ r → d.1 ≡ s → d ≡ (r, s)
pair d r s e f = λ i. (e i, f i)

-- cells by their numbers and their values
each_cell : {S : Type 0} (P : ℕ × S → Type 0) (cs : List (ℕ × S)) (recs : List ℕ) (values : List S) → map first_in cs ≡ recs → map second_in cs ≡ values → Every P cs
    → (j r : ℕ) (s : S) → slice_get recs j ≡ Some r → slice_get values j ≡ Some s → P (r, s)
each_cell {S} P cs recs values numbers are all j r s at_r at_s =
    at_place cs j all (ap (λ (l : List ℕ). slice_get l j) numbers ∙ at_r) (ap (λ (l : List _). slice_get l j) are ∙ at_s)
  where
    at_place : (ds : List (ℕ × S)) (i : ℕ) → Every P ds → slice_get (map first_in ds) i ≡ Some r → slice_get (map second_in ds) i ≡ Some s → P (r, s)
    at_place [] i all_ds a b = absurd (none-some r a)
    at_place (d ∷ ds) zero all_ds a b = subst P (pair d r s (some_same d.0 r a) (some_same d.1 s b)) all_ds.0
    at_place (d ∷ ds) (suc i) all_ds a b = at_place ds i all_ds.1 a b

-- what is in hand, by the places of the records
each_in_hand : (v : Sight) (recs : List ℕ) (states : List RecState) (P : ℕ × Option RecState → Type 0) → numbers_of v.cells ≡ reverse recs → values_of v.cells ≡ reverse (map (λ (s : RecState). Some s) states) → Every P v.cells
    → (j r : ℕ) (s : RecState) → slice_get recs j ≡ Some r → slice_get states j ≡ Some s → P (r, Some s)
each_in_hand v recs states P numbers values all j r s at_r at_s =
    let cs = reverse v.cells in
    let firsts : map first_in cs ≡ recs =
    map_reverse first_in v.cells ∙ ap reverse (sym (numbers_map v.cells) ∙ numbers) ∙ reverse-reverse recs in
    let seconds : map second_in cs ≡ map (λ (z : RecState). Some z) states =
    map_reverse second_in v.cells ∙ ap reverse (sym (values_map v.cells) ∙ values) ∙ reverse-reverse (map (λ (z : RecState). Some z) states) in
    each_cell P cs recs (map (λ (z : RecState). Some z) states) firsts seconds (every_reverse P v.cells all) j r (Some s) at_r
    (slice_get-map (λ (z : RecState). Some z) states j ∙ ap (option_map (λ (z : RecState). Some z)) at_s)

-- there are as many
many_in_hand : (v : Sight) (recs : List ℕ) (states : List RecState) → numbers_of v.cells ≡ reverse recs → values_of v.cells ≡ reverse (map (λ (s : RecState). Some s) states) → length states ≡ length recs
many_in_hand v recs states numbers values =
    sym (length-map states (λ (s : RecState). Some s)) ∙ sym (length-reverse (map (λ (s : RecState). Some s) states)) ∙ ap length (sym values ∙ values_map v.cells) ∙ length-map v.cells second_in
    ∙ sym (length-map v.cells first_in) ∙ ap length (sym (numbers_map v.cells) ∙ numbers) ∙ length-reverse recs

-- they show what there is after a history
after_values : (Q : Type 0) (h : History) (cs : List (ℕ × Option RecState)) → values_of (shown_cells (records {P = Q}) h cs) ≡ map (λ (c : ℕ). shown_by (records {P = Q}) h c) (numbers_of cs)
after_values Q h [] = refl
after_values Q h (p ∷ cs) = ap (λ (l : List (Option RecState)). shown_by (records {P = Q}) h p.0 ∷ l) (after_values Q h cs)

module _ {P : Type 0} where
  shows_states : (cells : List (RecCell P)) → map (λ (c : RecCell P). Some c.state) cells ≡ map (λ (s : RecState). Some s) (states_of cells)
  shows_states [] = refl
  shows_states (c ∷ cells) = ap (λ (l : List (Option RecState)). Some c.state ∷ l) (shows_states cells)

  -- a visit
  pub visits_of : (before v : Sight) (recs footprint : List ℕ) (cells : List (RecCell P)) → footprint ≡ recs → numbers_of v.cells ≡ reverse footprint → AsTaken (records {P = P}) v cells
      → v ≡ in_visit before v.bound v.cells → Every (WasShown (records {P = P}) before.seen.base) v.cells → Visits before v recs (states_of cells)
  visits_of before v recs footprint cells is numbers taken same was = record {
    same = same;
    numbers = numbers ∙ ap reverse is;
    values = taken ∙ ap reverse (shows_states cells);
    was = was;
  }

  -- the cells show these states
  pub as_taken : (v : Sight) (cells : List (RecCell P)) (states : List RecState) → values_of v.cells ≡ reverse (map (λ (s : RecState). Some s) states) → states_of cells ≡ states → AsTaken (records {P = P}) v cells
  as_taken v cells states values same = values ∙ ap (λ (l : List RecState). reverse (map (λ (s : RecState). Some s) l)) (sym same) ∙ ap reverse (sym (shows_states cells))

  pub as_after : (v : Sight) (h : History) (recs : List ℕ) (cells : List (RecCell P)) → numbers_of v.cells ≡ reverse recs → AreStatesOf (replayed h.base.site.opening (commits h)) recs (states_of cells) → AsAfter (records {P = P}) v h cells
  as_after v h recs cells numbers are =
      let shown : ℕ → Option RecState = λ c. slice_get (replayed h.base.site.opening (commits h)) c in
      after_values P h v.cells ∙ ap (map shown) numbers ∙ map_reverse shown recs ∙ ap reverse (sym are) ∙ ap reverse (sym (shows_states cells))

  -- the hub above it
  pub has_hub : (before v w : Sight) (hub : Books) (recs : List ℕ) (states : List RecState) → Visits before v recs states → w ≡ with_hub v w.seen hub → Found (records {P = P}) v w.seen hub → HasHub w hub recs states
  has_hub before v w hub recs states x is found =
      let cells_are : w.cells ≡ v.cells = ap (λ (z : Sight). z.cells) is in
      let many : length states ≡ length recs = many_in_hand v recs states x.numbers x.values in record {
        as_taken = hub;
        found = ap (λ (z : Sight). z.hub) is;
        subs_are = refl;
        base = found.base;
        entries = found.entries;
        legal = found.legal;
        own = subst (λ (z : ℕ × List Mark). KeepsSeat w.seen hub.subs z.0 z.1) (λ i. (sym (ap (λ (z : Sight). z.number) is) i, sym (ap (λ (z : Sight). z.log) is) i)) found.own;
        numbers = ap numbers_of cells_are ∙ x.numbers;
        values = ap values_of cells_are ∙ x.values;
        finds = subst (λ (l : List RecState). AreStatesOf l recs states) (sym (state_now w)) (states_from_each (replayed w.seen.base.site.opening (commits w.seen)) recs states many
            (λ j r at. shown_at j r at (some_there states j (omega (arith, many, slice_get_within recs j r at)))));
      }
    where
      state_now : (u : Sight) → state_at u.seen (now (seat_of u)) ≡ replayed u.seen.base.site.opening (commits u.seen)
      state_now u = ap (state_at u.seen) (as_many u.seen) ∙ last_state u.seen.base.site.opening (commits u.seen)

      shown_at : (j r : ℕ) → slice_get recs j ≡ Some r → ((s : RecState) × (slice_get states j ≡ Some s)) → slice_get states j ≡ slice_get (replayed w.seen.base.site.opening (commits w.seen)) r
      shown_at j r at t =
          t.1 ∙ each_in_hand v recs states (λ p. p.1 ≡ shown_by (records {P = P}) w.seen p.0) x.numbers x.values found.shown j r t.0 at t.1

  -- what others did before it was taken
  pub others_before : (before v w : Sight) (hub : Books) (recs : List ℕ) (states : List RecState) → Visits before v recs states → w ≡ with_hub v w.seen hub → Found (records {P = P}) v w.seen hub → Adds (seat_of before) (seat_of w) []
  others_before before v w hub recs states x is found =
      let number : w.number ≡ before.number = ap (λ (z : Sight). z.number) is ∙ ap (λ (z : Sight). z.number) x.same in
      let log : w.log ≡ before.log = ap (λ (z : Sight). z.log) is ∙ ap (λ (z : Sight). z.log) x.same in
      let goes : Begins before.seen w.seen = subst (λ (z : History). Begins z w.seen) (ap (λ (z : Sight). z.seen) x.same) found.goes_on in
      let did : deeds_by before.number w.seen.deeds ≡ deeds_by before.number before.seen.deeds =
      subst (λ (z : ℕ × History). deeds_by z.0 w.seen.deeds ≡ deeds_by z.0 z.1.deeds) (λ i. ((x.same i).number, (x.same i).seen)) found.did in record {
        number = number;
        log = log ∙ sym (append-nil before.log);
        grows = goes;
        legal = found.legal;
        order = grown_length {h = before.seen} {k = w.seen} goes;
        true_ = tt;
        own = ap (λ (n : ℕ). deeds_by n w.seen.deeds) number ∙ did ∙ sym (append-nil (deeds_by before.number before.seen.deeds));
      }

-- it may be left
pub left_alone : (before v w : Sight) (recs : List ℕ) (states : List RecState) → Visits before v recs states → w ≡ in_visit v v.bound [] → seat_of w ≡ seat_of before
left_alone before v w recs states x is = ap seat_of is ∙ ap (λ (z : Sight). seat_of (in_visit z v.bound [])) x.same

-- the states in hand are valid
pub valid_in_hand : (before v : Sight) (recs : List ℕ) (states : List RecState) → Visits before v recs states → (site : SiteData) → before.seen.base.site ≡ site → AreValid site.configs site.opening
    → (j r : ℕ) (config : Config) (s : RecState) → slice_get recs j ≡ Some r → slice_get states j ≡ Some s → slice_get site.configs r ≡ Some config → IsValid config s
valid_in_hand before v recs states x site site_is valid j r config s at_r at_s configured =
    let was : WasLegal before.seen.base (r, Some s) = each_in_hand v recs states (WasLegal before.seen.base) x.numbers x.values x.was j r s at_r at_s in
    let es : List Entry = was.0 in
    let legal : AreLegal site.configs site.opening es = subst (λ (z : SiteData). AreLegal z.configs z.opening es) site_is was.1 in
    let all : AreValid site.configs (replayed site.opening es) =
    subst (λ (l : List Entry). AreValid site.configs (replayed site.opening l)) (take-length es) (valid_history site.configs site.opening es valid legal (length es) (omega arith)) in
    let found : slice_get (replayed site.opening es) r ≡ Some s = subst (λ (z : SiteData). slice_get (replayed z.opening es) r ≡ Some s) site_is (sym was.2) in
    valid_at site.configs (replayed site.opening es) r config s all configured found

-- the records are in hand
pub in_hand : (v : Sight) (recs footprint : List ℕ) → numbers_of v.cells ≡ reverse recs → footprint ≡ recs → (c : ℕ) → Among c footprint → Among c (numbers_of v.cells)
in_hand v recs footprint numbers is c among =
    subst (Among c) (sym numbers) (turned recs (subst (Among c) is among))
  where
    turned : (ns : List ℕ) → Among c ns → Among c (reverse ns)
    turned [] a = a
    turned (n ∷ ns) (zero, less, same) = subst (Among c) (sym (rev n ns)) (among_right c (reverse ns) (n ∷ []) (0, omega arith, same))
    turned (n ∷ ns) (suc k, less, same) = subst (Among c) (sym (rev n ns)) (among_left c (reverse ns) (n ∷ []) (turned ns (k, omega (arith, less), same)))

-- the cells are those that were visited
pub no_cells : {P : Type 0} (cells items : List (RecCell P)) → cells ≡ items → states_of cells ≡ states_of items
no_cells cells items is = ap states_of is
