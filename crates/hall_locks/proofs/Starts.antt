-- The rule holds of a new hall.
use Rattle.std.proofs.Common.{◌≡◌, ℕ, zero, suc, ◌+◌, ◌<◌, List, [], ◌∷◌, map, length, get_or, replicate, slice_get, Option, Some, None, sym, refl, ap, ◌∙◌, subst, arith}
use mathlib.Core.Logic.{dite}
use mathlib.Core.Option.{some, some-injective, some-ne-none}
use native.Mathlib.Decide.{ℕ_discrete}
use lib.ListN.{get_elem?}
use Rattle.atomic_table.specs.Table.{opening}
use Rattle.hall_core.specs.Meanings.{Meaning}
use Rattle.hall_locks.specs.declared.view.View.{View}
use Rattle.hall_locks.specs.declared.view.Place.{Place}
use Rattle.hall_locks.specs.declared.view.Place.TheVariants.{Cell, Hub}
use Rattle.hall_locks.specs.Hall.{first_view, no_story, Fits, HasLog, IsFloor, Ruled}
use Rattle.hall_locks.proofs.Lists.{not_none, held_by, held_here, held_else}
use Rattle.hall_core.specs.Floor.{Shows, ends}
use Rattle.histories.proofs.Stories.{begins_self}

abbrev none_held : Option ℕ
none_held = None

abbrev zs : ℕ → List ℕ
zs n = replicate n 0

abbrev pub put_cell : {C H : Type 0} → C → Place C H
put_cell c = Cell c

zeros : (n k : ℕ) → get_or (zs n) k 0 ≡ 0
zeros zero k = refl
zeros (suc n) zero = refl
zeros (suc n) (suc k) = zeros n k

length_zeros : (n : ℕ) → length (zs n) ≡ n
length_zeros zero = refl
length_zeros (suc n) = ap suc (length_zeros n)

length_homes : (C H : Type 0) (cs : List C) → length (map some (map (λ (c : C). put_cell {C = C} {H = H} c) cs)) ≡ length cs
length_homes C H [] = refl
length_homes C H (c ∷ cs) = ap suc (length_homes C H cs)

free_at : (n c : ℕ) → c < n → slice_get (replicate n (none_held)) c ≡ Some None
free_at zero c l = absurd (omega arith)
free_at (suc n) zero l = refl
free_at (suc n) (suc c) l = free_at n c (omega arith)

free_only : (n c : ℕ) (h : Option ℕ) → slice_get (replicate n (none_held)) c ≡ Some h → h ≡ None
free_only zero c h e = absurd (cc e)
free_only (suc n) zero h e = let is : none_held ≡ h = cc e in sym is
free_only (suc n) (suc c) h e = free_only n c h e

length_frees : (n : ℕ) → length (replicate n (none_held)) ≡ n
length_frees zero = refl
length_frees (suc n) = ap suc (length_frees n)

module _ (C H E B M R S : Type 0) (law : Meaning C H E B M R S) where
  cell_at : (cs : List C) (c : ℕ) → c < length cs → (x : C) × (get_elem? (map some (map (λ (y : C). put_cell {C = C} {H = H} y) cs)) c ≡ some (some (Cell x))) × (slice_get cs c ≡ Some x)
  cell_at [] c l = absurd (omega arith)
  cell_at (x ∷ cs) zero l = (x, refl, refl)
  cell_at (x ∷ cs) (suc c) l = cell_at cs c (omega arith)

  first_fits : (hub : H) (j : ℕ) (v : View H E B M R S) → get_elem? (first_view (law.base_of hub) ∷ []) j ≡ some v → Fits law (no_story (law.base_of hub)) (λ _. 0) (held_by (λ _. 0) 0 1) (λ _. []) j v
  first_fits hub zero v e = subst (Fits law (no_story (law.base_of hub)) (λ _. 0) (held_by (λ _. 0) 0 1) (λ _. []) 0) (some-injective (first_view (law.base_of hub)) v e) record {
    seen = λ _. begins_self (no_story (law.base_of hub));
    old = tt;
    own = λ _. (refl, refl, refl, refl);
    did = λ _. refl;
    had = λ _. tt;
    others = tt;
    distinct = (not_none 0, tt);
    before = tt;
    unborn = λ silent. absurd (cc silent);
    cells = tt;
    falls = tt;
    hub = λ x is. absurd (cc is);
    empty = λ _. (refl, refl);
  }
  first_fits hub (suc j) v e = absurd (some-ne-none v (sym e))

  first_log : (hub : H) (k seat : ℕ) → held_by (λ _. 0) 0 1 k ≡ suc seat → HasLog law (first_view (law.base_of hub) ∷ []) seat k
  first_log hub k seat e = dite (ℕ_discrete k 0)
      (λ is. let first : 0 ≡ seat = let z : 1 ≡ suc seat = sym (held_here (λ _. 0) 0 1 k is) ∙ e in omega arith in
      subst (λ n. HasLog law (first_view (law.base_of hub) ∷ []) n k) first record { view = first_view (law.base_of hub); at = refl; live = refl; has = (0, omega arith, sym is) })
      (λ ne. let z : 0 ≡ suc seat = sym (held_else (λ _. 0) 0 1 k ne) ∙ e in absurd (omega arith))

  map_at : (cs : List C) (c : ℕ) (x : C) → slice_get cs c ≡ Some x → slice_get (map law.shows cs) c ≡ Some (law.shows x)
  map_at [] c x e = absurd (cc e)
  map_at (y ∷ cs) zero x e = let is : y ≡ x = cc e in ap (λ z. Some (law.shows z)) is
  map_at (y ∷ cs) (suc c) x e = map_at cs c x e

  map_back : (cs : List C) (c : ℕ) (y : S) → slice_get (map law.shows cs) c ≡ Some y → (x : C) × (slice_get cs c ≡ Some x) × (y ≡ law.shows x)
  map_back [] c y e = absurd (cc e)
  map_back (x ∷ cs) zero y e = let is : law.shows x ≡ y = cc e in (x, refl, sym is)
  map_back (x ∷ cs) (suc c) y e = map_back cs c y e

  length_map : (cs : List C) → length (map law.shows cs) ≡ length cs
  length_map [] = refl
  length_map (c ∷ cs) = ap suc (length_map cs)

  -- the floor of a new hall: nothing has happened
  opening_floor : (hub : H) (cells : List C) (count : ℕ) → count ≡ suc (length cells) → Shows law (law.base_of hub) [] cells → IsFloor law (law.base_of hub) count (no_story (law.base_of hub)) (λ _. 0)
  opening_floor hub cells count many shown = record {
    first = record { cells = map law.shows cells; holders = replicate (length cells) None; hub = (law.base_of hub, []); hub_holder = None };
    opening = record {
      empty = refl;
      shown = λ c y e. let t = map_back cells c y e in t.2 ∙ shown c t.0 t.1;
      free = λ c h e. free_only (length cells) c h e;
      hub_free = refl;
    };
    events = [];
    answers = [];
    entries = [];
    last = record { cells = map law.shows cells; holders = replicate (length cells) None; hub = (law.base_of hub, []); hub_holder = None };
    runs = ends;
    makers = refl;
    shows = record {
      cells_long = ap (λ n. n + 1) (length_map cells) ∙ omega arith;
      holders_long = ap (λ n. n + 1) (length_frees (length cells)) ∙ omega arith;
      cells = λ c l. let t = cell_at cells c (omega arith) in map_at cells c t.0 t.2 ∙ ap (λ y. Some y) (shown c t.0 t.2);
      holders = λ c l. free_at (length cells) c (omega arith);
      hub = refl;
      hub_holder = refl;
    };
  }

  pub starts : (hub : H) (cells : List C) (words : List ℕ) (slots : List (Place C H)) → law.entries hub ≡ [] → Shows law (law.base_of hub) [] cells → ((k : ℕ) → law.keeps hub (no_story (law.base_of hub)) k [])
      → words ≡ replicate (length cells + 1) 0 → slots ≡ Hub hub ∷ map (λ (y : C). Cell y) cells → Ruled law (law.base_of hub) (opening words slots (first_view (law.base_of hub)))
  starts hub cells words slots empty shown keeps zero_words places =
      let n : length cells + 1 ≡ suc (length cells) = omega arith in
      subst (λ (z : List ℕ × List (Place C H)). Ruled law (law.base_of hub) (opening z.0 z.1 (first_view (law.base_of hub)))) (λ i. (sym (zero_words ∙ ap (λ k. zs k) n) i, sym places i)) record {
        journal = no_story (law.base_of hub);
        holder = λ _. 0;
        keeper = held_by (λ _. 0) 0 1;
        logs = λ _. [];
        wide = ap suc (length_zeros (length cells) ∙ sym (length_homes C H cells));
        free = λ k l z. refl;
        taken = λ k l z. absurd (z (zeros (suc (length cells)) k));
        whose = λ k l z. absurd (z (zeros (suc (length cells)) k));
        nowhere = λ k l. refl;
        floor = opening_floor hub cells (length (zs (suc (length cells)))) (length_zeros (suc (length cells))) shown;
        same_base = refl;
        legal = tt;
        longest = record { seat = 0; view = first_view (law.base_of hub); at = refl; tells = refl; whole = refl };
        each = λ j v e. first_fits hub j v e;
        kept = first_log hub;
        unkept = λ k e. refl;
        beyond = λ k l. held_else (λ _. 0) 0 1 k (λ e. omega arith);
        pairs = λ k. tt;
        hub_home = λ _ _. record { value = hub; there = refl; hub = record { base = refl; entries = empty; keeps = keeps } };
        home = λ c l z. let m = length_zeros (length cells) in let t = cell_at cells c (omega arith) in record { value = t.0; there = t.1; shown = shown c t.0 t.2 };
        marks = λ k. tt;
      }
