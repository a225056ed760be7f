-- The first entry on two cells.
use Rattle.std.proofs.Common.{◌≡◌, ◌↔◌, ℕ, zero, suc, Bool, true, false, List, [], ◌∷◌, ◌++◌, length, map, slice_get, sym, refl, subst, ap, ◌∙◌, Some, replicate}
use Rattle.hall_core.specs.Meanings.{Among}
use Rattle.hall_core.specs.Floor.{FloorState, Event, take_cell, take_hub, commit, look, give_cell, Steps, MayCommit}
use Rattle.hall_tests.specs.TwoCells.{two_cells}
use Rattle.hall_core.proofs.Floors.{length_written}

abbrev St : Type 0
St = FloorState ℕ ℕ

abbrev Un : Type 0
Un = Unit {0}

abbrev both : List (ℕ × ℕ)
both = (0, 1) ∷ (1, 1) ∷ []

shown_both : (at : ℕ) (w : ℕ × ℕ) → slice_get both at ≡ Some w → w.1 ≡ two_cells.shown_after tt (tt ∷ []) w.0
shown_both zero w e = let is : w ≡ (0, 1) = cc e in ap (λ (x : ℕ × ℕ). x.1) is ∙ ap (λ (x : ℕ × ℕ). two_cells.shown_after tt (tt ∷ []) x.0) (sym is)
shown_both (suc zero) w e = let is : w ≡ (1, 1) = cc e in ap (λ (x : ℕ × ℕ). x.1) is ∙ ap (λ (x : ℕ × ℕ). two_cells.shown_after tt (tt ∷ []) x.0) (sym is)
shown_both (suc (suc at)) w e = absurd (cc e)

-- no step makes or loses a cell
pub length_after : (f : St) (event : Event ℕ ℕ) (answer : Bool) (g : St) → Steps two_cells f event answer g → length g.cells ≡ length f.cells
length_after f event false g step = ap (λ (x : St). length x.cells) step.1
length_after f (take_cell actor cell) true g step = ap (λ (x : St). length x.cells) step.1
length_after f (take_hub actor) true g step = ap (λ (x : St). length x.cells) step.1
length_after f (commit actor hub writes) true g step = ap (λ (x : St). length x.cells) step.1 ∙ length_written f.cells writes
length_after f (look actor) true g step = ap (λ (x : St). length x.cells) step.1
length_after f (give_cell actor cell) true g step = ap (λ (x : St). length x.cells) step.1

pub hub_after_take : (f : St) (actor cell : ℕ) (answer : Bool) (g : St) → Steps two_cells f (take_cell actor cell) answer g → g.hub ≡ f.hub
hub_after_take f actor cell true g step = ap (λ (x : St). x.hub) step.1
hub_after_take f actor cell false g step = ap (λ (x : St). x.hub) step.1

pub hub_after_take_hub : (f : St) (actor : ℕ) (answer : Bool) (g : St) → Steps two_cells f (take_hub actor) answer g → g.hub ≡ f.hub
hub_after_take_hub f actor true g step = ap (λ (x : St). x.hub) step.1
hub_after_take_hub f actor false g step = ap (λ (x : St). x.hub) step.1

pub first_entry : (f : St) (writes : List (ℕ × ℕ)) → writes ≡ both → f.hub ≡ 0 → MayCommit two_cells f 1 writes
first_entry f writes is none = record {
  entry = tt;
  base = refl;
  entries = ap (λ n. replicate n tt ++ tt ∷ []) (sym none);
  legal = tt;
  footprint = λ cell. subst (λ (ws : List (ℕ × ℕ)). Among cell (map (λ w. w.0) ws) ↔ Among cell (0 ∷ 1 ∷ [])) (sym is) ((λ a. a), (λ a. a));
  shown = λ at w e. shown_both at w (ap (λ (ws : List (ℕ × ℕ)). slice_get ws at) (sym is) ∙ e);
}
