-- Entries of one and of two actions.
use Rattle.std.proofs.Common.{◌≡◌, ℕ, ◌+◌, ◌*◌, ◌^◌, ◌<◌, List, [], ◌∷◌, length, ◌∙◌, ap, lit<, arith}
use Rattle.std.proofs.lemmas.List.Elements.{All-same, All-cons, All-nil}
use Rattle.rec_kinds.specs.declared.datum.Datum.{Datum}
use Rattle.rec_kinds.specs.declared.datum.Action.{Action}
use Rattle.rec_kinds.specs.declared.datum.Action.TheVariants.{Put, Process}
use Rattle.rec_kinds.specs.declared.state.RecState.{RecState}
use Rattle.journal_core.specs.Weights.{payload, weight_with}
use Rattle.journal_core.specs.Histories.{WritesWithin}

pub weight_of_one : (footprint : List ℕ) (actions : List (ℕ × Action)) (action : Action) → length footprint ≡ 1 → actions ≡ (0, action) ∷ [] → payload action ≡ 8 → weight_with footprint actions ≡ 136
weight_of_one footprint actions action one is eight =
    ap (weight_with footprint) is ∙ ap (λ (n : ℕ). 64 + 32 * n + (0 + (32 + payload action))) one ∙ ap (λ (p : ℕ). 64 + 32 * 1 + (0 + (32 + p))) eight

pub within_one : (writes : List (ℕ × RecState)) (state : RecState) → writes ≡ (0, state) ∷ [] → WritesWithin 1 writes
within_one writes state is =
    All-same (λ (w : ℕ × RecState). w.0 < 1) writes ((0, state) ∷ []) is (All-cons (λ (w : ℕ × RecState). w.0 < 1) (0, state) [] (lit< tt) (All-nil (λ (w : ℕ × RecState). w.0 < 1)))

pub two_are_light : (footprint : List ℕ) (actions : List (ℕ × Action)) (datum : Datum) → length footprint ≡ 2 → actions ≡ (4, Put datum) ∷ (7, Process) ∷ [] → payload (Put datum) < 1000 → weight_with footprint actions < 2 ^ 64
two_are_light footprint actions datum two are small =
    let sum : weight_with footprint actions ≡ 64 + 32 * length footprint + (0 + (32 + payload (Put datum)) + (32 + 0)) = ap (weight_with footprint) are in
    omega (arith, sum, two, small)
