-- A hall of records as it is opened.
use Rattle.std.proofs.Common.{◌≡◌, ◌≤◌, ◌<◌, List, [], ◌∷◌, length, map, Option, option_map, refl, sym, ◌∙◌, ap, arith}
use Rattle.std.proofs.lemmas.List.{length-map}
use Rattle.std.specs.List.{slice_get, zip}
use Rattle.std.proofs.lemmas.Option.{slice_get-map}
use Rattle.rec_kinds.specs.declared.state.RecState.{RecState}
use Rattle.hall_core.specs.Floor.{Shows}
use Rattle.journal_core.specs.Legality.{AreValid}
use Rattle.desk_api.specs.declared.history.Base.{Base}
use Rattle.desk_api.specs.declared.history.SiteData.{SiteData}
use Rattle.desk_core.proofs.Listing.{valid_count}
use Rattle.desk_shared.specs.Hands.{states_of}
use Rattle.desk_shared.specs.Lent.{place_of}
use Rattle.desk_shared.specs.Records.{records}
use Rattle.desk_shared.specs.declared.records.RecCell.{RecCell}

pub firsts_of_zip : {A B : Type 0} (xs : List A) (ys : List B) → length ys ≡ length xs → map (λ p. p.0) (zip xs ys) ≡ xs
firsts_of_zip [] ys same = refl
firsts_of_zip (x ∷ xs) [] same = absurd (omega (arith, same))
firsts_of_zip (x ∷ xs) (y ∷ ys) same = ap (λ l. x ∷ l) (firsts_of_zip xs ys (omega (arith, same)))

pub places_of_zip : {A P : Type 0} (xs : List A) (ys : List (Option P)) → length ys ≡ length xs → map (λ p. place_of p.1) (zip xs ys) ≡ map place_of ys
places_of_zip [] [] same = refl
places_of_zip [] (y ∷ ys) same = absurd (omega (arith, same))
places_of_zip (x ∷ xs) [] same = refl
places_of_zip (x ∷ xs) (y ∷ ys) same = ap (λ l. place_of y ∷ l) (places_of_zip xs ys (omega (arith, same)))

module _ {P : Type 0} (cells : List (RecCell P)) where
  -- a cell for each record
  pub a_cell_each : (site : SiteData) → states_of cells ≡ site.opening → AreValid site.configs site.opening → length site.names ≡ length site.configs → length cells ≡ length site.names
  a_cell_each site same valid named =
      sym (length-map cells (λ (c : RecCell P). c.state)) ∙ ap length same ∙ sym (valid_count site.configs site.opening valid) ∙ sym named

  pub few_cells : (site : SiteData) → states_of cells ≡ site.opening → AreValid site.configs site.opening → length site.names ≡ length site.configs → length site.configs < 4001 → length cells ≤ 4096
  few_cells site same valid named few = let each = a_cell_each site same valid named in omega (arith, each, named, few)

  -- each shows its state at the opening
  pub cells_show : (base : Base) → states_of cells ≡ base.site.opening → Shows (records {P = P}) base [] cells
  cells_show base same = λ n cell there.
      sym (slice_get-map (λ (c : RecCell P). c.state) cells n ∙ ap (option_map (λ (c : RecCell P). c.state)) there) ∙ ap (λ (l : List RecState). slice_get l n) same
