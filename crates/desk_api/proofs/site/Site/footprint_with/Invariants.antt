use Rattle.std.specs.Prelude.{◌≡◌, ℕ, take}
use Rattle.std.specs.List.{list_any}
use Rattle.desk_api.specs.Grouping.{is_among}
use Rattle.desk_api.specs.Puts.{is_held_with}
use Rattle.desk_api.proofs.site.Site.footprint_with.Given as goal

-- the records are those that are held with the actions so far
abbrev pub invariant-loop-rec : goal.invariant-loop-rec
invariant-loop-rec l =
    (n : ℕ) → is_among l.found.items n ≡ list_any (λ action. is_held_with l.self n action.0) (take l.rec-index l.actions)
