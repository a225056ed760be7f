use Rattle.std.specs.Prelude.{◌≡◌, ◌||◌, ℕ, slice_get, take}
use Rattle.std.specs.List.{list_any}
use Rattle.desk_api.specs.Grouping.{is_among}
use Rattle.desk_api.proofs.Noting.{is_read}
use Rattle.desk_api.proofs.groups.Groups.add_footprints.Given as goal

-- what the groups so far read was added
abbrev pub invariant-loop-number : goal.invariant-loop-number
invariant-loop-number l =
    (n : ℕ) → is_among l.found.items n
    ≡ (is_among l.fn.found.items n || list_any (λ k. is_read (slice_get l.self k) l.rec n) (take l.number-index l.number-items))
