use Rattle.std.proofs.Common.{◌≡◌, ℕ, List, take, drop}
use Rattle.std.specs.List.{list_any}
use Rattle.group_view.specs.Faults.{Knows, is_among, above_from, is_below}
use Rattle.group_view.proofs.faults.is_below.Given as goal

abbrev pub invariant-loop-place : goal.invariant-loop-place
invariant-loop-place l =
    (names : List (List ℕ)) → Knows l.closed names → list_any (is_among names) (above_from (take l.place l.name) (drop l.place l.name)) ≡ is_below names l.name
