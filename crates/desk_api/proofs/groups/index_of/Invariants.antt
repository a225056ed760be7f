use Rattle.std.specs.Prelude.{◌≡◌, length, map, take}
use Rattle.desk_api.specs.Grouping.{AreNoted}
use Rattle.desk_api.proofs.groups.index_of.Given as goal

-- the groups so far are noted
abbrev pub invariant-loop-number : goal.invariant-loop-number
invariant-loop-number l =
    (length l.index.items ≡ l.count) × AreNoted (map (λ v. v.items) l.index.items) (take l.number l.groups)
