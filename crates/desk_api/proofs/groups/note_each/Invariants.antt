use Rattle.std.specs.Prelude.{◌≡◌, length, map, take}
use Rattle.desk_api.specs.Grouping.{IsNotedFor}
use Rattle.desk_api.proofs.groups.note_each.Given as goal

-- the number is noted for the records so far
abbrev pub invariant-loop-rec : goal.invariant-loop-rec
invariant-loop-rec l =
    (length l.index.items ≡ length l.fn.index.items)
    × IsNotedFor (take l.rec-index l.recs) l.number (map (λ v. v.items) l.fn.index.items) (map (λ v. v.items) l.index.items)
