use Rattle.std.proofs.Common.{◌≡◌, [], drop}
use Rattle.std.specs.List.{enumerate_from}
use Rattle.group_view.specs.Leaves.{leaves_at}
use Rattle.group_view.specs.Puts.{writers_among}
use Rattle.group_view.proofs.writer.writers_of.Given as goal

abbrev pub invariant-loop-number : goal.invariant-loop-number
invariant-loop-number l =
    writers_among (leaves_at l.own) l.found.entries (enumerate_from l.number (drop l.number l.members)) ≡ writers_among (leaves_at l.own) [] (enumerate_from 0 l.members)
