use Rattle.std.specs.FinMap as map
use Rattle.chan_table.specs.Numbers.{IsLeastAbsent}
use Rattle.std.proofs.Common.{subst}
use Rattle.chan_table.proofs.Gathered.{absent-gathered}
use Rattle.chan_table.proofs.directory.Directory.least_absent.Goals as goal

pub returns : goal.returns
returns g c =
    subst (λ k. IsLeastAbsent (map.get k.values) c.least_absent.result) c.self.view_is
    (absent-gathered c.self.inside.keys.entries.items c.self.inside.values c.self.inside.room _ c.least_absent.result c.self.invariant c.least_absent.ensures)
