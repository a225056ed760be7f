use Rattle.std.specs.FinMap as map
use Rattle.std.proofs.Common.{subst}
use Rattle.chan_table.specs.Numbers.{IsNext, IsNoneFrom}
use Rattle.chan_table.proofs.Gathered.{next-none, next-some}
use Rattle.chan_table.proofs.directory.Directory.first_from.Goals as goal

pub returns-in-Some : goal.returns-in-Some
returns-in-Some g c =
    subst (λ k. IsNext (map.get k.values) c.args.from c.in-Some.entry.0) c.self.view_is
    (next-some c.self.inside.keys.entries.items c.self.inside.values c.self.inside.room _ c.args.from c.in-Some.entry c.self.invariant c.in-Some.ensures)

pub returns-in-None : goal.returns-in-None
returns-in-None g c =
    subst (λ k. IsNoneFrom (map.get k.values) c.args.from) c.self.view_is
    (next-none c.self.inside.keys.entries.items c.self.inside.values c.args.from c.in-None.ensures)
