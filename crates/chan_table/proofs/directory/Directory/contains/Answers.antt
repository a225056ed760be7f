use Rattle.std.specs.Prelude.{is_some}
use Rattle.std.proofs.Common.{ap, ◌∙◌}
use Rattle.std.specs.FinMap as map
use Rattle.chan_table.proofs.Gathered.{is_some-gathered}
use Rattle.chan_table.proofs.directory.Directory.contains.Goals as goal

pub returns : goal.returns
returns g c =
    c.is_some.ensures ∙ ap is_some c.get.ensures
    ∙ is_some-gathered c.self.inside.keys.entries.items c.self.inside.values c.self.inside.room _ c.self.invariant c.args.number
    ∙ ap (λ k. is_some (map.get k.values c.args.number)) c.self.view_is
