use Rattle.std.specs.Prelude.{Some, None}
use Rattle.std.proofs.Common.{sym, ap, ◌∙◌}
use Rattle.std.specs.FinMap as map
use Rattle.chan_table.proofs.Gathered.{get-known}
use Rattle.chan_table.proofs.directory.Directory.get_near.Goals as goal

pub returns-in-Some : goal.returns-in-Some
returns-in-Some g c =
    c.get.ensures
    ∙ sym (get-known c.self.inside.keys.entries.items c.self.inside.values c.args.number (Some c.in-Some.key) (sym c.in-Some.is ∙ c.get_near-key.ensures))
    ∙ ap (λ k. map.get k.values c.args.number) c.self.view_is

pub returns-in-None : goal.returns-in-None
returns-in-None g c =
    sym (get-known c.self.inside.keys.entries.items c.self.inside.values c.args.number None (sym c.in-None.is ∙ c.get_near-key.ensures))
    ∙ ap (λ k. map.get k.values c.args.number) c.self.view_is
