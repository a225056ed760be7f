use Rattle.std.proofs.Common.{◌∙◌, ap, nat_cmp}
use Rattle.std.specs.FinMap.{from_entries}
use Rattle.std.specs.BTreeMap as tree
use Rattle.pvd_desc.specs.Shared.{shared, first_of}
use Rattle.pvd_desc.specs.Types.{laid}
use Rattle.pvd_desc.proofs.Maps.{filled}
use Rattle.pvd_desc.proofs.registry.Registry.commit.Goals as goal

pub returns-clause-ok : goal.returns-clause-ok
returns-clause-ok c =
    filled c.self.inside.types.entries c.fill.new.types.entries c.defined.inside.types.entries
    (λ id. c.fill.ensures id ∙ ap (first_of (tree.get nat_cmp c.defined.inside.types id)) (c.in_ok-reserve.ensures.entries.2 id))
    ∙ ap (λ m. laid m (from_entries (shared c.defined.inside.types.entries))) c.self.view_is ∙ ap (laid c.args.self.now) c.defined.view_is
