use Rattle.std.proofs.Common.{◌∙◌, ap}
use Rattle.std.specs.Arc.{arc_value}
use Rattle.std.specs.FinMap as map
use Rattle.pvd_desc.proofs.Maps.{given}
use Rattle.pvd_desc.proofs.registry.Definitions.define.Goals as goal

pub returns-clause-ok : goal.returns-clause-ok
returns-clause-ok c =
    given c.self.inside.types.entries c.insert.new.self.entries c.args.id c.in_ok-ty.ty c.in_ok-insert.ensures.updates.0
    ∙ ap (map.insert _ c.args.id) c.in_ok-ty.ensures ∙ ap (λ m. map.insert m c.args.id (arc_value c.args.ty.now)) c.self.view_is
