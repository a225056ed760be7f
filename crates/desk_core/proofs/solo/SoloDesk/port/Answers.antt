use Rattle.std.proofs.Common.{◌<◌, length, subst, arith}
use Rattle.desk_api.specs.declared.history.Base.{Base}
use Rattle.desk_core.proofs.Ported.{as_many_ports}
use Rattle.desk_core.proofs.solo.SoloDesk.port.Goals as goal

pub index-requires : goal.index-requires
index-requires g c =
    let d = c.args.self.now in
    let named = subst (λ (b : Base). c.args.rec < length b.site.names) d.stands.base_is c.requires in
    omega (arith, named, c.names_and_configs.ensures.same, as_many_ports d.terms.site.configs d.cells.ports.items d.ported, d.cells.ports.ok)
