use Rattle.std.proofs.Common.{◌∙◌, ap, sym, Some, option_map}
use Rattle.std.specs.Arc.{arc_value}
use Rattle.std.specs.FinMap as map
use Rattle.pvd_desc.proofs.Maps.{found_hashed}
use Rattle.pvd_desc.proofs.registry.Registry.get.Goals as goal

pub returns-in-Some : goal.returns-in-Some
returns-in-Some c =
    ap Some c.deref.ensures ∙ ap (option_map arc_value) c.in-Some.ensures.value
    ∙ sym (found_hashed c.self.inside.types.entries c.args.id) ∙ ap (λ m. map.get m c.args.id) c.self.view_is

pub returns-in-None : goal.returns-in-None
returns-in-None c =
    ap (option_map arc_value) c.in-None.ensures.value ∙ sym (found_hashed c.self.inside.types.entries c.args.id) ∙ ap (λ m. map.get m c.args.id) c.self.view_is
