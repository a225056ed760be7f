use Rattle.std.proofs.Common.{◌∙◌, ap, sym}
use Rattle.std.specs.FinMap as map
use Rattle.pvd_desc.specs.Shared.{first_of}
use Rattle.pvd_desc.proofs.Laid.{get_laid}
use Rattle.pvd_desc.proofs.chain.known.Goals as goal

pub returns-in-Some : goal.returns-in-Some
returns-in-Some c = sym (get_laid c.args.base.now c.args.changed.now c.args.id ∙ ap (λ x. first_of x (map.get c.args.base.now c.args.id)) (sym c.in-Some.ensures))

pub returns-in-None : goal.returns-in-None
returns-in-None c = c.get-in-None.ensures ∙ sym (get_laid c.args.base.now c.args.changed.now c.args.id ∙ ap (λ x. first_of x (map.get c.args.base.now c.args.id)) (sym c.in-None.ensures))
