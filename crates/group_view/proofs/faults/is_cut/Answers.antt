use Rattle.std.proofs.Common.{refl, ◌∙◌}
use Rattle.std.proofs.lemmas.Bool.{eq-eqb}
use Rattle.group_view.proofs.Misplacing.{cut_is, known_before}
use Rattle.group_view.proofs.faults.is_cut.Goals as goal

pub returns : goal.returns
returns c = λ names knows.
    cut_is names c.args.name.now c.args.place _ c.contains.result refl (eq-eqb _ _ c.if-name-place-ne46.false) (c.contains.ensures ∙ known_before c.args.closed.now c.args.name.now c.args.place c.requires ∙ knows _)
