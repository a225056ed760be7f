use Rattle.std.proofs.Common.{◌≡◌, ◌∙◌, ap, arith, true, Result, Ok, Err, IfOk}
use Rattle.pvd_type.specs.Tree.{Tree}
use Rattle.pvd_value.specs.Data.{Data}
use Rattle.pvd_value.specs.View.{view}
use Rattle.pvd_value.specs.Fits.{fits_of}
use Rattle.pvd_value.specs.Blank.{blank_of}
use Rattle.pvd_value.specs.declared.value.PvValue.{PvValue}
use Rattle.pvd_value.proofs.Blanks.{blank_fits}
use Rattle.pvd_value.proofs.blanking.blank.Goals as goal

ok_fits : {E : Type 0} (r : Result PvValue E) (t : Tree) → IfOk r (λ v. view v ≡ blank_of t) → IfOk r (λ v. fits_of 16 (view v) t ≡ true)
ok_fits (Ok v) t e = ap (λ (d : Data). fits_of 16 d t) e ∙ blank_fits 16 t (omega arith)
ok_fits (Err e) t h = h

pub returns-clause-fits : goal.returns-clause-fits
returns-clause-fits c = ok_fits c.blank_shape.result c.args.ty.now (rw (← c.shape.ensures.tree) c.blank_shape.ensures)
