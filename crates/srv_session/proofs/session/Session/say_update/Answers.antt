use Rattle.std.proofs.Common.{◌∙◌, ap}
use Rattle.std.specs.FinSet.{is_subset-contains}
use Rattle.std.proofs.lemmas.Cmp.{nat_cmp_total}
use Rattle.pvd_type.specs.Numbers.{leaves}
use Rattle.pvd_value.specs.Fits.{fits_of}
use Rattle.pvd_value.specs.View.{view}
use Rattle.srv_session.proofs.session.Session.say_update.Goals as goal

pub write_monitor_update-requires-clause-fits : goal.write_monitor_update-requires-clause-fits
write_monitor_update-requires-clause-fits c = (
  ap (λ v. fits_of 16 (view v) c.args.ty.now) c.value.ensures ∙ c.requires.fits,
  λ n is. is_subset-contains nat_cmp_total c.args.update.now.changed (leaves c.args.ty.now) c.requires.changed n is,
)
