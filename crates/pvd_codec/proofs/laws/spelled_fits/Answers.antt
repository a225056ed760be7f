use Rattle.pvd_codec.proofs.FittingValues.{full_fits, part_fits}
use Rattle.pvd_codec.proofs.laws.spelled_fits.Goals as goal

pub returns-clause-full : goal.returns-clause-full
returns-clause-full c = full_fits

pub returns-clause-part : goal.returns-clause-part
returns-clause-part c = part_fits
