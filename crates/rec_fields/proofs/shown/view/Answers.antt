use Rattle.rec_fields.proofs.Shows.{shown_fits}
use Rattle.pvd_value.specs.View.{view}
use Rattle.rec_fields.proofs.shown.view.Goals as goal

pub returns-clause-fits : goal.returns-clause-fits
returns-clause-fits c =
    shown_fits c.args.config.now c.args.state.now (view c.in_ok-whole.whole) c.requires.sort c.in_ok-whole.ensures
