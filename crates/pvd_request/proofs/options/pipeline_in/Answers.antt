use Rattle.std.proofs.Common.{◌∙◌, ap}
use Rattle.pvd_request.specs.Options.{truth_given}
use Rattle.pvd_request.proofs.options.pipeline_in.Goals as goal

pub returns : goal.returns
returns c = c.truth_given.ensures ∙ ap truth_given c.option_in.ensures
