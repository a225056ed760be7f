use Rattle.std.proofs.Common.{◌∙◌, ap}
use Rattle.pvd_request.specs.Options.{read_or, queue_of}
use Rattle.pvd_request.proofs.options.queue_in.Goals as goal

pub returns : goal.returns
returns c = c.queue_given.ensures ∙ ap (read_or 4 queue_of) c.option_in.ensures
