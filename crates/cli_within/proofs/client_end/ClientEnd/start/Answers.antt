use Rattle.std.proofs.Common.{refl}
use Rattle.cli_within.proofs.Ready.{taken_nothing}
use Rattle.cli_within.proofs.client_end.ClientEnd.start.Goals as goal

pub returns : goal.returns
returns c = taken_nothing c.args.ask _ c.start.ensures.ask c.start.ensures.stands c.new.ensures refl
