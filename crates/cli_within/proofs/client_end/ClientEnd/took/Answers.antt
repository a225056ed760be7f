use Rattle.std.proofs.Common.{refl}
use Rattle.cli_within.proofs.Ready.{given_more}
use Rattle.cli_within.proofs.client_end.ClientEnd.took.Goals as goal

pub returns : goal.returns
returns c = λ ask taken given h. given_more _ _ h c.took.ensures.ask refl refl (λ events told given. c.took.ensures.stands events told given)
