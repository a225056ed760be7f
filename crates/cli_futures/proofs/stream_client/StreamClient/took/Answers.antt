use Rattle.std.proofs.Common.{refl}
use Rattle.cli_futures.proofs.Taken.{written_more}
use Rattle.cli_futures.proofs.stream_client.StreamClient.took.Goals as goal

pub returns : goal.returns
returns c = λ ask read written told h. written_more h _ _ c.took.ensures.ask refl refl (λ events told written. c.took.ensures.stands events told written)
