use Rattle.std.proofs.Common.{refl}
use Rattle.cli_futures.proofs.Taken.{taken_nothing}
use Rattle.cli_futures.proofs.stream_client.StreamClient.start.Goals as goal

pub returns : goal.returns
returns c = taken_nothing c.args.ask _ c.start.ensures.ask c.start.ensures.stands c.new.ensures refl
