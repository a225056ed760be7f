use Rattle.std.proofs.Common.{ℕ, List, length}
use Rattle.cli_session.specs.Steps.{Told}
use Rattle.cli_session.specs.declared.ask.Ask.{Ask}
use Rattle.cli_futures.specs.Taking.{HasTaken, client_view}
use Rattle.cli_futures.proofs.stream_client.StreamClient.next_told.Given as goal

abbrev pub invariant-events : goal.invariant-events
invariant-events l = (ask : Ask) (read written : List ℕ) (told : List Told) → HasTaken ask read written told (client_view l.initial.self) → HasTaken ask read written told (client_view l.self)

abbrev pub decreases-events : goal.decreases-events
decreases-events l = length (client_view l.self).stream.events
