use Rattle.std.proofs.Common.{◌≡◌, ℕ, ◌-◌, List}
use Rattle.pva_outside.specs.Wire.{Wire}
use Rattle.cli_session.specs.Steps.{Told}
use Rattle.cli_session.specs.declared.ask.Ask.{Ask}
use Rattle.cli_futures.specs.Turning.{IsGoing, Ran}
use Rattle.cli_futures.proofs.conversation.Conversation.advance.Given as goal

abbrev pub invariant-turns : goal.invariant-turns
invariant-turns g l = record {
  going : (ask : Ask) (begin : Wire) (told : List Told) → IsGoing g.L.Link.wire ask begin told l.initial.self → IsGoing g.L.Link.wire ask begin told l.self;
  ran : Ran (g.L.Link.wire l.initial.self.link) (g.L.Link.wire l.self.link) l.initial.self.idles l.self.idles;
  patience : l.self.patience ≡ l.initial.self.patience;
}

abbrev pub decreases-turns : goal.decreases-turns
decreases-turns g l = l.self.patience.turns - l.self.calls
