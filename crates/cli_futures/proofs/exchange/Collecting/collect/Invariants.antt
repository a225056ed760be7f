use Rattle.std.proofs.Common.{◌≡◌, ℕ, ◌-◌, ◌^◌, length}
use Rattle.pva_outside.specs.Wire.{Wire}
use Rattle.cli_session.specs.declared.ask.Ask.{Ask}
use Rattle.cli_futures.specs.Exchanges.{IsCollecting}
use Rattle.cli_futures.specs.Turning.{Ran}
use Rattle.cli_futures.proofs.exchange.Collecting.collect.Given as goal

abbrev pub invariant-reports : goal.invariant-reports
invariant-reports g l = record {
  collects : (ask : Ask) (begin : Wire) → IsCollecting g.L.Link.wire ask begin l.initial.self → IsCollecting g.L.Link.wire ask begin l.self;
  ran : Ran (g.L.Link.wire l.initial.self.conversation.link) (g.L.Link.wire l.self.conversation.link) l.initial.self.conversation.idles l.self.conversation.idles;
  patience : l.self.conversation.patience ≡ l.initial.self.conversation.patience;
}

-- A list holds fewer than 2^64 reports.
abbrev pub decreases-reports : goal.decreases-reports
decreases-reports g l = 2 ^ 64 - length l.self.reports.items
