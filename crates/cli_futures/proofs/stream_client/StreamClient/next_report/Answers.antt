use Rattle.std.proofs.Common.{refl}
use Rattle.cli_session.specs.Seen.{report_view}
use Rattle.cli_futures.specs.Taking.{client_view}
use Rattle.cli_futures.proofs.Taken.{hands_nothing, hands_one}
use Rattle.cli_futures.proofs.stream_client.StreamClient.next_report.Goals as goal

pub returns-in_default-clause-hands : goal.returns-in_default-clause-hands
returns-in_default-clause-hands c = hands_nothing (client_view c.args.self.now) _ c.in_default.ensures.gives c.in_default.ensures.ask refl refl (λ events told written. c.in_default.ensures.stands events told written)

pub returns-clause-hands : goal.returns-clause-hands
returns-clause-hands c = hands_one (client_view c.args.self.now) _ (report_view c.in-Some.report) c.in-Some.ensures.ask refl c.ends_by-self.ensures (λ events told written. c.in-Some.ensures.stands events told written)
