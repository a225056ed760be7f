use Rattle.std.proofs.Common.{List, map, sym, subst}
use Rattle.cli_session.specs.Seen.{report_view}
use Rattle.cli_session.specs.declared.report.Report.{Report}
use Rattle.cli_futures.specs.Exchanging.{HasExchanged}
use Rattle.cli_futures.specs.Turning.{IsGoing}
use Rattle.cli_futures.specs.declared.end.Patience.{Patience}
use Rattle.cli_futures.proofs.exchange.Exchange.start.Goals as goal

pub returns-clause-gives : goal.returns-clause-gives
returns-clause-gives g c = λ x gives.
    let begin = g.L.Link.wire c.args.link in
    let going = subst (λ (l : List Report). IsGoing g.L.Link.wire c.args.ask begin (map report_view l) c.start.result) (sym c.new.ensures.items) c.start.ensures.going in
    subst (λ (p : Patience). HasExchanged c.args.ask p begin (g.L.Link.wire x.link) (map report_view x.reports.items) x.end) c.start.ensures.patience (gives c.args.ask begin going)
