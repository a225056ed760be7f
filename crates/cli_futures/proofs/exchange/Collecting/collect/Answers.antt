use Rattle.std.proofs.Common.{List, map, ◌∙◌, sym, subst, refl}
use Rattle.cli_session.specs.Seen.{report_view}
use Rattle.cli_session.specs.Steps.{Told}
use Rattle.cli_session.specs.declared.report.Report.{Report}
use Rattle.cli_futures.specs.Exchanging.{HasExchanged}
use Rattle.cli_futures.specs.Turning.{IsGoing}
use Rattle.cli_futures.specs.declared.end.ExchangeEnd.TheVariants as ends
use Rattle.cli_futures.proofs.Collected.{conversing_short, told_push}
use Rattle.cli_futures.proofs.Conversing.{ends_on, ran_none, ran_on, rested_on}
use Rattle.cli_futures.proofs.exchange.Collecting.collect.Goals as goal

pub reports-init : goal.reports-init
reports-init g c = record { collects = λ ask begin h. h; ran = ran_none (g.L.Link.wire c.args.self.now.conversation.link) c.args.self.now.conversation.idles; patience = refl }

pub reports-preserved : goal.reports-preserved
reports-preserved g c = record {
  collects = λ ask begin h.
      subst (λ (l : List Told). IsGoing g.L.Link.wire ask begin l c.advance.new.self) (told_push c.reports.self.reports.items c.push.new.self.items c.in-Told.report c.in-Ok.ensures.items)
      (c.in-Told.ensures.advances ask begin _ (c.reports.invariant.collects ask begin h));
  ran = ran_on c.reports.invariant.ran c.in-Told.ensures.idles;
  patience = c.in-Told.ensures.patience ∙ c.reports.invariant.patience;
}

pub returns-in-Err-clause-collects : goal.returns-in-Err-clause-collects
returns-in-Err-clause-collects g c = λ ask begin h.
    subst (λ (l : List Report). HasExchanged ask c.advance.new.self.patience begin (g.L.Link.wire c.advance.new.self.link) (map report_view l) ends.NoMemory) (sym c.in-Err.ensures.items)
    (conversing_short (report_view c.in-Told.report) (c.in-Told.ensures.advances ask begin _ (c.reports.invariant.collects ask begin h)) c.advance.new.self.patience)

pub returns-in-Waits-clause-collects : goal.returns-in-Waits-clause-collects
returns-in-Waits-clause-collects g c = λ ask begin h. c.in-Waits.ensures.advances ask begin _ (c.reports.invariant.collects ask begin h)

pub returns-in-Waits-clause-idles : goal.returns-in-Waits-clause-idles
returns-in-Waits-clause-idles g c = rested_on c.reports.invariant.ran c.in-Waits.ensures.idles

pub returns-in-Ended-clause-collects : goal.returns-in-Ended-clause-collects
returns-in-Ended-clause-collects g c = λ ask begin h. c.in-Ended.ensures.advances ask begin _ (c.reports.invariant.collects ask begin h)

pub returns-in-Ended-clause-idles : goal.returns-in-Ended-clause-idles
returns-in-Ended-clause-idles g c = ends_on _ (g.L.Link.wire c.reports.self.conversation.link) (g.L.Link.wire c.advance.new.self.link) _ c.reports.self.conversation.idles c.in-Ended.end c.reports.invariant.ran c.in-Ended.ensures.idles
