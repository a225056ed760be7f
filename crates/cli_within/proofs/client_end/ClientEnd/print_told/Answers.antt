use Rattle.std.proofs.Common.{◌∙◌, ap, length, refl, arith}
use Rattle.cli_session.specs.Seen.{report_view}
use Rattle.cli_within.specs.Ends.{client_view}
use Rattle.cli_within.proofs.Hearing.{told_end, told_nothing, told_one, told_stopped}
use Rattle.cli_within.proofs.client_end.ClientEnd.print_told.Goals as goal

pub reports-init : goal.reports-init
reports-init g c = told_nothing (client_view c.args.self.now) _ _

pub reports-preserved : goal.reports-preserved
reports-preserved g c =
    told_one (client_view c.args.self.now) (client_view c.reports.self) _ _ _ _ _ _ _ (report_view c.in-Some.report) c.reports.invariant c.in-Some.ensures.gives.told
    (λ events told given. c.in-Some.ensures.stands events told given) c.first_ending-self.ensures c.in-Some.ensures.ask refl c.in-Ok.ensures

pub reports-smaller : goal.reports-smaller
reports-smaller g c = omega (arith, ap length c.in-Some.ensures.gives.told)

pub returns-in_default-clause-ask : goal.returns-in_default-clause-ask
returns-in_default-clause-ask g c = c.in_default.ensures.ask ∙ c.reports.invariant.ask

pub returns-in_default-clause-stream : goal.returns-in_default-clause-stream
returns-in_default-clause-stream g c = c.reports.invariant.stream

pub returns-in_default-clause-tells : goal.returns-in_default-clause-tells
returns-in_default-clause-tells g c = told_end (client_view c.args.self.now) (client_view c.reports.self) _ _ _ _ _ c.reports.invariant c.in_default.ensures.gives refl

pub returns-in-Err-clause-ask : goal.returns-in-Err-clause-ask
returns-in-Err-clause-ask g c = c.in-Some.ensures.ask ∙ c.reports.invariant.ask

pub returns-in-Err-clause-stream : goal.returns-in-Err-clause-stream
returns-in-Err-clause-stream g c = c.reports.invariant.stream

pub returns-in-Err-clause-tells : goal.returns-in-Err-clause-tells
returns-in-Err-clause-tells g c =
    told_stopped (client_view c.args.self.now) (client_view c.reports.self) _ _ _ _ _ _ (report_view c.in-Some.report) _ c.in-Err.stop c.reports.invariant c.in-Some.ensures.gives.told c.in-Err.ensures
