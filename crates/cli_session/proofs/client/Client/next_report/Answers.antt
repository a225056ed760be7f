use Rattle.std.proofs.Common.{rules}
use Rattle.cli_session.specs.Seen.{reports_view}
use Rattle.cli_session.specs.Views.{view_of, ask_of}
use Rattle.cli_session.proofs.Standing.{handed, handed_stands}
use Rattle.cli_session.proofs.client.Client.next_report.Goals as goal

pub returns-clause-gives : goal.returns-clause-gives
returns-clause-gives c = search rules

pub returns-clause-accounts : goal.returns-clause-accounts
returns-clause-accounts c events given taken accounts =
    handed (ask_of c.args.self.now) events given taken (view_of c.args.self.now) _ (reports_view c.pop_front.result) (returns-clause-gives c) accounts

pub returns-clause-stands : goal.returns-clause-stands
returns-clause-stands c events given taken stands =
    handed_stands (ask_of c.args.self.now) events given taken (view_of c.args.self.now) _ (reports_view c.pop_front.result) (returns-clause-gives c) stands
