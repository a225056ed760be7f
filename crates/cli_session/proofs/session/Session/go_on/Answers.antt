use Rattle.cli_session.specs.Seen.{telling_view}
use Rattle.cli_session.specs.Views.{state_of}
use Rattle.cli_session.proofs.Sending.{went_on}
use Rattle.cli_session.proofs.session.Session.go_on.Goals as goal

pub returns-clause-takes : goal.returns-clause-takes
returns-clause-takes c =
    went_on c.args.ask.now (state_of c.args.self.now) (state_of c.next.new.self) c.args.later.now c.args.out.now.items c.next.new.out.items (telling_view c.untold.result) (c.in_ok-next.ensures {u = tt}) c.untold.ensures
