use Rattle.std.proofs.Common.{◌≡◌, [], refl}
use Rattle.std.proofs.lemmas.List.{nil_from_length}
use Rattle.std.proofs.lemmas.Option.{MatchOption-at_none}
use Rattle.cli_session.specs.Seen.{telling_view}
use Rattle.cli_session.specs.Views.{state_of}
use Rattle.cli_session.proofs.Replied.{step_of}
use Rattle.cli_session.proofs.Sending.{quiet}
use Rattle.cli_session.proofs.session.Session.hear.Goals as goal

pub returns-in_default-clause-takes : goal.returns-in_default-clause-takes
returns-in_default-clause-takes c =
    let s = state_of c.args.self.now in
    let out = c.args.out.now.items in
    let none : s.turns ≡ [] = nil_from_length s.turns (MatchOption-at_none _ _ c.in_default.is c.split_first.ensures.cases) in
    quiet _ s s out out (telling_view c.untold.result) (step_of c.args.ask.now s [] c.args.event.now none) refl refl c.untold.ensures
