use Rattle.std.proofs.Common.{[], ◌∷◌}
use Rattle.cli_session.specs.Messages.{last_messages}
use Rattle.cli_session.specs.Steps.{refusal}
use Rattle.cli_session.specs.Views.{state_of}
use Rattle.cli_session.proofs.Sending.{told_beside}
use Rattle.cli_session.proofs.session.Session.refuse.Goals as goal

pub returns-clause-takes : goal.returns-clause-takes
returns-clause-takes c =
    let s = state_of c.args.self.now in
    told_beside (record s { turns = [] }) (state_of c.end.new.self) (last_messages s c.args.turn) c.args.out.now.items c.end.new.out.items (refusal c.args.status ∷ []) (c.in_default.ensures {u = tt})
