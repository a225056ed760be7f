use Rattle.std.proofs.Common.{subst}
use Rattle.hall_core.specs.Floor.{IsReady, commit, event_of}
use Rattle.hall_core.proofs.Floors.{step_sound}
use Rattle.hall_core.proofs.floor.Floor.step.Goals as goal

pub returns-in-Commit-clause-sound : goal.returns-in-Commit-clause-sound
returns-in-Commit-clause-sound g c = step_sound _ _ _ _ _ _ _ g.T.Law.meaning c.args.self.now (commit c.in-Commit.actor c.in-Commit.next.hub c.in-Commit.next.writes.items) c.commit.result c.commit.new.self
    (subst (λ e. IsReady g.T.Law.meaning c.args.self.now (event_of e)) c.in-Commit.is c.requires.ready) c.commit.ensures
