use Rattle.srv_stream.specs.Streams.{moment_told}
use Rattle.srv_stream.proofs.Ending.{never_served}
use Rattle.srv_stream.proofs.serve.serve_connection.Goals as goal

pub returns-in_default-clause-served : goal.returns-in_default-clause-served
returns-in_default-clause-served g c = never_served (g.D.Desk.seat c.args.desk.now) (g.L.Link.wire c.args.link.now) (moment_told (g.C.Clock.moment c.args.clock.now)) c.args.order c.args.turns c.has_legal_history.ensures
