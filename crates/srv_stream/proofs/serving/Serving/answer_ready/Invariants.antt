use Rattle.std.proofs.Common.{[], length, Some}
use Rattle.srv_stream.specs.Streams.{Passed}
use Rattle.srv_stream.specs.Views.{view_of}
use Rattle.srv_stream.proofs.serving.Serving.answer_ready.Given as goal

-- the events so far were answered
abbrev pub invariant-events : goal.invariant-events
invariant-events g l = Passed (g.D.Desk.seat l.fn.desk) (g.D.Desk.seat l.desk) (Some l.moment) (view_of l.fn.self) (view_of l.self) []

abbrev pub decreases-events : goal.decreases-events
decreases-events g l = length (view_of l.self).stream.events
