use Rattle.std.proofs.Common.{◌≤◌, ◌-◌, ◌*◌, ◌+◌}
use Rattle.srv_stream.specs.Streams.{moment_told}
use Rattle.srv_stream.specs.Views.{view_of}
use Rattle.srv_stream.proofs.Going.{Standing}
use Rattle.srv_stream.proofs.Turns.{is_to_pump}
use Rattle.srv_stream.proofs.serve.serve.Given as goal

abbrev pub invariant-turns : goal.invariant-turns
invariant-turns g l = record {
  within : l.calls ≤ l.turns;
  standing : Standing (g.D.Desk.seat l.fn.desk) (g.D.Desk.seat l.desk) (g.L.Link.wire l.fn.link) (g.L.Link.wire l.link) (moment_told (g.C.Clock.moment l.clock)) l.fn.order (view_of l.serving) l.over l.pumped l.calls;
}

-- each call takes a turn, and before the next call one pump finds something, or nothing is unread
abbrev pub decreases-turns : goal.decreases-turns
decreases-turns g l = (l.turns - l.calls) + (l.turns - l.calls) + is_to_pump (view_of l.serving).pending l.pumped
