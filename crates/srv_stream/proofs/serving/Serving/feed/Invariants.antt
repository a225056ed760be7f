use Rattle.std.proofs.Common.{◌≤◌, ◌-◌, Some, take, length}
use Rattle.srv_stream.specs.Views.{view_of}
use Rattle.srv_stream.specs.Streams.{Passed}
use Rattle.srv_stream.proofs.serving.Serving.feed.Given as goal

-- the bytes so far were taken
abbrev pub invariant-pieces : goal.invariant-pieces
invariant-pieces g l = record {
  within : l.at ≤ length l.piece;
  passed : Passed (g.D.Desk.seat l.fn.desk) (g.D.Desk.seat l.desk) (Some l.moment) (view_of l.fn.self) (view_of l.self) (take l.at l.piece);
}

abbrev pub decreases-pieces : goal.decreases-pieces
decreases-pieces g l = length l.initial.piece - l.at
