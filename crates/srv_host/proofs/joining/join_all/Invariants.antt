use Rattle.std.proofs.Common.{◌≡◌}
use Rattle.histories.specs.History.{Every}
use Rattle.std.specs.Vec.Iter.{into_iter_items}
use Rattle.srv_stream.specs.Streams.{moment_told}
use Rattle.srv_host.specs.Running.{IsBegun, wires_of}
use Rattle.srv_host.proofs.Joined.{Joining}
use Rattle.srv_host.proofs.joining.join_all.Given as goal

abbrev pub invariant-loop-one : goal.invariant-loop-one
invariant-loop-one g l =
    (l.pass.seat.table_id ≡ l.initial.pass.seat.table_id)
    × (Every (IsBegun g.A.Link.Link.wire g.C.Clock.moment l.hall.table.shared.table_id l.initial.pass.seat.me.0.seen (g.C.Clock.moment l._clock) l.fn._order) (into_iter_items l.one-iterator))
    × Joining l.initial.pass.seat.me.0 l.pass.seat.me.0 (g.A.Listener.door l.initial.listener) (g.A.Listener.door l.listener) (moment_told (g.C.Clock.moment l._clock)) l.fn._order (wires_of g.A.Link.Link.wire l.fn.running.items) (wires_of g.A.Link.Link.wire (into_iter_items l.one-iterator)) l.fine l.going
