use Rattle.std.proofs.Common.{◌≡◌}
use Rattle.histories.specs.History.{Every}
use Rattle.srv_host.specs.Running.{IsBegun, wires_of}
use Rattle.srv_host.proofs.Turning.{Turning}
use Rattle.srv_host.proofs.accepting.accept_all.Given as goal

abbrev pub invariant-turns : goal.invariant-turns
invariant-turns g l =
    (l.pass.seat.table_id ≡ l.initial.pass.seat.table_id)
    × (l.pass.seat.me.0 ≡ l.initial.pass.seat.me.0)
    × (Every (IsBegun g.A.Link.Link.wire g.C.Clock.moment l.hall.table.shared.table_id l.initial.pass.seat.me.0.seen (g.C.Clock.moment l.clock) l.means.order) l.running.items)
    × Turning l.site l.setup l.fn.beacon_to (g.A.Listener.door l.initial.listener) (g.A.Listener.door l.listener) (g.G.Datagrams.datagrams l.initial.datagrams) (g.G.Datagrams.datagrams l.datagrams) (wires_of g.A.Link.Link.wire l.running.items) l.before
