use Rattle.srv_host.proofs.Passing.{Receiving}
use Rattle.srv_host.proofs.answering.receive_all.Given as goal

abbrev pub invariant-receives : goal.invariant-receives
invariant-receives g l = Receiving l.site l.setup (g.G.Datagrams.datagrams l.initial.datagrams) (g.G.Datagrams.datagrams l.datagrams) l.counter
