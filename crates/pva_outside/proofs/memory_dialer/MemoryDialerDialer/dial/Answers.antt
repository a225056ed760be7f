use Rattle.pva_outside.proofs.Coming.{rest_from}
use Rattle.pva_outside.proofs.memory_dialer.MemoryDialerDialer.dial.Goals as goal

pub returns-clause-meets : goal.returns-clause-meets
returns-clause-meets c =
    let s = c.args.self.now in
    let server = c.in-Some.server.now in
    let at = rw c.deref.ensures.value at c.in-Some.ensures.lookup in
    (server, rest_from s.servers.items s.reached server at.3.0 at.1, c.in-Ok-link.ensures.wire, c.in-Ok-link.ensures.script)
