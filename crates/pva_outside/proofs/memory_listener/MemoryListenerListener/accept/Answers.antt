use Rattle.pva_outside.proofs.memory_listener.MemoryListenerListener.accept.Goals as goal

pub returns-clause-meets : goal.returns-clause-meets
returns-clause-meets c = (c.in-Some-next.client, rw c.in-Some-next.is at c.in-Some.ensures.items, c.into_link.ensures)
