use Rattle.pva_messages.proofs.reading.read_to_client.Goals as goal

pub returns-clause-found : goal.returns-clause-found
returns-clause-found c = rw c.as_slice.ensures at c.read_reply.ensures.found
