use Rattle.std.proofs.Common.{refl}
use Rattle.prog_client.proofs.networking.take_route.Goals as goal

pub seek-requires-clause-rounds : goal.seek-requires-clause-rounds
seek-requires-clause-rounds g c = rw c.in-Sought.is at c.requires.rounds

pub returns-in-Known : goal.returns-in-Known
returns-in-Known g c = λ start before p. rw c.in-Known.is (c.operate.ensures start before p, refl)

pub returns-in-Sought : goal.returns-in-Sought
returns-in-Sought g c = λ start before p. rw c.in-Sought.is (c.seek.ensures start before p)
