use Rattle.std.proofs.Common.{inr}
use Rattle.prog_client.proofs.dialing.operate.Goals as goal

pub returns-in-Link : goal.returns-in-Link
returns-in-Link g c = λ start before p. c.converse_over.ensures _ c.args.to start before c.in-Link.ensures p

pub returns-in-Failed : goal.returns-in-Failed
returns-in-Failed g c = λ start before p. inr (inr (c.in-Failed.ensures, p))

pub returns-in-NoMemory : goal.returns-in-NoMemory
returns-in-NoMemory g c = λ start before p. inr (inr (c.in-NoMemory.ensures, p))
