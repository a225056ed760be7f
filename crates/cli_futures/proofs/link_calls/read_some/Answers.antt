use Rattle.std.proofs.Common.{inl, inr, refl}
use Rattle.cli_futures.proofs.link_calls.read_some.Goals as goal

pub returns-in-Ok : goal.returns-in-Ok
returns-in-Ok g c = record { count = c.in-Got.count; buffer = c.read.new.buffer; gave = c.in-Got.ensures.step; view = c.in-Ok.ensures.fed }

pub returns-in-Err : goal.returns-in-Err
returns-in-Err g c = inl (record { count = c.in-Got.count; buffer = c.read.new.buffer; gave = c.in-Got.ensures.step })

pub returns-in-End : goal.returns-in-End
returns-in-End g c = c.in-End.ensures.step

pub returns-in-Idle : goal.returns-in-Idle
returns-in-Idle g c = record { idled = c.in-Idle.ensures.step; view = refl }

pub returns-in-Failed : goal.returns-in-Failed
returns-in-Failed g c = c.in-Failed.ensures.step

pub returns-in-NoMemory : goal.returns-in-NoMemory
returns-in-NoMemory g c = inr c.in-NoMemory.ensures.step
