use Rattle.std.proofs.Common.{inr, refl}
use Rattle.prog_client.proofs.Conversing.{read_stopped}
use Rattle.prog_client.proofs.dialing.read_some.Goals as goal

pub returns-in-Ok : goal.returns-in-Ok
returns-in-Ok g c = record { count = c.in-Got.count; buffer = c.read.new.buffer; gave = c.in-Got.ensures.step; hears = c.in-Ok.ensures }

pub returns-in-Err : goal.returns-in-Err
returns-in-Err g c = read_stopped c.in-Err.stop (record { count = c.in-Got.count; buffer = c.read.new.buffer; gave = c.in-Got.ensures.step; hears = c.in-Err.ensures })

pub returns-in-End : goal.returns-in-End
returns-in-End g c = (c.in-End.ensures.step, record { printed = refl; faults = refl })

pub returns-in-Idle : goal.returns-in-Idle
returns-in-Idle g c = record { idled = c.in-Idle.ensures.step; view = refl; quiet = record { printed = refl; faults = refl } }

pub returns-in-Failed : goal.returns-in-Failed
returns-in-Failed g c = (c.in-Failed.ensures.step, record { printed = refl; faults = refl })

pub returns-in-NoMemory : goal.returns-in-NoMemory
returns-in-NoMemory g c = inr (c.in-NoMemory.ensures.step, record { printed = refl; faults = refl })
