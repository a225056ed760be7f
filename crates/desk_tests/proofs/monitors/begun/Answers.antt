use Rattle.std.proofs.Common.{Ok, Err}
use Rattle.std.specs.FinSet.{empty}
use Rattle.desk_api.specs.declared.channel.ChannelKind.TheVariants.{Service}
use Rattle.desk_core.proofs.Lived.{begun_lives, still_lives}
use Rattle.desk_tests.proofs.monitors.begun.Goals as goal

pub returns-in-Ok-subscribe-clause-lives : goal.returns-in-Ok-subscribe-clause-lives
returns-in-Ok-subscribe-clause-lives g c = begun_lives _ _ _ _ _ c.in-Ok-subscribe.sub (c.in-Ok-subscribe.ensures {u = tt}).calls

pub returns-in-Ok-subscribe-clause-stay : goal.returns-in-Ok-subscribe-clause-stay
returns-in-Ok-subscribe-clause-stay g c = still_lives _ _ _ _ _ (Ok c.in-Ok-subscribe.sub) (c.in-Ok-subscribe.ensures {u = tt}).calls

pub returns-clause-stay : goal.returns-clause-stay
returns-clause-stay g c = still_lives _ _ (record { kind = Service; number = 0 }) empty 0 (Err c.in-Err.answer) (c.in-Err.ensures {u = tt}).calls
