use Rattle.cli_within.proofs.Exchanged.{exchange_never}
use Rattle.cli_within.proofs.rounds.exchange.Goals as goal

pub returns-in-Ok : goal.returns-in-Ok
returns-in-Ok g c = c.talk.ensures _ _ c.in-Ok.ensures

pub returns-in-Err : goal.returns-in-Err
returns-in-Err g c = exchange_never c.args.ask _ _ _ _ (g.D.Desk.seat c.args.desk.now) _ _ _ _ c.has_legal_history.ensures c.in-Err.stop c.in-Err.ensures
