use Rattle.std.proofs.Common.{map}
use Rattle.prog_server.proofs.Rows.{rows_read, stopped}
use Rattle.prog_server.proofs.words.read_words.Goals as goal

pub returns-in-Ok : goal.returns-in-Ok
returns-in-Ok c = rows_read (map (λ s. s.now) c.args.words.now) _ c.asked_of.result c.in-Ok.ensures.fails c.in-Ok.ensures.rows c.asked_of.ensures

pub returns-in-Err : goal.returns-in-Err
returns-in-Err c = stopped (map (λ s. s.now) c.args.words.now) c.in-Err.error c.stop_of.result c.in-Err.ensures.fails c.stop_of.ensures.refused
