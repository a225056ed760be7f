use Rattle.clap.specs.Words.{found_of, rows_of}
use Rattle.prog_client.proofs.Overs.{no_ask, no_route}
use Rattle.prog_client.proofs.over_words.unsourced_in.Goals as goal

pub returns-in_default : goal.returns-in_default
returns-in_default c = no_route (rows_of (found_of c.args.matches.now)) (rw c.in_default.is at (c.in_ok-route.ensures {u = tt}))

pub returns-in-Err-Refused : goal.returns-in-Err-Refused
returns-in-Err-Refused c = no_ask (rows_of (found_of c.args.matches.now)) (rw c.in-Err-Refused.field-0-is at c.in-Err-Refused.ensures)
