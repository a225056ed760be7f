use Rattle.clap.specs.Words.{found_of, rows_of}
use Rattle.prog_client.proofs.Overs.{unrouted}
use Rattle.prog_client.proofs.over_words.sourced_in.Goals as goal

pub returns-in-None : goal.returns-in-None
returns-in-None c = unrouted (rows_of (found_of c.args.matches.now)) c.requires (rw c.in-None.is at (c.in_ok-route_in.ensures {u = tt}))
