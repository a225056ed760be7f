use Rattle.clap.specs.Words.{found_of, rows_of}
use Rattle.cli_within.proofs.Rows.{no_ask, no_source}
use Rattle.cli_within.proofs.words.asked_of.Goals as goal

pub returns-in_default : goal.returns-in_default
returns-in_default c = no_source (rows_of (found_of c.args.matches.now)) (c.in_default.ensures {u = tt})

pub returns-in-Ok : goal.returns-in-Ok
returns-in-Ok c =
    let macros = rw c.in-Some-2.is at (c.in_ok-macros.ensures {u = tt}) in record {
      ask_is = c.in-Ok.ensures {u = tt};
      source_is = c.in-Some.ensures;
      macros_are = macros;
      idle_is = c.in-Some-count_of.ensures;
      piece_is = c.in-Some-count_of-2.ensures;
      turns_is = c.in-Some-count_of-3.ensures;
    }

pub returns-in-Err : goal.returns-in-Err
returns-in-Err c = no_ask (rows_of (found_of c.args.matches.now)) c.in-Err.stop c.in-Err.ensures
