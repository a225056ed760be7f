use Rattle.std.proofs.Common.{sym, subst, codes}
use Rattle.clap.specs.Words.{found_of, rows_of}
use Rattle.cli_within.specs.Words.{IsName, given}
use Rattle.cli_within.proofs.Rows.{asks_for, no_operation}
use Rattle.cli_within.proofs.words.ask_in.Goals as goal

pub returns-in-Ok : goal.returns-in-Ok
returns-in-Ok c =
    let name = subst (IsName (given (rows_of (found_of c.args.matches.now)) (codes "name"))) (sym (c.in_ok-name.ensures {u = tt})) c.in-Some.ensures in
    let fields = rw c.in-Some-2.is at (c.in_ok-fields.ensures {u = tt}) in
    let user = rw c.in-Some-3.is at (c.in_ok-user.ensures {u = tt}) in
    asks_for (rows_of (found_of c.args.matches.now))
    (record { name = c.in_ok-name.name; operation = c.in-Ok.operation; fields = c.in-Some-2.fields; atomic = c.in-Some-atomic_in.atomic; user = c.in-Some-3.user }) (c.in-Ok.ensures {u = tt}) name
    fields c.in-Some-atomic_in.ensures user

pub returns-in-Err : goal.returns-in-Err
returns-in-Err c = no_operation (rows_of (found_of c.args.matches.now)) c.in-Err.stop c.in-Err.ensures
