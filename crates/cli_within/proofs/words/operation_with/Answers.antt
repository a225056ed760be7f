use Rattle.std.proofs.Common.{◌∙◌, sym}
use Rattle.clap.specs.Words.{found_of, rows_of}
use Rattle.cli_within.proofs.Rows.{asks_to, no_values}
use Rattle.cli_within.proofs.words.operation_with.Goals as goal

pub returns-then-not-takes : goal.returns-then-not-takes
returns-then-not-takes c =
    no_values (rows_of (found_of c.args.matches.now)) c.in-Some.verb c.args.values.now c.takes.result c.in-Some.ensures c.requires c.takes.ensures c.if-not-takes.true

pub operation-requires : goal.operation-requires
operation-requires c = sym c.takes.ensures ∙ c.if-not-takes.false

pub returns-in-Ok : goal.returns-in-Ok
returns-in-Ok c =
    asks_to (rows_of (found_of c.args.matches.now)) c.in-Some.verb c.args.values.now c.in-Some-numbers_in.numbers c.in-Ok.operation c.in-Some.ensures c.requires
    (sym c.takes.ensures ∙ c.if-not-takes.false) c.in-Some-numbers_in.ensures c.in-Ok.ensures
