use Rattle.prog_server.proofs.Rows.{no_source, no_turns}
use Rattle.prog_server.proofs.words.asked_of.Goals as goal

pub returns-in_default-source_in : goal.returns-in_default-source_in
returns-in_default-source_in c =
    no_source _ c.in-Some.task c.needs_source.result c.needs_source.ensures c.in-Some.ensures (c.in_default-source_in.ensures {u = tt})

pub returns-in_default-count_of-2 : goal.returns-in_default-count_of-2
returns-in_default-count_of-2 c =
    no_turns _ c.in-Some.task c.most_turns-most.result c.most_turns-most.ensures c.in-Some.ensures (c.in_default-count_of-2.ensures {u = tt})
