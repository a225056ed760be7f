use Rattle.shared_tests.proofs.halls.with_two_here.Given as goal

-- the desks' type names this hall, this history, and the logs that the passes took in
abbrev pub ghosts-with_two : goal.ghosts-with_two
ghosts-with_two g a = record { table = a.hall.now.table.shared.table_id; base = a.one.seat.me.0.seen.base; others = a.one.seat.me.0.others }
