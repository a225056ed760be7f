use Rattle.shared_tests.proofs.halls.with_desk_here.Given as goal

-- the desk's type names this hall, this history, and the logs that the pass took in
abbrev pub ghosts-with_desk : goal.ghosts-with_desk
ghosts-with_desk g a = record { table = a.hall.now.table.shared.table_id; base = a.pass.seat.me.0.seen.base; others = a.pass.seat.me.0.others }
