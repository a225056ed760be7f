use Rattle.std.proofs.Common.{[]}
use Rattle.srv_host.proofs.accepting.begin_split.Given as goal

abbrev pub ghosts-begin : goal.ghosts-begin
ghosts-begin g a = record { table = a.hall.now.table.shared.table_id; base = a.pass.seat.me.0.seen.base; others = [] }
