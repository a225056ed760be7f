use Rattle.desk_api.specs.Calls.{now}
use Rattle.desk_api.specs.declared.mark.Mark.TheVariants.{Read}
use Rattle.desk_shared.specs.Hands.{states_of}
use Rattle.desk_shared.specs.Records.{seat_of}
use Rattle.desk_shared.proofs.looking.snapshot_in.Given as goal

abbrev pub ghosts-look_read : goal.ghosts-look_read
ghosts-look_read g a = record { mark = Read (now (seat_of a.held.seat.me.0)) a._channel a.held.footprint.items (states_of a.held.cells.items) }
