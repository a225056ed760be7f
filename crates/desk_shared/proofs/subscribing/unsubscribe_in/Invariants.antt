use Rattle.desk_api.specs.Calls.{now}
use Rattle.desk_core.specs.Subscribing.{dropped}
use Rattle.desk_shared.specs.Records.{seat_of}
use Rattle.desk_shared.proofs.subscribing.unsubscribe_in.Given as goal

abbrev pub ghosts-look_dropped : goal.ghosts-look_dropped
ghosts-look_dropped g a = record { mark = dropped (seat_of a.held.seat.me.0) a._slot (now (seat_of a.held.seat.me.0)) }
