use Rattle.desk_api.specs.Calls.{now}
use Rattle.desk_core.specs.Subscribing.{begun_in, crowded}
use Rattle.desk_shared.specs.Records.{seat_of}
use Rattle.desk_shared.proofs.subscribing.subscribe_in.Given as goal

abbrev pub ghosts-look_begun : goal.ghosts-look_begun
ghosts-look_begun g a = record { mark = begun_in (seat_of a.held.seat.me.0) a._slot a._channel a._mask.now a._size (now (seat_of a.held.seat.me.0)) }

abbrev pub ghosts-look_crowded : goal.ghosts-look_crowded
ghosts-look_crowded g a = record { mark = crowded (seat_of a.held.seat.me.0) a._count (now (seat_of a.held.seat.me.0)) }
