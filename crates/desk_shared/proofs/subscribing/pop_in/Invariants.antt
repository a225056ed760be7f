use Rattle.desk_api.specs.Calls.{now}
use Rattle.desk_core.specs.Subscribing.{popped}
use Rattle.desk_shared.specs.Records.{seat_of}
use Rattle.desk_shared.proofs.subscribing.pop_in.Given as goal

abbrev pub ghosts-look_popped : goal.ghosts-look_popped
ghosts-look_popped g a = record { mark = popped a._slot a._update.now (now (seat_of a.held.seat.me.0)) }
