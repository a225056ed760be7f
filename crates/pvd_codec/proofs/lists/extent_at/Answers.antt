use Rattle.pvd_codec.proofs.Room.{counted_room}
use Rattle.pvd_codec.proofs.lists.extent_at.Goals as goal

pub returns-in_ok-count-in-Variable-clause-room : goal.returns-in_ok-count-in-Variable-clause-room
returns-in_ok-count-in-Variable-clause-room c =
    counted_room c.args.order c.args.width c.args.bytes.now (c.in_ok-count-in-Variable.count, c.in_ok-count-in-Variable.rest.now) c.in_ok-count-in-Variable.ensures.value

pub returns-in_ok-count-in-Bounded-2-clause-room : goal.returns-in_ok-count-in-Bounded-2-clause-room
returns-in_ok-count-in-Bounded-2-clause-room c =
    counted_room c.args.order c.args.width c.args.bytes.now (c.in_ok-count-in-Bounded-2.count, c.in_ok-count-in-Bounded-2.rest.now) c.in_ok-count-in-Bounded-2.ensures.value
