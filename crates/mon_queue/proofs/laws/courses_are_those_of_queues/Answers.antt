use Rattle.mon_queue.proofs.Unreading.{unread_as_seen}
use Rattle.mon_queue.proofs.laws.courses_are_those_of_queues.Goals as goal

pub returns : goal.returns
returns g c = unread_as_seen
