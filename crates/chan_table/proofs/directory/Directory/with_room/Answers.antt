use Rattle.std.proofs.Common.{ap}
use Rattle.chan_table.proofs.Gathered.{gathered-empty, sound-empty}
use Rattle.chan_table.proofs.directory.Directory.with_room.Goals as goal

pub invariant_of-result : goal.invariant_of-result
invariant_of-result g c =
    sound-empty c.in_ok-keys.keys.entries.items c.in_ok-values.values c.args.room _
    c.in_ok-keys.ensures.empty c.in_ok-values.ensures.empty c.in_ok-values.ensures.capacity c.in_ok-keys.ensures.room

pub returns : goal.returns
returns g c =
    ap (λ m. record { values = m; room = c.args.room }) (gathered-empty c.in_ok-keys.keys.entries.items c.in_ok-values.values c.in_ok-keys.ensures.empty)
