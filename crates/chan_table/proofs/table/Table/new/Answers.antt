use Rattle.chan_table.proofs.Standings.{standing-blank}
use Rattle.chan_table.proofs.table.Table.new.Goals as goal

pub invariant_of-result : goal.invariant_of-result
invariant_of-result g c =
    standing-blank c.in_ok-channels.channels c.in_ok-asks.asks c.in_ok-files.files.by_channel.entries.items c.in_ok-files.files.lent _
    c.in_ok-channels.ensures c.in_ok-asks.ensures c.in_ok-files.ensures.empty c.in_ok-files.ensures.lent
