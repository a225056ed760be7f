use Rattle.chan_table.proofs.Standings.{standing-less}
use Rattle.chan_table.proofs.table.Table.remove_channel.Goals as goal

pub invariant_of-self : goal.invariant_of-self
invariant_of-self g c =
    standing-less c.self.inside.channels c.remove.new.self c.self.inside.asks c.self.inside.files.by_channel.entries.items c.self.inside.files.lent _ c.self.invariant
    c.args.sid c.remove.ensures.rest
