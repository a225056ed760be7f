use Rattle.std.proofs.Common.{arith}
use Rattle.chan_table.proofs.Standings.{standing-more}
use Rattle.chan_table.proofs.table.Table.add_channel.Goals as goal

pub invariant_of-self : goal.invariant_of-self
invariant_of-self g c =
    standing-more c.self.inside.channels c.insert.new.self c.self.inside.asks c.self.inside.files.by_channel.entries.items c.self.inside.files.lent _ c.self.invariant
    c.least_absent-sid.result (c.args.cid, c.args.channel) c.insert.ensures c.least_absent-sid.ensures.absent (omega (arith, c.len.ensures.len, c.if-len.false))
