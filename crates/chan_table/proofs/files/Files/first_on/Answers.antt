use Rattle.chan_table.proofs.Filed.{free-below, first-on, free-first}
use Rattle.chan_table.proofs.files.Files.first_on.Goals as goal

pub returns-in_default-clause-first : goal.returns-in_default-clause-first
returns-in_default-clause-first g c =
    free-below c.settle.new.self.by_channel.entries.items c.args.asks.now.values c.args.sid c.settle.ensures.filed c.in_default.ensures

pub returns-then-at-sid-clause-first : goal.returns-then-at-sid-clause-first
returns-then-at-sid-clause-first g c =
    first-on c.settle.new.self.by_channel.entries.items c.args.asks.now.values c.args.sid c.in-Some.entry c.settle.ensures.filed c.in-Some.ensures c.if-at-sid.true

pub returns-else-at-sid-clause-first : goal.returns-else-at-sid-clause-first
returns-else-at-sid-clause-first g c =
    free-first c.settle.new.self.by_channel.entries.items c.args.asks.now.values c.args.sid c.in-Some.entry c.settle.ensures.filed c.in-Some.ensures c.if-at-sid.false
