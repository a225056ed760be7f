use Rattle.std.proofs.Common.{sym}
use Rattle.chan_table.proofs.Filed.{filed-written}
use Rattle.chan_table.proofs.Gathered.{some_there}
use Rattle.chan_table.proofs.files.Files.lend.Goals as goal

pub returns-in_default-clause-filed : goal.returns-in_default-clause-filed
returns-in_default-clause-filed g c = λ ask. absurd (some_there _ c.requires.there (sym c.in_default.ensures))

pub returns-clause-filed : goal.returns-clause-filed
returns-clause-filed g c = λ ask.
    filed-written c.settle.new.self.by_channel.entries.items c.args.asks.now.values c.args.id c.in-Some.ask.now ask c.settle.ensures.filed (sym c.in-Some.ensures)
