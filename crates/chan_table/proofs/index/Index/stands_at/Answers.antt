use Rattle.std.proofs.Common.{ap, ◌∙◌}
use Rattle.std.specs.Ordering.{is_eq}
use Rattle.chan_table.proofs.Places.{place-read}
use Rattle.chan_table.proofs.index.Index.stands_at.Goals as goal

pub returns-in-Some : goal.returns-in-Some
returns-in-Some g c =
    place-read g.K.Ord.cmp g.met.K.Ord.total c.args.key c.args.place c.in-Some.entry c.args.self.now.entries.items
    c.args.self.now.sorted c.in-Some.ensures c.is_eq.result (c.is_eq.ensures ∙ ap is_eq c.cmp.ensures)
