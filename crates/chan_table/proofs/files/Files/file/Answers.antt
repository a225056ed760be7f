use Rattle.chan_table.specs.Filing.{filed_cmp}
use Rattle.std.specs.Ordering.{eq_by_cmp}
use Rattle.std.specs.Prelude.{◌≡◌, ◌+◌, ℕ, Some, cond, length}
use Rattle.std.proofs.Common.{sym, subst, arith}
use Rattle.std.specs.FinMap as map
use Rattle.chan_table.specs.Filing.{IsFiled}
use Rattle.chan_table.proofs.Filed.{filed-inserted, unfiled}
use Rattle.chan_table.proofs.files.Files.file.Goals as goal

pub insert-requires-clause-absent : goal.insert-requires-clause-absent
insert-requires-clause-absent g c = unfiled c.settle.new.self.by_channel.entries.items c.args.asks.now.values c.args.sid c.args.id c.settle.ensures.filed c.requires.absent

pub returns-clause-filed : goal.returns-clause-filed
returns-clause-filed g c = λ ask on.
    let more : length c.insert.new.self.entries.items ≡ length c.settle.new.self.by_channel.entries.items + 1 =
    omega (arith, c.insert.ensures.len, c.settle.new.self.by_channel.entries.ok, c.insert.new.self.entries.ok) in
    subst (λ l. IsFiled c.insert.new.self.entries.items l (map.insert c.args.asks.now.values c.args.id ask)) (sym c.settle.ensures.lent)
    (filed-inserted c.settle.new.self.by_channel.entries.items c.insert.new.self.entries.items c.args.asks.now.values c.args.id ask c.settle.ensures.filed c.requires.absent
    (subst (λ s. (q : ℕ × ℕ) → map.find filed_cmp q c.insert.new.self.entries.items ≡ cond (eq_by_cmp filed_cmp q (s, c.args.id)) (Some tt) (map.find filed_cmp q c.settle.new.self.by_channel.entries.items))
    (sym on) c.insert.ensures.finds) more)
