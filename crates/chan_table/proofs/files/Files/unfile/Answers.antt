use Rattle.std.specs.Prelude.{◌≡◌, ◌+◌, ℕ, cond, is_some, length}
use Rattle.std.proofs.Common.{sym, ap, subst, ◌∙◌, arith}
use Rattle.std.specs.FinMap as map
use Rattle.chan_table.specs.Filing.{IsFiled}
use Rattle.chan_table.proofs.Filed.{filed-removed, filed-known, filed-without}
use Rattle.chan_table.proofs.files.Files.unfile.Goals as goal

pub returns-in_default-clause-filed : goal.returns-in_default-clause-filed
returns-in_default-clause-filed g c =
    subst (λ l. IsFiled c.settle.new.self.by_channel.entries.items l (map.remove c.args.asks.now.values c.args.id)) (sym c.settle.ensures.lent)
    (filed-without c.settle.new.self.by_channel.entries.items c.args.asks.now.values c.args.id c.settle.ensures.filed (sym c.in_default.ensures))

pub returns-clause-filed : goal.returns-clause-filed
returns-clause-filed g c =
    let one : cond {A = ℕ} (is_some c.remove.result) 1 0 ≡ 1 =
    ap (λ b. cond {A = ℕ} b 1 0) (ap is_some c.remove.ensures.value
    ∙ filed-known c.settle.new.self.by_channel.entries.items c.args.asks.now.values c.args.id c.in-Some.ask.now c.settle.ensures.filed (sym c.in-Some.ensures)) in
    let less : length c.remove.new.self.entries.items + 1 ≡ length c.settle.new.self.by_channel.entries.items =
    omega (arith, c.remove.ensures.len, c.settle.new.self.by_channel.entries.ok, c.remove.new.self.entries.ok) in
    subst (λ l. IsFiled c.remove.new.self.entries.items l (map.remove c.args.asks.now.values c.args.id)) (sym c.settle.ensures.lent)
    (filed-removed c.settle.new.self.by_channel.entries.items c.remove.new.self.entries.items c.args.asks.now.values c.args.id c.in-Some.ask.now
    c.settle.ensures.filed (sym c.in-Some.ensures) c.remove.ensures.finds less)
