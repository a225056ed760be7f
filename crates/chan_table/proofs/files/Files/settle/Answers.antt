use Rattle.std.specs.Prelude.{◌≡◌, ℕ, Some, cond, is_some, length}
use Rattle.std.proofs.Common.{sym, ap, subst, ◌∙◌, arith}
use Rattle.chan_table.specs.Filing.{IsFiled}
use Rattle.chan_table.proofs.Filed.{filed-moved, unfiled-own, filed-lent, filed-same}
use Rattle.chan_table.proofs.files.Files.settle.Goals as goal

pub insert-requires-clause-absent : goal.insert-requires-clause-absent
insert-requires-clause-absent g c =
    let h : IsFiled c.args.self.now.by_channel.entries.items (Some c.in-Some.filed) c.args.asks.now.values =
    subst (λ l. IsFiled c.args.self.now.by_channel.entries.items l c.args.asks.now.values) (sym c.in-Some.ensures.value) c.requires in
    unfiled-own c.args.self.now.by_channel.entries.items c.remove.new.self.entries.items c.in-Some.filed c.args.asks.now.values c.in-Some-get.ask.now.sid h
    c.if-ask-filed.false c.remove.ensures.finds

pub insert-requires-clause-room : goal.insert-requires-clause-room
insert-requires-clause-room g c =
    let h : IsFiled c.args.self.now.by_channel.entries.items (Some c.in-Some.filed) c.args.asks.now.values =
    subst (λ l. IsFiled c.args.self.now.by_channel.entries.items l c.args.asks.now.values) (sym c.in-Some.ensures.value) c.requires in
    let one : cond {A = ℕ} (is_some c.remove.result) 1 0 ≡ 1 =
    ap (λ b. cond {A = ℕ} b 1 0) (ap is_some c.remove.ensures.value ∙ filed-lent c.args.self.now.by_channel.entries.items c.in-Some.filed c.args.asks.now.values h) in
    omega (arith, c.remove.ensures.len, c.remove.ensures.capacity, c.args.self.now.by_channel.entries.ok)

pub returns-clause-filed : goal.returns-clause-filed
returns-clause-filed g c =
    let h : IsFiled c.args.self.now.by_channel.entries.items (Some c.in-Some.filed) c.args.asks.now.values =
    subst (λ l. IsFiled c.args.self.now.by_channel.entries.items l c.args.asks.now.values) (sym c.in-Some.ensures.value) c.requires in
    let one : cond {A = ℕ} (is_some c.remove.result) 1 0 ≡ 1 =
    ap (λ b. cond {A = ℕ} b 1 0) (ap is_some c.remove.ensures.value ∙ filed-lent c.args.self.now.by_channel.entries.items c.in-Some.filed c.args.asks.now.values h) in
    let size : length c.insert.new.self.entries.items ≡ length c.args.self.now.by_channel.entries.items =
    omega (arith, c.remove.ensures.len, c.insert.ensures.len, c.args.self.now.by_channel.entries.ok, c.insert.new.self.entries.ok) in
    filed-moved c.args.self.now.by_channel.entries.items c.remove.new.self.entries.items c.insert.new.self.entries.items c.in-Some.filed c.args.asks.now.values c.in-Some-get.ask.now h
    (sym c.in-Some-get.ensures) c.if-ask-filed.false c.remove.ensures.finds c.insert.ensures.finds size

pub returns-then-ask-filed-clause-filed : goal.returns-then-ask-filed-clause-filed
returns-then-ask-filed-clause-filed g c =
    let h : IsFiled c.args.self.now.by_channel.entries.items (Some c.in-Some.filed) c.args.asks.now.values =
    subst (λ l. IsFiled c.args.self.now.by_channel.entries.items l c.args.asks.now.values) (sym c.in-Some.ensures.value) c.requires in
    filed-same c.args.self.now.by_channel.entries.items c.in-Some.filed c.args.asks.now.values c.in-Some-get.ask.now h (sym c.in-Some-get.ensures) c.if-ask-filed.true
