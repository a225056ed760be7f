use Rattle.std.proofs.Common.{◌∙◌, ◌+◌, ◌-◌, ◌++◌, ℕ, List, get_or, [], sym, ap, append_assoc}
use Rattle.pva_wire.specs.declared.order.Order.TheVariants.{Little}
use Rattle.pva_search.specs.Fields.{canonical_channel}
use Rattle.pva_search.specs.Finding.{open_in}
use Rattle.pva_search.specs.Steps.{channel_bytes}
use Rattle.pva_search.proofs.Opens.{open_none, open_one}
use Rattle.pva_search.proofs.finder.put_channels.Goals as goal

pub loop-i-preserved-then-not-is_open : goal.loop-i-preserved-then-not-is_open
loop-i-preserved-then-not-is_open c =
    let skipped = open_none c.args.servers.now c.loop-i.i c.args.end c.loop-i-test.true (sym c.is_open.ensures ∙ c.if-not-is_open.true) in
    ap (λ (xs : List ℕ). c.loop-i.out.items ++ channel_bytes c.args.names.now xs) (sym skipped) ∙ c.loop-i.invariant

pub loop-i-preserved : goal.loop-i-preserved
loop-i-preserved c =
    let first = open_one c.args.servers.now c.loop-i.i c.args.end c.loop-i-test.true (sym c.is_open.ensures ∙ c.if-not-is_open.false) in
    let one = canonical_channel Little (c.loop-i.i, get_or c.args.names.now c.loop-i.i []) in
    let others = channel_bytes c.args.names.now (open_in c.args.servers.now (c.loop-i.i + 1) (c.args.end - (c.loop-i.i + 1))) in
    ap (λ (xs : List ℕ). xs ++ others) c.in_ok-put_channel.ensures
    ∙ append_assoc c.loop-i.out.items one others
    ∙ ap (λ (xs : List ℕ). c.loop-i.out.items ++ channel_bytes c.args.names.now xs) (sym first) ∙ c.loop-i.invariant
