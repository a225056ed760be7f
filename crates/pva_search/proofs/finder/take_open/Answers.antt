use Rattle.std.proofs.Common.{◌∙◌, ◌+◌, ◌-◌, ◌∷◌, ℕ, List, length, [], sym, ap, arith, length-append}
use Rattle.pva_search.specs.Finding.{open_in}
use Rattle.pva_search.specs.Steps.{channel_bytes}
use Rattle.pva_search.proofs.Opens.{more_none, more_one, size_more}
use Rattle.pva_search.proofs.finder.take_open.Goals as goal

pub loop-i-preserved-then-not-is_open : goal.loop-i-preserved-then-not-is_open
loop-i-preserved-then-not-is_open c =
    let same = more_none c.args.servers.now c.args.next c.loop-i.i c.loop-i.auto.i (sym c.is_open.ensures ∙ c.if-not-is_open.true) in
    record {
      count = c.loop-i.invariant.count ∙ ap length (sym same);
      few = omega arith;
      room = ap (λ (xs : List ℕ). c.loop-i.room + length (channel_bytes c.args.names.now xs)) same ∙ c.loop-i.invariant.room;
    }

pub loop-i-preserved : goal.loop-i-preserved
loop-i-preserved c =
    let before = open_in c.args.servers.now c.args.next (c.loop-i.i - c.args.next) in
    let more = more_one c.args.servers.now c.args.next c.loop-i.i c.loop-i.auto.i (sym c.is_open.ensures ∙ c.if-not-is_open.false) in
    let short = c.requires.short c.loop-i.i in
    let size = size_more c.args.names.now before c.loop-i.i (omega arith) in
    let all = ap (λ (xs : List ℕ). length (channel_bytes c.args.names.now xs)) more in
    record {
      count = omega (arith, ap length more, length-append before (c.loop-i.i ∷ []));
      few = omega arith;
      room = omega (arith, all, size, c.size_of-size.ensures);
    }
