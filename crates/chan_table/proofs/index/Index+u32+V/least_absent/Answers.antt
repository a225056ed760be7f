use Rattle.std.proofs.Common.{arith}
use Rattle.chan_table.proofs.Absent.{same_to, above_from, least_absent}
use Rattle.chan_table.proofs.index.Index+u32+V.least_absent.Goals as goal

pub loop-low-preserved-then-index-middle : goal.loop-low-preserved-then-index-middle
loop-low-preserved-then-index-middle g c = record {
  order = omega arith;
  inside = c.loop-low.invariant.inside;
  same = same_to c.args.self.now.entries.items _ c.index.result.now c.args.self.now.sorted (omega arith) c.index.ensures c.if-index-middle.true;
  above = c.loop-low.invariant.above;
}

pub loop-low-preserved : goal.loop-low-preserved
loop-low-preserved g c = record {
  order = omega arith;
  inside = omega (arith, c.loop-low.invariant.inside, c.loop-low.invariant.order);
  same = c.loop-low.invariant.same;
  above = above_from c.args.self.now.entries.items _ c.index.result.now c.args.self.now.sorted (omega arith) c.index.ensures c.if-index-middle.false;
}

pub returns : goal.returns
returns g c =
    least_absent c.args.self.now.entries.items c.loop-low.low c.args.self.now.sorted (omega arith) c.loop-low.invariant.same
    (λ i d le in_. c.loop-low.invariant.above i d (omega arith) in_)
