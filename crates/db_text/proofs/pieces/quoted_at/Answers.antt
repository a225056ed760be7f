use Rattle.std.proofs.Common.{arith}
use Rattle.db_text.proofs.Quotes.{quotes_end, quotes_close, quotes_break, quotes_keep, quotes_cut, quotes_broken, quotes_escape}
use Rattle.db_text.proofs.pieces.quoted_at.Goals as goal

pub returns-then-byte-eq34-clause-value : goal.returns-then-byte-eq34-clause-value
returns-then-byte-eq34-clause-value c = quotes_close c.loop-byte.text.items c.loop-byte.rest.now _ c.in-Some.byte c.in-Some.after.now c.in-Some.ensures.value c.if-byte-eq34.true c.loop-byte.invariant.same

pub returns-then-byte-eq10-clause-value : goal.returns-then-byte-eq10-clause-value
returns-then-byte-eq10-clause-value c =
    quotes_break c.loop-byte.text.items c.loop-byte.rest.now _ c.in-Some.byte c.in-Some.after.now c.in-Some.ensures.value c.if-byte-eq34.false c.if-byte-eq10.true c.loop-byte.invariant.same

pub loop-byte-preserved-then-byte-ne92 : goal.loop-byte-preserved-then-byte-ne92
loop-byte-preserved-then-byte-ne92 c = record {
  same = rw c.in_ok-push.ensures.items (quotes_keep c.loop-byte.text.items c.loop-byte.rest.now _ c.in-Some.byte c.in-Some.after.now c.in-Some.ensures.value c.if-byte-eq34.false c.if-byte-eq10.false c.if-byte-ne92.true c.loop-byte.invariant.same);
  shorter = omega (arith, c.in-Some.ensures.shorter);
}

pub returns-in_default-front-clause-value : goal.returns-in_default-front-clause-value
returns-in_default-front-clause-value c =
    quotes_cut c.loop-byte.text.items c.loop-byte.rest.now _ c.in-Some.byte c.in-Some.after.now c.in-Some.ensures.value c.if-byte-eq34.false c.if-byte-eq10.false c.if-byte-ne92.false c.in_default-front.ensures.value c.loop-byte.invariant.same

pub returns-then-second-eq10-clause-value : goal.returns-then-second-eq10-clause-value
returns-then-second-eq10-clause-value c =
    quotes_broken c.loop-byte.text.items c.loop-byte.rest.now _ c.in-Some.byte c.in-Some.after.now c.in-Some.ensures.value c.if-byte-eq34.false c.if-byte-eq10.false c.if-byte-ne92.false
    c.in-Some-front.second c.in-Some-front.next.now c.in-Some-front.ensures.value c.if-second-eq10.true c.loop-byte.invariant.same

pub loop-byte-preserved : goal.loop-byte-preserved
loop-byte-preserved c = record {
  same = rw c.in_ok-push_escape.ensures (quotes_escape c.loop-byte.text.items c.loop-byte.rest.now _ c.in-Some.byte c.in-Some.after.now c.in-Some.ensures.value c.if-byte-eq34.false c.if-byte-eq10.false c.if-byte-ne92.false
      c.in-Some-front.second c.in-Some-front.next.now c.in-Some-front.ensures.value c.if-second-eq10.false c.loop-byte.invariant.same);
  shorter = omega (arith, c.in-Some.ensures.shorter, c.in-Some-front.ensures.shorter);
}

pub returns-clause-value : goal.returns-clause-value
returns-clause-value c = quotes_end c.loop-byte.text.items c.loop-byte.rest.now _ c.in_default.ensures.value c.loop-byte.invariant.same
