use Rattle.std.proofs.Common.{arith, reverse}
use Rattle.std.proofs.lemmas.List.{reverse-append}
use Rattle.db_text.proofs.Defaults.{still_line, still_closed, still_outer, still_plain, still_unnamed, still_nested, still_passed, still_ended, emptied, popped}
use Rattle.db_text.proofs.macros.behind_default.Goals as goal

pub returns-then-byte-eq10-clause-value : goal.returns-then-byte-eq10-clause-value
returns-then-byte-eq10-clause-value c = still_line _ _ _ _ _ _ c.in-Some.ensures.value c.if-byte-eq10.true c.loop-byte.invariant.same

pub returns-in_default-pop-clause-value : goal.returns-in_default-pop-clause-value
returns-in_default-pop-clause-value c =
    still_closed c.loop-byte.awaited (reverse c.loop-byte.outer.items) _ _ _ _ c.in-Some.ensures.value c.if-byte-eq10.false c.if-byte-awaited.true (emptied c.loop-byte.outer.items (omega (arith, c.in_default-pop.ensures.cases.0, c.loop-byte.outer.ok))) c.loop-byte.invariant.same

pub loop-byte-preserved-then-byte-awaited : goal.loop-byte-preserved-then-byte-awaited
loop-byte-preserved-then-byte-awaited c = record {
  same = still_outer c.loop-byte.awaited (reverse c.loop-byte.outer.items) _ _ _ _ c.in-Some.ensures.value c.if-byte-eq10.false c.in-Some-pop.next (reverse c.pop.new.self.items) c.if-byte-awaited.true (popped c.loop-byte.outer.items c.pop.new.self.items c.in-Some-pop.next c.in-Some-pop.ensures.items) c.loop-byte.invariant.same;
  shorter = omega (arith, c.in-Some.ensures.shorter);
}

pub loop-byte-preserved-in_default-opening : goal.loop-byte-preserved-in_default-opening
loop-byte-preserved-in_default-opening c = record {
  same = still_plain _ _ _ _ _ _ c.in-Some.ensures.value c.if-byte-eq10.false c.if-byte-awaited.false c.in_default-opening.ensures.value c.loop-byte.invariant.same;
  shorter = omega (arith, c.in-Some.ensures.shorter);
}

pub returns-in_default-name_at-clause-value : goal.returns-in_default-name_at-clause-value
returns-in_default-name_at-clause-value c =
    still_unnamed _ _ _ _ _ _ c.in-Some.ensures.value c.if-byte-eq10.false c.if-byte-awaited.false _ _ c.in-Some-opening.ensures.value c.in_default-name_at.ensures.value c.loop-byte.invariant.same

pub loop-byte-preserved-in_ok-push : goal.loop-byte-preserved-in_ok-push
loop-byte-preserved-in_ok-push c = record {
  same = rw (c.in_ok-push.ensures.items, reverse-append) (still_nested _ _ _ _ _ _ c.in-Some.ensures.value c.if-byte-eq10.false c.if-byte-awaited.false _ _ c.in-Some-opening.ensures.value
      _ _ _ c.in-Some-name_at.ensures.value (omega (arith, c.in-Some-opening.ensures.shorter, c.in-Some-name_at.ensures.shorter)) c.if-end-inner.true c.loop-byte.invariant.same);
  shorter = omega (arith, c.in-Some-opening.ensures.shorter, c.in-Some-name_at.ensures.shorter);
}

pub loop-byte-preserved : goal.loop-byte-preserved
loop-byte-preserved c = record {
  same = still_passed _ _ _ _ _ _ c.in-Some.ensures.value c.if-byte-eq10.false c.if-byte-awaited.false _ _ c.in-Some-opening.ensures.value
      _ _ _ c.in-Some-name_at.ensures.value (omega (arith, c.in-Some-opening.ensures.shorter, c.in-Some-name_at.ensures.shorter)) c.if-end-inner.false c.loop-byte.invariant.same;
  shorter = omega (arith, c.in-Some-opening.ensures.shorter, c.in-Some-name_at.ensures.shorter);
}

pub returns-clause-value : goal.returns-clause-value
returns-clause-value c = still_ended _ _ _ _ c.in_default.ensures.value c.loop-byte.invariant.same
