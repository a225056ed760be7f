use Rattle.std.proofs.Common.{◌∙◌, sym, arith}
use Rattle.db_text.proofs.JsonTexts.{json_end, json_cut, json_pair, json_quoted, json_word, json_closed, json_close, json_open, json_other}
use Rattle.db_text.proofs.pieces.json_at.Goals as goal

pub returns-in_default-front-clause-value : goal.returns-in_default-front-clause-value
returns-in_default-front-clause-value c =
    let same = rw c.if-quoted.true at c.loop-byte.invariant.same in
    json_cut c.loop-byte.depth c.loop-byte.text.items c.loop-byte.rest.now _ c.in-Some.byte c.in-Some.after.now c.in-Some.ensures.value c.if-byte-eq92.true c.in_default-front.ensures.value same

pub loop-byte-preserved-then-byte-eq92 : goal.loop-byte-preserved-then-byte-eq92
loop-byte-preserved-then-byte-eq92 c =
    let same = rw c.if-quoted.true at c.loop-byte.invariant.same in
    record {
      same = rw (c.in_ok-push_pair.ensures, c.if-quoted.true) (json_pair c.loop-byte.depth c.loop-byte.text.items c.loop-byte.rest.now _ c.in-Some.byte c.in-Some.after.now c.in-Some.ensures.value
          c.in-Some-front.second c.in-Some-front.next.now c.if-byte-eq92.true c.in-Some-front.ensures.value same);
      shorter = omega (arith, c.in-Some.ensures.shorter, c.in-Some-front.ensures.shorter);
    }

pub loop-byte-preserved-then-quoted : goal.loop-byte-preserved-then-quoted
loop-byte-preserved-then-quoted c =
    let same = rw c.if-quoted.true at c.loop-byte.invariant.same in
    record {
      same = rw c.in_ok-push-2.ensures.items (json_quoted c.loop-byte.depth c.loop-byte.text.items c.loop-byte.rest.now _ c.in-Some.byte c.in-Some.after.now c.in-Some.ensures.value c.if-byte-eq92.false same);
      shorter = omega (arith, c.in-Some.ensures.shorter);
    }

pub loop-byte-preserved-then-is_key : goal.loop-byte-preserved-then-is_key
loop-byte-preserved-then-is_key c =
    let same = rw c.if-quoted.false at c.loop-byte.invariant.same in
    record {
      same = rw (c.in_ok-push_word.ensures, c.if-quoted.false) (json_word c.loop-byte.depth c.loop-byte.text.items c.loop-byte.rest.now _ c.in-Some.byte c.in-Some.after.now c.in-Some.ensures.value
          c.word_at.result.0.now c.word_at.result.1.now (sym c.is_key.ensures ∙ c.if-is_key.true) c.word_at.ensures.word c.word_at.ensures.rest c.word_at.ensures.shorter same);
      shorter = omega (arith, c.in-Some.ensures.shorter, c.word_at.ensures.shorter);
    }

pub returns-then-depth-eq0-clause-value : goal.returns-then-depth-eq0-clause-value
returns-then-depth-eq0-clause-value c =
    let same = rw c.if-quoted.false at c.loop-byte.invariant.same in
    rw c.in_ok-push-3.ensures.items (json_closed c.loop-byte.depth c.loop-byte.text.items c.loop-byte.rest.now _ c.in-Some.byte c.in-Some.after.now c.in-Some.ensures.value
    (sym c.is_key.ensures ∙ c.if-is_key.false) c.if-byte-eq125.true c.if-depth-eq0.true same)

pub loop-byte-preserved-then-byte-eq125 : goal.loop-byte-preserved-then-byte-eq125
loop-byte-preserved-then-byte-eq125 c =
    let same = rw c.if-quoted.false at c.loop-byte.invariant.same in
    record {
      same = rw (c.in_ok-push-3.ensures.items, c.if-quoted.false) (json_close c.loop-byte.depth c.loop-byte.text.items c.loop-byte.rest.now _ c.in-Some.byte c.in-Some.after.now c.in-Some.ensures.value
          (sym c.is_key.ensures ∙ c.if-is_key.false) c.if-byte-eq125.true c.if-depth-eq0.false same);
      shorter = omega (arith, c.in-Some.ensures.shorter, c.if-depth-eq0.false);
    }

pub loop-byte-preserved-then-byte-eq123 : goal.loop-byte-preserved-then-byte-eq123
loop-byte-preserved-then-byte-eq123 c =
    let same = rw c.if-quoted.false at c.loop-byte.invariant.same in
    record {
      same = rw c.in_ok-push-3.ensures.items (json_open c.loop-byte.depth c.loop-byte.text.items c.loop-byte.rest.now _ c.in-Some.byte c.in-Some.after.now c.in-Some.ensures.value
          (sym c.is_key.ensures ∙ c.if-is_key.false) c.if-byte-eq125.false c.if-byte-eq123.true same);
      shorter = omega (arith, c.in-Some.ensures.shorter);
    }

pub loop-byte-preserved : goal.loop-byte-preserved
loop-byte-preserved c =
    let same = rw c.if-quoted.false at c.loop-byte.invariant.same in
    record {
      same = rw c.in_ok-push-3.ensures.items (json_other c.loop-byte.depth c.loop-byte.text.items c.loop-byte.rest.now _ c.in-Some.byte c.in-Some.after.now c.in-Some.ensures.value
          (sym c.is_key.ensures ∙ c.if-is_key.false) c.if-byte-eq125.false c.if-byte-eq123.false same);
      shorter = omega (arith, c.in-Some.ensures.shorter);
    }

pub returns-clause-value : goal.returns-clause-value
returns-clause-value c = json_end c.loop-byte.quoted c.loop-byte.depth c.loop-byte.text.items c.loop-byte.rest.now _ c.in_default.ensures.value c.loop-byte.invariant.same
