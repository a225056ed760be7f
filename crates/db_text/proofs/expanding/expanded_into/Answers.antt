use Rattle.std.proofs.Common.{◌≡◌, ◌+◌, ◌∷◌, ◌++◌, [], refl, arith}
use Rattle.std.proofs.lemmas.Bool.{eq-eqb}
use Rattle.pvd_type.proofs.Sets.{differs}
use Rattle.db_text.specs.Expanding.{line_after}
use Rattle.db_text.proofs.Texts.{fails_more_at, text_end, text_comment, text_fails, text_macro, text_pair, text_byte}
use Rattle.db_text.proofs.expanding.expanded_into.Goals as goal

pub loop-byte-preserved-in-Some-behind_comment : goal.loop-byte-preserved-in-Some-behind_comment
loop-byte-preserved-in-Some-behind_comment c = record {
  same = text_comment c.args.macros.now c.loop-byte.quoted c.loop-byte.line c.loop-byte.out.items c.loop-byte.rest.now _ c.in-Some.byte c.in-Some.after.now c.in-Some.ensures.value
      c.in-Some-behind_comment.next.now c.in-Some-behind_comment.ensures.value c.in-Some-behind_comment.ensures.shorter c.loop-byte.invariant.same;
  small = c.loop-byte.invariant.small;
  lines = omega (arith, c.in-Some-behind_comment.ensures.shorter);
}

pub returns-in-Err-clause-value : goal.returns-in-Err-clause-value
returns-in-Err-clause-value c =
    fails_more_at c.in-Err.stop c.loop-byte.line c.args.out.now.items _
    (text_fails c.args.macros.now c.loop-byte.quoted c.loop-byte.line c.loop-byte.out.items c.loop-byte.rest.now _ c.in-Some.byte c.in-Some.after.now c.in-Some.ensures.value
    c.in_default-behind_comment.ensures.value c.in-Some-opening.closer c.in-Some-opening.inside.now c.in-Some-opening.ensures.value c.in-Err.stop c.in-Err.ensures.value c.loop-byte.invariant.same)

pub loop-byte-preserved-in-Some-opening : goal.loop-byte-preserved-in-Some-opening
loop-byte-preserved-in-Some-opening c =
    let added = c.in-Ok.ensures.value in
    record {
      same = text_macro c.args.macros.now c.loop-byte.quoted c.loop-byte.line c.loop-byte.out.items c.loop-byte.rest.now _ c.in-Some.byte c.in-Some.after.now c.in-Some.ensures.value
          c.in_default-behind_comment.ensures.value c.in-Some-opening.closer c.in-Some-opening.inside.now c.in-Some-opening.ensures.value
          added.0 c.in-Ok.next.now c.replaced.new.out.items added.1 added.2 (omega (arith, c.in-Some-opening.ensures.shorter, c.in-Ok.ensures.shorter)) c.loop-byte.invariant.same;
      small = c.in-Ok.ensures.small;
      lines = omega (arith, c.in-Some-opening.ensures.shorter, c.in-Ok.ensures.shorter);
    }

pub loop-byte-preserved-in-Some-escaped : goal.loop-byte-preserved-in-Some-escaped
loop-byte-preserved-in-Some-escaped c =
    let pushed : c.push_pair.new.out.items ≡ c.loop-byte.out.items ++ (c.in-Some.byte ∷ c.in-Some-escaped.second ∷ []) = cc c.in_default-push_pair.ensures.value in
    record {
      same = rw pushed (text_pair c.args.macros.now c.loop-byte.quoted c.loop-byte.line c.loop-byte.out.items c.loop-byte.rest.now _ c.in-Some.byte c.in-Some.after.now c.in-Some.ensures.value
          c.in_default-behind_comment.ensures.value c.in_default-opening.ensures.value c.in-Some-escaped.second c.in-Some-escaped.next.now c.in-Some-escaped.ensures.value c.in-Some-escaped.ensures.shorter
          c.loop-byte.invariant.same);
      small = c.in_default-push_pair.ensures.small;
      lines = omega (arith, c.in-Some-escaped.ensures.shorter);
    }

pub loop-byte-preserved-then-byte-eq10 : goal.loop-byte-preserved-then-byte-eq10
loop-byte-preserved-then-byte-eq10 c =
    let pushed : c.push_byte.new.out.items ≡ c.loop-byte.out.items ++ c.in-Some.byte ∷ [] = cc c.in_default-push_byte.ensures.value in
    let line : c.loop-byte.line + 1 ≡ line_after c.loop-byte.line c.in-Some.byte = rw (eq-eqb c.in-Some.byte 10 c.if-byte-eq10.true) refl in
    record {
      same = rw (pushed, c.quoted_after-quoted.ensures, line) (text_byte c.args.macros.now c.loop-byte.quoted c.loop-byte.line c.loop-byte.out.items c.loop-byte.rest.now _ c.in-Some.byte c.in-Some.after.now c.in-Some.ensures.value
          c.in_default-behind_comment.ensures.value c.in_default-opening.ensures.value c.in_default-escaped.ensures.value c.loop-byte.invariant.same);
      small = c.in_default-push_byte.ensures.small;
      lines = omega (arith, c.in-Some.ensures.shorter);
    }

pub loop-byte-preserved : goal.loop-byte-preserved
loop-byte-preserved c =
    let pushed : c.push_byte.new.out.items ≡ c.loop-byte.out.items ++ c.in-Some.byte ∷ [] = cc c.in_default-push_byte.ensures.value in
    let line : line_after c.loop-byte.line c.in-Some.byte ≡ c.loop-byte.line = rw (differs c.in-Some.byte 10 c.if-byte-eq10.false) refl in
    let next = text_byte c.args.macros.now c.loop-byte.quoted c.loop-byte.line c.loop-byte.out.items c.loop-byte.rest.now _ c.in-Some.byte c.in-Some.after.now c.in-Some.ensures.value
    c.in_default-behind_comment.ensures.value c.in_default-opening.ensures.value c.in_default-escaped.ensures.value c.loop-byte.invariant.same in
    record {
      same = rw (pushed, c.quoted_after-quoted.ensures) (rw line at next);
      small = c.in_default-push_byte.ensures.small;
      lines = omega (arith, c.in-Some.ensures.shorter);
    }

pub returns-clause-value : goal.returns-clause-value
returns-clause-value c = text_end c.args.macros.now c.loop-byte.quoted c.loop-byte.line c.loop-byte.out.items c.loop-byte.rest.now _ c.in_default.ensures.value c.loop-byte.invariant.same
