use Rattle.std.proofs.Common.{◌≡◌, ◌∙◌, ◌+◌, ◌-◌, sym, refl, arith, length, true}
use Rattle.std.proofs.lemmas.List.{length-take}
use Rattle.std.proofs.lemmas.Bool.{eq-eqb}
use Rattle.pvd_type.proofs.Sets.{differs}
use Rattle.db_text.specs.Expanding.{line_after}
use Rattle.db_text.specs.Cutting.{is_blank, bad, open_quotes}
use Rattle.db_text.proofs.Cuts.{cut_begins, cut_end, cut_blank, cut_bad, cut_next, lines_of}
use Rattle.db_text.proofs.cutting.cut_bytes.Goals as goal

pub loop-byte-init : goal.loop-byte-init
loop-byte-init c = record {
  same = rw c.new-tokens.ensures.items (cut_begins c.args.bytes.now);
  lines = omega (arith, c.requires);
  shorter = omega arith;
}

pub loop-byte-preserved-then-byte-eq10 : goal.loop-byte-preserved-then-byte-eq10
loop-byte-preserved-then-byte-eq10 c =
    let blank : is_blank c.in-Some.byte ≡ true = rw c.if-byte-eq10.true refl in
    let line : c.loop-byte.line + 1 ≡ line_after c.loop-byte.line c.in-Some.byte = rw (eq-eqb c.in-Some.byte 10 c.if-byte-eq10.true) refl in
    record {
      same = rw line (cut_blank (length c.args.bytes.now) c.loop-byte.before c.loop-byte.line c.loop-byte.tokens.items c.loop-byte.rest.now _ c.in-Some.byte c.in-Some.after.now c.in-Some.ensures.value blank c.loop-byte.invariant.same);
      lines = omega (arith, c.in-Some.ensures.shorter);
      shorter = omega (arith, c.in-Some.ensures.shorter);
    }

pub loop-byte-preserved-then-is_blank : goal.loop-byte-preserved-then-is_blank
loop-byte-preserved-then-is_blank c =
    let line : line_after c.loop-byte.line c.in-Some.byte ≡ c.loop-byte.line = rw (differs c.in-Some.byte 10 c.if-byte-eq10.false) refl in
    let next = cut_blank (length c.args.bytes.now) c.loop-byte.before c.loop-byte.line c.loop-byte.tokens.items c.loop-byte.rest.now _ c.in-Some.byte c.in-Some.after.now c.in-Some.ensures.value
    (sym c.is_blank.ensures ∙ c.if-is_blank.true) c.loop-byte.invariant.same in
    record {
      same = rw line at next;
      lines = omega (arith, c.in-Some.ensures.shorter);
      shorter = omega (arith, c.in-Some.ensures.shorter);
    }

pub returns-in-Err-Bad : goal.returns-in-Err-Bad
returns-in-Err-Bad c =
    cut_bad (length c.args.bytes.now) c.loop-byte.before c.loop-byte.line c.loop-byte.tokens.items c.loop-byte.rest.now _ c.in-Some.byte c.in-Some.after.now c.in-Some.ensures.value
    (sym c.is_blank.ensures ∙ c.if-is_blank.false) bad (rw c.in-Err-Bad.field-0-is at c.in-Err-Bad.ensures.value) c.loop-byte.invariant.same

pub returns-in-Err-OpenQuotes : goal.returns-in-Err-OpenQuotes
returns-in-Err-OpenQuotes c =
    cut_bad (length c.args.bytes.now) c.loop-byte.before c.loop-byte.line c.loop-byte.tokens.items c.loop-byte.rest.now _ c.in-Some.byte c.in-Some.after.now c.in-Some.ensures.value
    (sym c.is_blank.ensures ∙ c.if-is_blank.false) open_quotes (rw c.in-Err-OpenQuotes.field-0-is at c.in-Err-OpenQuotes.ensures.value) c.loop-byte.invariant.same

pub loop-byte-preserved : goal.loop-byte-preserved
loop-byte-preserved c =
    let bytes_is : c.as_bytes.result.now ≡ c.in-Ok.text = c.as_bytes.ensures.value ∙ c.as_str.ensures.text in
    let follows_is = rw bytes_is at c.follows-before.ensures in
    let lines : c.lines_in-line.result ≡ lines_of c.loop-byte.rest.now c.in-Ok.next.now = c.lines_in-line.ensures.value in
    let few = length-take (length c.loop-byte.rest.now - length c.in-Ok.next.now) c.loop-byte.rest.now in
    record {
      same = rw (c.in_ok-push-in-Ok.ensures.items, follows_is, lines) (cut_next (length c.args.bytes.now) c.loop-byte.before c.loop-byte.line c.loop-byte.tokens.items c.loop-byte.rest.now _ c.in-Some.byte c.in-Some.after.now c.in-Some.ensures.value
          (sym c.is_blank.ensures ∙ c.if-is_blank.false) c.in-Ok.kind c.in-Ok.text c.in-Ok.next.now c.in-Ok.ensures.value c.in-Ok.ensures.shorter c.loop-byte.invariant.same);
      lines = omega (arith, c.in-Ok.ensures.shorter, c.lines_in-line.ensures.within, few);
      shorter = omega (arith, c.in-Ok.ensures.shorter);
    }

pub returns : goal.returns
returns c = cut_end (length c.args.bytes.now) c.loop-byte.before c.loop-byte.line c.loop-byte.tokens.items c.loop-byte.rest.now _ c.in_default.ensures.value c.loop-byte.invariant.same
