use Rattle.std.proofs.Common.{◌≡◌, ◌-◌, ◌∷◌, ◌++◌, [], ap, sym, arith, length}
use Rattle.std.proofs.lemmas.Result.{err_from_is_err_and}
use Rattle.db_text.specs.Macros.{before}
use Rattle.db_text.proofs.Making.{inside_is, fails_more, goes_end, goes_plain, goes_unchosen, goes_unmade, goes_macro}
use Rattle.db_text.proofs.expanding.+made_inside.Goals as goal

pub loop-byte-init : goal.loop-byte-init
loop-byte-init t c = record {
  same = (length c.args.text.now, omega arith, ap (before c.args.out.now.items) (sym (inside_is c.args.macros.now c.args.room c.args.text.now c.requires.room)));
  small = c.requires.small;
}

pub loop-byte-preserved-in_default-opening : goal.loop-byte-preserved-in_default-opening
loop-byte-preserved-in_default-opening t c =
    let pushed : c.push_byte.new.out.items ≡ c.loop-byte.out.items ++ c.in-Some.byte ∷ [] = cc c.in_ok-push_byte.ensures.value in
    record {
      same = rw pushed (goes_plain c.args.macros.now (c.args.room - 1) c.loop-byte.out.items c.loop-byte.rest.now _ c.in-Some.byte c.in-Some.after.now c.in-Some.ensures.value c.in_default-opening.ensures.value c.loop-byte.invariant.same);
      small = c.in_ok-push_byte.ensures.small;
    }

pub returns-in_err-text-clause-value : goal.returns-in_err-text-clause-value
returns-in_err-text-clause-value t c =
    let p = err_from_is_err_and c.from_residual-in_err-text.result c.from_residual-in_err-text.ensures.1 in
    rw (p.1, p.2) (fails_more c.in_err-text.field-0.0 c.args.out.now.items _
    (goes_unchosen c.args.macros.now (c.args.room - 1) c.loop-byte.out.items c.loop-byte.rest.now _ c.in-Some.byte c.in-Some.after.now c.in-Some.ensures.value
    c.in-Some-opening.closer c.in-Some-opening.inside.now c.in-Some-opening.ensures.value c.in_err-text.field-0.0 c.in_err-text.ensures.value c.loop-byte.invariant.same))

pub returns-in_err-made_inside-clause-value : goal.returns-in_err-made_inside-clause-value
returns-in_err-made_inside-clause-value t c =
    let p = err_from_is_err_and c.from_residual-in_err-made_inside.result c.from_residual-in_err-made_inside.ensures.1 in
    rw (p.1, p.2) (fails_more c.in_err-made_inside.field-0.0 c.args.out.now.items _
    (goes_unmade c.args.macros.now (c.args.room - 1) c.loop-byte.out.items c.loop-byte.rest.now _ c.in-Some.byte c.in-Some.after.now c.in-Some.ensures.value
    c.in-Some-opening.closer c.in-Some-opening.inside.now c.in-Some-opening.ensures.value c.in_ok-text.text.now c.in_ok-text.after.now c.in_ok-text.ensures.value
    c.in_err-made_inside.field-0.0 c.in_err-made_inside.ensures.value c.loop-byte.invariant.same))

pub loop-byte-preserved : goal.loop-byte-preserved
loop-byte-preserved t c = record {
  same = goes_macro c.args.macros.now (c.args.room - 1) c.loop-byte.out.items c.loop-byte.rest.now _ c.in-Some.byte c.in-Some.after.now c.in-Some.ensures.value
      c.in-Some-opening.closer c.in-Some-opening.inside.now c.in-Some-opening.ensures.value c.in_ok-text.text.now c.in_ok-text.after.now c.in_ok-text.ensures.value
      c.made_inside.new.out.items (omega (arith, c.in-Some-opening.ensures.shorter, c.in_ok-text.ensures.shorter)) c.in_ok-made_inside.ensures.value c.loop-byte.invariant.same;
  small = c.in_ok-made_inside.ensures.small;
}

pub returns-clause-value : goal.returns-clause-value
returns-clause-value t c = goes_end c.args.macros.now (c.args.room - 1) c.loop-byte.out.items c.loop-byte.rest.now _ c.in_default.ensures.value c.loop-byte.invariant.same
