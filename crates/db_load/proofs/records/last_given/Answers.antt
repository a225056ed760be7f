use Rattle.std.proofs.Common.{◌∙◌, sym, arith}
use Rattle.std.proofs.lemmas.List.{nil_from_length}
use Rattle.db_load.proofs.Kept.{keeps_begin, keeps_passed, keeps_more, keeps_end}
use Rattle.db_load.proofs.records.last_given.Goals as goal

pub loop-field-init : goal.loop-field-init
loop-field-init c = rw c.new-kept.ensures.items (keeps_begin c.args.fields.items)

pub loop-field-preserved-then-is_given : goal.loop-field-preserved-then-is_given
loop-field-preserved-then-is_given c =
    keeps_passed c.pop.new.self.items c.loop-field.left.items c.loop-field.kept.items c.args.fields.items c.in-Some.field c.in-Some.ensures.items (sym (rw c.deref.ensures.value at c.is_given.ensures) ∙ c.if-is_given.true) c.loop-field.invariant

pub loop-field-preserved : goal.loop-field-preserved
loop-field-preserved c =
    rw c.in_ok-push.ensures.items (keeps_more c.pop.new.self.items c.loop-field.left.items c.loop-field.kept.items c.args.fields.items c.in-Some.field c.in-Some.ensures.items (sym (rw c.deref.ensures.value at c.is_given.ensures) ∙ c.if-is_given.false) c.loop-field.invariant)

pub returns : goal.returns
returns c =
    keeps_end c.loop-field.left.items c.loop-field.kept.items c.args.fields.items _ (nil_from_length c.loop-field.left.items (omega (arith, c.in_default.ensures.cases.0, c.loop-field.left.ok))) c.reverse.ensures.items c.loop-field.invariant
