use Rattle.std.proofs.Common.{◌∙◌, ap, List, ℕ, rules}
use Rattle.pva_wire.specs.Spelling.{IsBytes}
use Rattle.pvd_value.specs.View.{view}
use Rattle.pvd_desc.specs.Types.{laid}
use Rattle.pvd_codec.specs.Reading.{full_at}
use Rattle.pvd_codec.proofs.OneValue.{full_is_read}
use Rattle.pvd_codec.proofs.Slices.{finds, full_spelled, full_fitting}
use Rattle.pvd_codec.proofs.staged.full_at.Goals as goal

pub returns-clause-exact : goal.returns-clause-exact
returns-clause-exact c = rw c.shape.ensures.tree at c.value_at.ensures

pub returns-clause-spelled : goal.returns-clause-spelled
returns-clause-spelled c =
    let after = laid c.args.base.now c.value_at.new.changed in
    let fits : IsBytes c.args.bytes.now = λ i. search rules in
    full_spelled c.args.order (laid c.args.base.now c.args.changed.now) c.args.ty.now c.args.bytes.now (λ x. (view x.0, (x.1.now, after))) c.value_at.result fits (returns-clause-exact c)

pub returns-clause-found : goal.returns-clause-found
returns-clause-found c = λ front rest v after full parts.
    let before = laid c.args.base.now c.args.changed.now in
    let read = full_at c.args.order c.args.ty.now in
    let is = ap (λ (bytes : List ℕ). read (bytes, before)) parts ∙ full_is_read c.args.order before c.args.ty.now front rest v after full in
    finds (λ x. (view x.0, (x.1.now, laid c.args.base.now c.value_at.new.changed))) c.value_at.result (read (c.args.bytes.now, before)) (v, (rest, after)) is (returns-clause-exact c)

pub returns-clause-fits : goal.returns-clause-fits
returns-clause-fits c =
    let after = laid c.args.base.now c.value_at.new.changed in
    let fits : IsBytes c.args.bytes.now = λ i. search rules in
    full_fitting c.args.order (laid c.args.base.now c.args.changed.now) c.args.ty.now c.args.bytes.now (λ x. (view x.0, (x.1.now, after))) c.value_at.result fits (returns-clause-exact c)
