use Rattle.std.proofs.Common.{◌∙◌, ap, List, ℕ, rules}
use Rattle.pva_wire.specs.Spelling.{IsBytes}
use Rattle.pvd_value.specs.View.{view}
use Rattle.pvd_desc.specs.Types.{laid}
use Rattle.pvd_codec.specs.Reading.{part_at}
use Rattle.pvd_codec.proofs.PartAgain.{part_is_read}
use Rattle.pvd_codec.proofs.Slices.{finds, part_spelled, part_fitting}
use Rattle.pvd_codec.proofs.staged.part_at.Goals as goal

pub returns-clause-exact : goal.returns-clause-exact
returns-clause-exact c = c.part_at.ensures

pub returns-clause-spelled : goal.returns-clause-spelled
returns-clause-spelled c =
    let after = laid c.args.base.now c.part_at.new.changed in
    let fits : IsBytes c.args.bytes.now = λ i. search rules in
    part_spelled c.args.order (laid c.args.base.now c.args.changed.now) c.args.ty.now c.args.bytes.now (λ x. ((x.0, view x.1), (x.2.now, after))) c.part_at.result fits (returns-clause-exact c)

pub returns-clause-found : goal.returns-clause-found
returns-clause-found c = λ front rest mask v after part parts.
    let before = laid c.args.base.now c.args.changed.now in
    let read = part_at c.args.order c.args.ty.now in
    let is = ap (λ (bytes : List ℕ). read (bytes, before)) parts ∙ part_is_read c.args.order before c.args.ty.now front rest mask v after part in
    finds (λ x. ((x.0, view x.1), (x.2.now, laid c.args.base.now c.part_at.new.changed))) c.part_at.result (read (c.args.bytes.now, before)) ((mask, v), (rest, after)) is (returns-clause-exact c)

pub returns-clause-fits : goal.returns-clause-fits
returns-clause-fits c =
    let after = laid c.args.base.now c.part_at.new.changed in
    let fits : IsBytes c.args.bytes.now = λ i. search rules in
    part_fitting c.args.order (laid c.args.base.now c.args.changed.now) c.args.ty.now c.args.bytes.now (λ x. ((x.0, view x.1), (x.2.now, after))) c.part_at.result fits (returns-clause-exact c)
