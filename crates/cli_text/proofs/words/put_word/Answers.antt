use Rattle.std.proofs.Common.{◌≡◌, ◌∙◌, not, Some, Result, Ok, sym, subst, ap}
use Rattle.std.specs.Ordering.{nat_cmp}
use Rattle.std.specs.FinSet as set
use Rattle.std.specs.FinSet.{FinSet}
use Rattle.pvd_type.specs.View.{shape_view}
use Rattle.pvd_value.specs.Data.{Data}
use Rattle.pvd_value.specs.View.{view}
use Rattle.cli_text.specs.declared.fault.Cause.{Cause}
use Rattle.cli_text.specs.Faults.{Fails}
use Rattle.cli_text.specs.Put.{target, give, put_at}
use Rattle.cli_text.proofs.PutSteps.{leaf_taken, leaf_refused}
use Rattle.cli_text.proofs.words.put_word.Goals as goal

pub returns-in-Err : goal.returns-in-Err
returns-in-Err c =
    let number = c.in-Some.target.number in
    let text = c.in-Some.target.text.now in
    let mask = c.args.put.now.mask in
    let v = view c.args.put.now.value in
    let is : target c.args.way c.args.ty.now c.args.word.now ≡ Some (number, text) = sym c.in-Some.ensures.target in
    let e : put_at (give c.args.way c.args.choices.now (not c.contains.result) text) number (shape_view c.shape-shape.result.now) v ≡ put_at (give c.args.way c.args.choices.now (not (set.contains mask number)) text) number c.args.ty.now v =
    λ j. put_at (give c.args.way c.args.choices.now (not (c.contains.ensures j)) text) number (c.shape-shape.ensures.tree j) v in
    leaf_refused c.args.way c.args.choices.now c.args.ty.now (mask, v) c.args.word.now (number, text) is c.in-Err.cause (subst (λ (r : Result Data Cause). Fails c.in-Err.cause r) e c.in-Err.ensures)

pub returns : goal.returns
returns c =
    let number = c.in-Some.target.number in
    let text = c.in-Some.target.text.now in
    let mask = c.args.put.now.mask in
    let v = view c.args.put.now.value in
    let is : target c.args.way c.args.ty.now c.args.word.now ≡ Some (number, text) = sym c.in-Some.ensures.target in
    let e : put_at (give c.args.way c.args.choices.now (not c.contains.result) text) number (shape_view c.shape-shape.result.now) v ≡ put_at (give c.args.way c.args.choices.now (not (set.contains mask number)) text) number c.args.ty.now v =
    λ j. put_at (give c.args.way c.args.choices.now (not (c.contains.ensures j)) text) number (c.shape-shape.ensures.tree j) v in
    leaf_taken c.args.way c.args.choices.now c.args.ty.now (mask, v) c.args.word.now (number, text) is (view c.put_below.new.value) (sym e ∙ c.in_default-put_below.ensures)
    ∙ ap (λ (m : FinSet nat_cmp). Ok (m, view c.put_below.new.value)) (sym c.in_ok-insert.ensures.ok)
