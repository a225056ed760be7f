use Rattle.std.proofs.Common.{◌≡◌, FitsSigned, w64, to_z, of_z, rules, sym, ap, Some, ◌∙◌, arith}
use Rattle.std.specs.Int.{w128}
use Rattle.std.proofs.lemmas.Int.{ints}
use Rattle.rec_kinds.specs.Numbers.{number_of}
use Rattle.rec_kinds.proofs.Clips.{is_below, is_above, is_between}
use Rattle.rec_kinds.proofs.number.number_within.Goals as goal

pub returns-then-number-from-clause-same : goal.returns-then-number-from-clause-same
returns-then-number-from-clause-same c =
    let fits : FitsSigned w64 c.args.low = search rules in
    is_below (number_of c.args.text.now) c.in_ok-number.number c.args.low c.args.high
    (to_z w128 (of_z w128 c.in_ok-number.number)) (to_z w128 (of_z w128 c.from.result))
    (sym c.clipped_number.ensures ∙ c.in_ok-number.was {u = tt}) fits c.if-number-from.true
    (omega (arith, ints)) (omega (arith, ints))

pub returns-then-from-number-clause-same : goal.returns-then-from-number-clause-same
returns-then-from-number-clause-same c =
    let fits : FitsSigned w64 c.args.high = search rules in
    is_above (number_of c.args.text.now) c.in_ok-number.number c.args.low c.args.high
    (to_z w128 (of_z w128 c.in_ok-number.number)) (to_z w128 (of_z w128 c.from-2.result))
    (sym c.clipped_number.ensures ∙ c.in_ok-number.was {u = tt}) fits c.if-from-number.true
    (omega (arith, ints)) (omega (arith, ints))

pub returns-clause-same : goal.returns-clause-same
returns-clause-same c =
    let below : FitsSigned w64 c.args.low = search rules in
    let above : FitsSigned w64 c.args.high = search rules in
    let e : to_z w64 (of_z w64 (to_z w128 (of_z w128 c.in_ok-number.number))) ≡ c.in_ok-number.number =
    first_of (search rules, grind (arith, ints), omega (arith, ints)) in
    ap Some e ∙
    is_between (number_of c.args.text.now) c.in_ok-number.number c.args.low c.args.high
    (to_z w128 (of_z w128 c.in_ok-number.number)) (to_z w128 (of_z w128 c.from.result))
    (to_z w128 (of_z w128 c.in_ok-number.number)) (to_z w128 (of_z w128 c.from-2.result))
    (sym c.clipped_number.ensures ∙ c.in_ok-number.was {u = tt}) below above
    c.if-number-from.false (omega (arith, ints)) (omega (arith, ints))
    c.if-from-number.false (omega (arith, ints)) (omega (arith, ints))
