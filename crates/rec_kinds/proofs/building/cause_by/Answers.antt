use Rattle.std.proofs.Common.{◌≡◌, ℤ, Some, FitsSigned, w64, to_z, of_z, rules, sym, ap, ◌∙◌, arith}
use Rattle.std.proofs.lemmas.Int.{ints}
use Rattle.rec_kinds.specs.Building.{misread, count_fault}
use Rattle.rec_kinds.specs.declared.field.Rule.{Rule}
use Rattle.rec_kinds.proofs.building.cause_by.Goals as goal

pub returns-in-Count : goal.returns-in-Count
returns-in-Count c =
    let below : FitsSigned w64 c.in-Count.low = search rules in
    let above : FitsSigned w64 c.in-Count.high = search rules in
    let low : to_z w64 (of_z w64 c.in-Count.low) ≡ c.in-Count.low = omega (arith, ints) in
    let high : to_z w64 (of_z w64 c.in-Count.high) ≡ c.in-Count.high = omega (arith, ints) in
    c.cause_of_count.ensures
    ∙ (ap (λ (z : ℤ). count_fault z (to_z w64 (of_z w64 c.in-Count.high)) c.args.text.now) low
    ∙ (ap (λ (z : ℤ). count_fault c.in-Count.low z c.args.text.now) high
    ∙ sym (ap (λ (r : Rule). misread c.args.given.now.kind c.args.given.now.fields.now c.args.text.now (Some r)) c.in-Count.is)))
