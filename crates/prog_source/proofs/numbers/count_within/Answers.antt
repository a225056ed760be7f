use Rattle.std.proofs.Common.{◌≡◌, ◌<◌, ◌^◌, ℕ, ◌∙◌, sym, rules, arith}
use Rattle.std.proofs.lemmas.Fmt.{decimal_injective}
use Rattle.prog_source.specs.Words.{IsCount}
use Rattle.prog_source.proofs.numbers.count_within.Goals as goal

pub returns-in_err-count : goal.returns-in_err-count
returns-in_err-count c =
    let fits : c.args.most < 2 ^ 64 = search rules in
    let absent : (n : ℕ) → ¬ (IsCount c.args.text.now c.args.least c.args.most n) = λ n is. c.in_err-count.ensures {u = tt} n (omega (arith, is.most_is, fits)) is.written in
    rw c.from_residual.ensures absent

pub returns-then-count-least : goal.returns-then-count-least
returns-then-count-least c = λ n is.
    let fits : c.args.most < 2 ^ 64 = search rules in
    let small : c.in_ok-count.count < 2 ^ 64 = search rules in
    let same : n ≡ c.in_ok-count.count = decimal_injective n c.in_ok-count.count (omega (arith, is.most_is, fits)) small (sym is.written ∙ c.in_ok-count.ensures {u = tt}) in
    absurd (omega (arith, same, is.least_is, c.if-count-least.true))

pub returns-then-count-most : goal.returns-then-count-most
returns-then-count-most c = λ n is.
    let fits : c.args.most < 2 ^ 64 = search rules in
    let small : c.in_ok-count.count < 2 ^ 64 = search rules in
    let same : n ≡ c.in_ok-count.count = decimal_injective n c.in_ok-count.count (omega (arith, is.most_is, fits)) small (sym is.written ∙ c.in_ok-count.ensures {u = tt}) in
    absurd (omega (arith, same, is.most_is, c.if-count-most.true))

pub returns : goal.returns
returns c = record { written = c.in_ok-count.ensures {u = tt}; least_is = omega (arith, c.if-count-least.false); most_is = omega (arith, c.if-count-most.false) }
