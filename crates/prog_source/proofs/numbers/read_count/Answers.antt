use Rattle.std.proofs.Common.{◌≡◌, ◌≢◌, ◌∙◌, ◌<◌, ◌^◌, ℕ, Option, sym, ap, subst}
use Rattle.std.specs.Prelude.{MatchOption}
use Rattle.std.specs.Fmt.{decimal}
use Rattle.std.proofs.lemmas.Bool.{both_ways}
use Rattle.prog_source.specs.Words.{is_plain_count}
use Rattle.prog_source.proofs.Digits.{counts, begins_count}
use Rattle.prog_source.proofs.numbers.read_count.Goals as goal

pub returns-then-not-is_plain_count : goal.returns-then-not-is_plain_count
returns-then-not-is_plain_count c = λ n small is.
    both_ways c.is_plain_count.result c.if-not-is_plain_count.true (c.is_plain_count.ensures ∙ ap is_plain_count c.as_bytes.ensures.value ∙ begins_count c.args.text.now n small is)

pub returns : goal.returns
returns c =
    subst (λ (o : Option ℕ). MatchOption o ((n : ℕ) → n < 2 ^ 64 → c.args.text.now ≢ decimal n) (λ n. c.args.text.now ≡ decimal n)) (sym c.ok.ensures.value)
    (counts _ c.args.text.now c.parse.result c.parse.ensures.value.0 (ap is_plain_count (sym c.as_bytes.ensures.value) ∙ sym c.is_plain_count.ensures ∙ c.if-not-is_plain_count.false))
