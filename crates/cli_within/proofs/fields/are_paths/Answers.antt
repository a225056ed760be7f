use Rattle.std.proofs.Common.{◌∙◌, ℕ, List, Bor, true, ap, sym, arith}
use Rattle.std.specs.Prelude.{◌&&◌}
use Rattle.std.specs.List.{list_all}
use Rattle.std.proofs.lemmas.List.{take_all}
use Rattle.std.proofs.lemmas.List.Folds.{list_all_at, list_all_more}
use Rattle.cli_within.specs.Words.{is_path}
use Rattle.cli_within.proofs.fields.are_paths.Goals as goal

pub returns-then-not-is_one : goal.returns-then-not-is_one
returns-then-not-is_one c =
    let bad = sym (c.in_ok-is_one.ensures {u = tt}) ∙ c.if-not-is_one.true in
    sym (list_all_at (λ (t : Bor (List ℕ)). is_path t.now) c.args.texts.now c.loop-text.text-index _ c.loop-text-test.true bad)

pub loop-text-preserved : goal.loop-text-preserved
loop-text-preserved c =
    let good = sym (c.in_ok-is_one.ensures {u = tt}) ∙ c.if-not-is_one.false in
    list_all_more (λ (t : Bor (List ℕ)). is_path t.now) c.args.texts.now c.loop-text.text-index _ c.loop-text-test.true ∙ (λ j. c.loop-text.invariant j && good j)

pub returns : goal.returns
returns c =
    sym (ap (list_all (λ (t : Bor (List ℕ)). is_path t.now)) (sym (take_all c.loop-text.text-index c.args.texts.now (omega (arith, c.loop-text-test.false)))) ∙ c.loop-text.invariant)
