use Rattle.std.proofs.Common.{◌∙◌, ◌++◌, ◌∷◌, [], ℕ, List, Bor, ap, map, sym, arith}
use Rattle.std.proofs.lemmas.List.{map_more, take_all}
use Rattle.cli_within.proofs.verb.names_of.Goals as goal

pub loop-text-preserved : goal.loop-text-preserved
loop-text-preserved c =
    c.in_ok-push.ensures.items ∙ (λ j. c.loop-text.invariant j ++ (c.in_ok-of.ensures {u = tt}) j ∷ [])
    ∙ sym (map_more (λ (t : Bor (List ℕ)). t.now) c.args.texts.now c.loop-text.text-index _ c.loop-text-test.true)

pub returns : goal.returns
returns c =
    c.loop-text.invariant ∙ ap (map (λ (t : Bor (List ℕ)). t.now)) (take_all c.loop-text.text-index c.args.texts.now (omega (arith, c.loop-text-test.false)))
