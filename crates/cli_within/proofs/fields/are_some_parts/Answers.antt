use Rattle.std.proofs.Common.{ℕ, List, Bor, rules, tests}
use Rattle.std.proofs.lemmas.Iterator.{YieldsList-from_slice}
use Rattle.std.proofs.lemmas.Iterator.Search.{all_from_yields_List}
use Rattle.cli_within.specs.Words.{is_some_part}
use Rattle.cli_within.proofs.fields.are_some_parts.Goals as goal

pub returns : goal.returns
returns c =
    all_from_yields_List (λ (part : Bor (List ℕ)). is_some_part part.now) _ _ c.all.result c.all.ensures.ran (YieldsList-from_slice c.args.parts.now c.iter.ensures.rest) (λ x b q k. search (rules, tests))
