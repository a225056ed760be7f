use Rattle.std.proofs.Common.{◌∙◌, sym, ap, map, ℕ, List, Bor, lit<}
use Rattle.std.proofs.lemmas.Result.{IfOk-weaker}
use Rattle.std.proofs.lemmas.Iterator.Consumers.{map_from_collect}
use Rattle.std.proofs.lemmas.Iterator.Splits.{YieldsList-from_str_split}
use Rattle.prog_source.proofs.Pairs.{cut_pieces, no_pieces}
use Rattle.prog_source.proofs.macros.pairs_in.Goals as goal

pub returns-then-is_empty : goal.returns-then-is_empty
returns-then-is_empty c =
    ap (map (λ (b : Bor (List ℕ)). b.now)) c.new.ensures.items ∙ sym (no_pieces c.args.text.now (sym c.is_empty.ensures ∙ c.if-is_empty.true))

pub returns : goal.returns
returns c =
    IfOk-weaker c.collect.result _ _ (λ v h. h ∙ sym (cut_pieces c.args.text.now (sym c.is_empty.ensures ∙ c.if-is_empty.false)))
    (map_from_collect _ c.collect.ensures.ran (YieldsList-from_str_split 44 c.args.text.now (lit< tt) c.split.ensures.text c.split.ensures.has_more c.split.ensures.pattern))
