use Rattle.std.proofs.Common.{◌∙◌, ap, sym, subst, ℕ, List, None, Some, lit<}
use Rattle.std.specs.Prelude.{Contains}
use Rattle.std.proofs.lemmas.Bool.{both_ways}
use Rattle.std.proofs.lemmas.Str.Pattern.{split_parts}
use Rattle.prog_source.specs.Words.{IsPair, is_macro_name}
use Rattle.prog_source.proofs.Pairs.{pair_split}
use Rattle.prog_source.proofs.macros.read_pair.Goals as goal

pub returns-in_err-name : goal.returns-in_err-name
returns-in_err-name c =
    let absent : (pair : List ℕ × List ℕ) → ¬ (IsPair c.args.text.now pair) = λ pair is. pair_split c.args.text.now None c.in_err-name.ensures.cases pair is in
    rw c.from_residual.ensures absent

pub returns-then-not-is_macro_name : goal.returns-then-not-is_macro_name
returns-then-not-is_macro_name c = λ pair is.
    let same = pair_split c.args.text.now (Some (c.in_ok-name.name, c.in_ok-name.value)) c.in_ok-name.ensures.cases pair is in
    both_ways c.is_macro_name.result c.if-not-is_macro_name.true (c.is_macro_name.ensures ∙ ap is_macro_name same.0 ∙ is.name_is)

pub returns-then-has_line_feed : goal.returns-then-has_line_feed
returns-then-has_line_feed c = λ pair is.
    let same = pair_split c.args.text.now (Some (c.in_ok-name.name, c.in_ok-name.value)) c.in_ok-name.ensures.cases pair is in
    is.one_line (subst (λ (t : List ℕ). Contains t 10) same.1 (c.has_line_feed.ensures.0 c.if-has_line_feed.true))

pub returns : goal.returns
returns c = record {
  text_is = (split_parts 61 c.args.text.now (Some (c.in_ok-name.name, c.in_ok-name.value)) c.in_ok-name.ensures.cases (lit< tt)).0;
  name_is = sym c.is_macro_name.ensures ∙ c.if-not-is_macro_name.false;
  one_line = λ has. both_ways c.has_line_feed.result c.if-has_line_feed.false (c.has_line_feed.ensures.1 has);
}
