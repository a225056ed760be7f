use Rattle.std.proofs.Common.{◌≡◌, ◌∙◌, ap, sym, subst, ℕ, true, List, Some, SFits, w32, to_z-of_z}
use Rattle.std.proofs.lemmas.Bool.{both_ways}
use Rattle.desk_api.specs.Sites.{is_record_name}
use Rattle.prog_source.specs.Words.{IsSource, IsNumber, Source}
use Rattle.prog_source.proofs.Sources.{split_is, no_source, makes_single, names_file}
use Rattle.prog_source.proofs.source.read_source.Goals as goal

pub returns-in_default : goal.returns-in_default
returns-in_default c = names_file c.args.text.now c.in_default.ensures.cases

pub returns-then-not-is_record_name : goal.returns-then-not-is_record_name
returns-then-not-is_record_name c =
    no_source c.args.text.now (c.in-Some.name, c.in-Some.number) c.in-Some.ensures.cases (λ name value is.
    let same = split_is c.args.text.now (Some (c.in-Some.name, c.in-Some.number)) c.in-Some.ensures.cases name value is in
    both_ways c.is_record_name.result c.if-not-is_record_name.true (c.is_record_name.ensures ∙ ap is_record_name same.0 ∙ is.name_is))

pub returns-in_err-value : goal.returns-in_err-value
returns-in_err-value c =
    let absent : (s : Source) → ¬ (IsSource c.args.text.now s) = no_source c.args.text.now (c.in-Some.name, c.in-Some.number) c.in-Some.ensures.cases (λ name value is.
    let same = split_is c.args.text.now (Some (c.in-Some.name, c.in-Some.number)) c.in-Some.ensures.cases name value is in
    c.in_err-value.ensures {u = tt} value (subst (λ (t : List ℕ). IsNumber t value) (sym same.1) is.number_is)) in
    rw c.from_residual.ensures absent

pub returns : goal.returns
returns c =
    let number : IsNumber c.in-Some.number.now c.in_ok-value.value = c.in_ok-value.ensures {u = tt} in
    let fits : SFits w32 c.in_ok-value.value = number.fits in
    let named : is_record_name c.in-Some.name.now ≡ true = sym c.is_record_name.ensures ∙ c.if-not-is_record_name.false in
    rw (to_z-of_z fits) (makes_single c.args.text.now (c.in-Some.name, c.in-Some.number) c.in_ok-value.value c.in-Some.ensures.cases named number)
