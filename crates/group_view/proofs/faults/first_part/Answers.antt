use Rattle.std.proofs.Common.{Some, None, eqb, List, ℕ, sym, ap, ◌∙◌, arith}
use Rattle.std.proofs.lemmas.List.Splits.{slice_split_first}
use Rattle.std.proofs.lemmas.Str.Pattern.{split_once_first, split_parts}
use Rattle.std.specs.Str.{bytes_eq}
use Rattle.pvd_type.proofs.Paths.{path_of_name}
use Rattle.group_view.specs.Faults.{begins_with}
use Rattle.group_view.proofs.faults.first_part.Goals as goal

pub returns-in-Some : goal.returns-in-Some
returns-in-Some c = λ other.
    let name = c.args.name.now in
    let cut = split_once_first 46 name (Some (c.in-Some.first, c.in-Some.field-0-1)) c.in-Some.ensures.cases (omega arith) in
    ap (begins_with other) (slice_split_first (λ b. eqb b 46) name 0 cut.0) ∙ ap (λ (first : List ℕ). bytes_eq first other) (sym cut.1)

pub returns-in-None : goal.returns-in-None
returns-in-None c = λ other. ap (begins_with other) (path_of_name c.args.name.now (split_parts 46 c.args.name.now None c.in-None.ensures.cases (omega arith)))
