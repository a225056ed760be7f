use Rattle.std.proofs.Common.{Some, None, ◌∷◌, eqb, sym, ◌∙◌, arith}
use Rattle.std.proofs.lemmas.List.Splits.{slice_split_first}
use Rattle.std.proofs.lemmas.Str.Pattern.{split_once_first, split_parts}
use Rattle.pvd_type.specs.Numbers.{path_of}
use Rattle.pvd_type.proofs.Paths.{path_of_name}
use Rattle.cli_session.proofs.structures.split_path.Goals as goal

pub returns-in-Some : goal.returns-in-Some
returns-in-Some c =
    let path = c.args.path.now in
    let cut = split_once_first 46 path (Some (c.in-Some.name, c.in-Some.rest)) c.in-Some.ensures.cases (omega arith) in
    slice_split_first (λ b. eqb b 46) path 0 cut.0 ∙ (λ i. sym cut.1 i ∷ path_of (sym cut.2 i))

pub returns-in-None : goal.returns-in-None
returns-in-None c = path_of_name c.args.path.now (split_parts 46 c.args.path.now None c.in-None.ensures.cases (omega arith))
