use Rattle.std.proofs.Common.{Some, None, rules}
use Rattle.std.proofs.lemmas.Str.Pattern.{split_parts}
use Rattle.group_defs.proofs.CutLemmas.{slice_split-Lacks, slice_split-at}
use Rattle.group_defs.proofs.names.cut.Goals as goal

pub returns-in-Some : goal.returns-in-Some
returns-in-Some c =
    let at = split_parts c.args.at c.args.text.now (Some (c.in-Some.before, c.in-Some.after)) c.in-Some.ensures.cases c.requires in
    record { split = rw at.0 (slice_split-at _ _ _ at.1); shorter = search rules }

pub returns-in-None : goal.returns-in-None
returns-in-None c =
    let lacks = split_parts c.args.at c.args.text.now None c.in-None.ensures.cases c.requires in
    record { split = slice_split-Lacks _ _ lacks; shorter = tt }
