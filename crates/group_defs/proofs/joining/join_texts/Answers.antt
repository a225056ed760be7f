use Rattle.std.proofs.Common.{◌+◌, drop, sym, ap, ◌∙◌, arith}
use Rattle.std.proofs.lemmas.Result.{err_from_is_err_and}
use Rattle.std.specs.List.{enumerate_from}
use Rattle.group_defs.specs.Told.{each}
use Rattle.group_defs.specs.Groups.{groups_seen}
use Rattle.group_defs.specs.Joining.{join_record}
use Rattle.group_defs.proofs.Passing.{numbered_from, all_fail, all_go}
use Rattle.group_defs.proofs.joining.join_texts.Goals as goal

pub returns-in_err-join_record : goal.returns-in_err-join_record
returns-in_err-join_record c =
    let l = c.loop-number in
    let here = numbered_from c.args.texts.now l.number c.index-texts-number.result (omega arith) c.index-texts-number.is in
    let p = err_from_is_err_and c.from_residual.result c.from_residual.ensures.1 in
    rw (p.1, p.2)
    (all_fail join_record (groups_seen l.groups) (l.number, c.index-texts-number.result) (enumerate_from (l.number + 1) (drop (l.number + 1) c.args.texts.now)) _
    (sym (ap (each join_record (groups_seen l.groups)) here) ∙ l.invariant) _ c.in_err-join_record.ensures)

pub loop-number-preserved : goal.loop-number-preserved
loop-number-preserved c =
    let l = c.loop-number in
    let here = numbered_from c.args.texts.now l.number c.index-texts-number.result (omega arith) c.index-texts-number.is in
    all_go join_record (groups_seen l.groups) (l.number, c.index-texts-number.result) (enumerate_from (l.number + 1) (drop (l.number + 1) c.args.texts.now)) _
    (sym (ap (each join_record (groups_seen l.groups)) here) ∙ l.invariant) (groups_seen c.join_record.new.groups) c.in_ok-join_record.ensures
