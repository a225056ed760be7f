use Rattle.std.proofs.Common.{◌+◌, drop, sym, ap, ◌∙◌, arith}
use Rattle.std.proofs.lemmas.Result.{err_from_is_err_and}
use Rattle.group_defs.specs.Told.{each}
use Rattle.group_defs.specs.Groups.{groups_seen}
use Rattle.group_defs.specs.Joining.{join_info}
use Rattle.group_defs.proofs.Passing.{from_place, each_fails, each_goes}
use Rattle.group_defs.proofs.joining.join_infos.Goals as goal

pub returns-in_err-join_info : goal.returns-in_err-join_info
returns-in_err-join_info c =
    let l = c.loop-info in
    let here = from_place c.args.infos.now l.info-index c.info-item.result (omega arith) c.info-item.is in
    let p = err_from_is_err_and c.from_residual.result c.from_residual.ensures.1 in
    rw (p.1, p.2)
    (each_fails (join_info c.args.number) (groups_seen l.groups) c.info-item.result (drop (l.info-index + 1) c.args.infos.now) _
    (sym (ap (each (join_info c.args.number) (groups_seen l.groups)) here) ∙ l.invariant) _ c.in_err-join_info.ensures)

pub loop-info-preserved : goal.loop-info-preserved
loop-info-preserved c =
    let l = c.loop-info in
    let here = from_place c.args.infos.now l.info-index c.info-item.result (omega arith) c.info-item.is in
    each_goes (join_info c.args.number) (groups_seen l.groups) c.info-item.result (drop (l.info-index + 1) c.args.infos.now) _
    (sym (ap (each (join_info c.args.number) (groups_seen l.groups)) here) ∙ l.invariant) (groups_seen c.join_info.new.groups) c.in_ok-join_info.ensures
