use Rattle.std.proofs.Common.{◌+◌, drop, sym, ap, ◌∙◌, arith}
use Rattle.std.proofs.lemmas.Result.{err_from_is_err_and}
use Rattle.json.specs.Value.{members_view}
use Rattle.group_defs.specs.Told.{each}
use Rattle.group_defs.specs.Groups.{groups_seen}
use Rattle.group_defs.specs.Shown.{shown_groups}
use Rattle.group_defs.specs.Joining.{join_group}
use Rattle.group_defs.proofs.Passing.{from_place, each_fails, each_goes}
use Rattle.group_defs.proofs.joining.join_groups.Goals as goal

pub returns-in_err-join_group : goal.returns-in_err-join_group
returns-in_err-join_group c =
    let l = c.loop-object in
    let x = c.object-item.result in
    let here = from_place c.args.objects.now l.object-index x (omega arith) c.object-item.is in
    let p = err_from_is_err_and c.from_residual.result c.from_residual.ensures.1 in
    rw (p.1, p.2)
    (each_fails (join_group c.args.number) (groups_seen l.groups) (x.0.now, members_view x.1.now.items) (shown_groups (drop (l.object-index + 1) c.args.objects.now)) _
    (sym (ap (λ os. each (join_group c.args.number) (groups_seen l.groups) (shown_groups os)) here) ∙ l.invariant) _ c.in_err-join_group.ensures)

pub loop-object-preserved : goal.loop-object-preserved
loop-object-preserved c =
    let l = c.loop-object in
    let x = c.object-item.result in
    let here = from_place c.args.objects.now l.object-index x (omega arith) c.object-item.is in
    each_goes (join_group c.args.number) (groups_seen l.groups) (x.0.now, members_view x.1.now.items) (shown_groups (drop (l.object-index + 1) c.args.objects.now)) _
    (sym (ap (λ os. each (join_group c.args.number) (groups_seen l.groups) (shown_groups os)) here) ∙ l.invariant) (groups_seen c.join_group.new.groups) c.in_ok-join_group.ensures
