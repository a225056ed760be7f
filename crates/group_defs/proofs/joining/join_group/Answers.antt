use Rattle.json.specs.Value.{members_view}
use Rattle.group_defs.specs.Groups.{groups_seen}
use Rattle.group_defs.proofs.Joins.{in_place}
use Rattle.group_defs.proofs.joining.join_group.Goals as goal

pub returns : goal.returns
returns c =
    in_place c.args.number (groups_seen c.args.groups.now) c.args.name.now (members_view c.args.members.now.items) _ _ c.in_ok-draft.ensures.value c.in_ok-keys.ensures
    _ _ _ c.in_ok-join_keys.ensures c.in_ok-draft.ensures.blank_left c.in_ok-put.ensures
