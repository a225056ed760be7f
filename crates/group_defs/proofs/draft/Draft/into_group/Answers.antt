use Rattle.std.proofs.Common.{sym, ◌∙◌}
use Rattle.group_defs.specs.Joined.{members_seen}
use Rattle.group_defs.proofs.Drafts.{group_as}
use Rattle.group_defs.proofs.draft.Draft.into_group.Goals as goal

pub returns : goal.returns
returns c =
    group_as c.in_ok-of.field-0 c.args.name.now c.id.inside.text.bytes.items c.self.inside.id c.self.inside.atomic c.from_vec.result (members_seen c.self.inside.members.entries) c.args.self
    c.in_ok-of.ensures c.id.view_is (sym c.self.view_is) (c.from_vec.ensures ∙ c.in_ok-members_in_order.ensures)
