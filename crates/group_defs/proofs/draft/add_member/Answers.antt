use Rattle.group_defs.proofs.Drafts.{added_as, entries_as, told_new}
use Rattle.group_defs.proofs.draft.add_member.Goals as goal

pub returns-clause-added : goal.returns-clause-added
returns-clause-added c =
    told_new _ _ _ c.is_none-added.ensures (added_as c.args.members.now.entries c.in_ok-name.name c.args.key.now c.in_ok-name.ensures.ok c.in_ok-old.old c.in_ok-old.ensures.old)

pub returns-clause-entries : goal.returns-clause-entries
returns-clause-entries c =
    entries_as c.args.members.now.entries c.insert.new.self.entries c.in_ok-name.name c.args.key.now c.args.member c.in_ok-name.ensures.ok c.in_ok-old.ensures.entries
