use Rattle.std.proofs.Common.{sym, ap, ◌∙◌}
use Rattle.group_defs.specs.Groups.{groups_seen}
use Rattle.group_defs.specs.Joining.{with_group}
use Rattle.group_defs.proofs.Drafts.{known_as, put_as}
use Rattle.group_defs.proofs.joining.take.Goals as goal

pub returns-clause-value : goal.returns-clause-value
returns-clause-value c =
    c.in_ok-draft.ensures ∙ sym (known_as c.args.groups.now.entries c.in_ok-key.key c.args.name.now c.in_ok-key.ensures.ok c.in_ok-old.old c.in_ok-old.ensures.old)

pub returns-clause-blank_left : goal.returns-clause-blank_left
returns-clause-blank_left c =
    put_as c.args.groups.now.entries c.in_ok-key.key c.args.name.now c.in_ok-key.ensures.ok c.insert.new.self.entries c.in_ok-first.first c.in_ok-old.ensures.entries
    ∙ ap (with_group (groups_seen c.args.groups.now) c.args.name.now) c.in_ok-first.ensures
