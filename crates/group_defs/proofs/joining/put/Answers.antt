use Rattle.group_defs.proofs.Drafts.{put_as}
use Rattle.group_defs.proofs.joining.put.Goals as goal

pub returns : goal.returns
returns c =
    put_as c.args.groups.now.entries c.in_ok-key.key c.args.name.now c.in_ok-key.ensures.ok c.insert.new.self.entries c.args.draft c.in_ok-insert.ensures.entries
