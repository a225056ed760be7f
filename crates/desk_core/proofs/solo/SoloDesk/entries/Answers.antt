use Rattle.std.proofs.Common.{sym, ◌∙◌, ap, length}
use Rattle.desk_api.proofs.Adding.{as_many}
use Rattle.desk_core.proofs.solo.SoloDesk.entries.Goals as goal

pub returns : goal.returns
returns g c = c.len.ensures ∙ ap length c.args.self.now.stands.entries_are ∙ sym (as_many c.args.self.now.log.seen)
