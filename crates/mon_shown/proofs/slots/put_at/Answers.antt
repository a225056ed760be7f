use Rattle.std.proofs.Common.{◌∙◌, Option, Some, None, set, ap}
use Rattle.std.proofs.lemmas.List.{get_or-set_same, get_or-set_other, length-set}
use Rattle.mon_shown.specs.Slots.{slot_of}
use Rattle.mon_shown.specs.declared.watching.Watching.{Watching}
use Rattle.mon_shown.proofs.slots.put_at.Goals as goal

pub returns-clause-there : goal.returns-clause-there
returns-clause-there g c = ap (λ (o : Option (Watching g.row.C.Denot)). slot_of (set c.args.slots.now.items c.args.at o) c.args.at) c.put.ensures ∙ get_or-set_same c.args.slots.now.items c.args.at (Some c.args.watching) None c.requires

pub returns-clause-others : goal.returns-clause-others
returns-clause-others g c = λ s ne. get_or-set_other c.args.slots.now.items c.args.at s c.put.new.slot None ne

pub returns-clause-count : goal.returns-clause-count
returns-clause-count g c = length-set c.args.slots.now.items c.args.at c.put.new.slot
