use Rattle.std.proofs.Common.{◌∙◌, ℕ, List, ap}
use Rattle.mon_shown.specs.Channels.{is_one_of}
use Rattle.mon_shown.proofs.Listing.{one_more}
use Rattle.mon_shown.proofs.index.Listed.add.Goals as goal

pub returns-clause-ok : goal.returns-clause-ok
returns-clause-ok c = λ s. ap (λ (l : List ℕ). is_one_of l s) (c.in_ok-push.ensures {u = tt}).items ∙ one_more c.args.self.now.slots.items c.args.slot s
