use Rattle.journal_core.proofs.Growing.{legal_push}
use Rattle.journal_core.proofs.history.History.push.Goals as goal

pub returns-clause-legal : goal.returns-clause-legal
returns-clause-legal c =
    rw (c.push_reserved.ensures.items, ← c.self.view_is)
    (λ configs legal last. legal_push configs c.self.inside.opening.items c.self.inside.entries.items c.args.entry legal last)
