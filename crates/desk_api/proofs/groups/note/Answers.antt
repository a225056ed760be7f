use Rattle.std.proofs.Common.{ℕ, Vec, Global}
use Rattle.desk_api.proofs.Noting.{noted_pushed}
use Rattle.desk_api.proofs.Stating.{there}
use Rattle.desk_api.proofs.groups.note.Goals as goal

pub returns-clause-noted : goal.returns-clause-noted
returns-clause-noted c =
    noted_pushed (λ (v : Vec ℕ Global). v.items) c.args.index.now.items c.args.rec c.args.number c.index_mut.result.now c.push.new.self (there c.args.index.now.items c.args.rec c.index_mut.result.now c.requires c.index_mut.ensures.value) (c.in_ok-push.ensures {u = tt}).items
