use Rattle.desk_hub.proofs.Posting.{posts_all}
use Rattle.desk_hub.proofs.steps.post.Goals as goal

pub returns : goal.returns
returns c = λ site states entry are. posts_all c.entries_are_kept.ensures c.args.subs.now c.take_all.new.self c.args.ready c.take_all.ensures.took c.take_all.ensures.stand site states entry are
