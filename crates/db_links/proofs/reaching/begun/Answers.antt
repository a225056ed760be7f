use Rattle.db_links.proofs.Walking.{walk_begins}
use Rattle.db_links.proofs.reaching.begun.Goals as goal

pub returns : goal.returns
returns c = λ links within.
    walk_begins links c.args.rec c.new.result c.mark.new.walk.reached c.new-2.result.items c.mark.new.walk.left.items within c.new.ensures.empty c.new-2.ensures.items c.in_ok-mark.ensures
