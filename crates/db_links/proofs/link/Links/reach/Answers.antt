use Rattle.std.proofs.Common.{subst, sym, rules}
use Rattle.db_links.specs.Reaching.{IsReach}
use Rattle.db_links.proofs.Walking.{walk_ends}
use Rattle.db_links.proofs.link.Links.reach.Goals as goal

pub returns : goal.returns
returns c =
    let walk = c.follow_all.new.walk in
    subst (IsReach c.args.self.now c.args.rec) (sym c.in_ok-records.ensures)
    (walk_ends c.args.self.now c.args.rec walk.reached walk.left.items c.in_ok-follow_all.ensures.none (search rules))
