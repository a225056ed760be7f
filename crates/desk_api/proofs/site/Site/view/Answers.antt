use Rattle.desk_api.proofs.Showing.{are_ready}
use Rattle.desk_api.proofs.site.Site.view.Goals as goal

pub view-requires : goal.view-requires
view-requires c = are_ready c.args.self.now.configs c.args.states.now c.group.result.now c.requires.valid c.group.ensures.over
