use Rattle.desk_api.proofs.Naming.{pushed_new}
use Rattle.desk_api.proofs.groups.add_name.Goals as goal

pub returns : goal.returns
returns c =
    pushed_new c.args.names.now.keys c.insert.new.self.keys c.in_ok-name.name c.args.name.now (c.in_ok-name.ensures {u = tt}).ok c.requires (c.in_ok-insert.ensures {u = tt}).keys
