use Rattle.desk_api.specs.Types.{type_of}
use Rattle.desk_hub.proofs.Beginning.{leaves_of}
use Rattle.desk_hub.proofs.steps.ready.Goals as goal

pub begin-requires-clause-leaves : goal.begin-requires-clause-leaves
begin-requires-clause-leaves c = leaves_of (type_of c.args.site.now c.args.channel) c.args.mask c.requires.leaves
