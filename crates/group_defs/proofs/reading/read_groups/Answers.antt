use Rattle.std.proofs.Common.{List, Result, subst}
use Rattle.group_defs.specs.Groups.{Answers}
use Rattle.group_defs.specs.declared.def.GroupDef.{GroupDef}
use Rattle.group_defs.specs.declared.fault.GroupFault.{GroupFault}
use Rattle.group_defs.proofs.Stating.{same_defined}
use Rattle.group_defs.proofs.reading.read_groups.Goals as goal

pub returns-clause-exact : goal.returns-clause-exact
returns-clause-exact c =
    subst (λ (told : Result (List GroupDef) GroupFault). Answers (λ defs. defs.items) c.read_in_place.result told) (same_defined c.args.texts.now) c.read_in_place.ensures.exact
