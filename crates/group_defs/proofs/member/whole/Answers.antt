use Rattle.std.proofs.Common.{◌∙◌}
use Rattle.group_defs.proofs.Numbers.{whole_is}
use Rattle.group_defs.proofs.member.whole.Goals as goal

pub returns : goal.returns
returns c = c.ok.ensures.value ∙ whole_is c.args.text.now c.parse.result c.parse.ensures.value.0
