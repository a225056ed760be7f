use Rattle.std.proofs.Common.{sym}
use Rattle.pvd_type.proofs.Shapes.{unentered}
use Rattle.cli_text.proofs.words.is_leaf_shape.Goals as goal

pub returns-in_default : goal.returns-in_default
returns-in_default c = sym (unentered c.args.shape.now c.in_default.not-Struct)
