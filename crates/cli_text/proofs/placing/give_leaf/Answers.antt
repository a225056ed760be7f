use Rattle.std.proofs.Common.{refl}
use Rattle.pvd_value.specs.View.{view}
use Rattle.cli_text.specs.Put.{give}
use Rattle.cli_text.proofs.PutShapes.{ungiven}
use Rattle.cli_text.proofs.placing.give_leaf.Goals as goal

pub returns-in_default : goal.returns-in_default
returns-in_default c =
    ungiven (give c.args.word.way c.args.word.choices.now c.args.word.first c.args.word.text.now) (view c.args.leaf.now) refl refl c.args.shape.now
    c.in_default.not-Plain c.in_default.not-BoundText c.in_default.not-List
