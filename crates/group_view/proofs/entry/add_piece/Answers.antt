use Rattle.std.proofs.Common.{ap}
use Rattle.group_view.specs.declared.entry.Entry.TheVariants.{Shown}
use Rattle.group_view.proofs.Entering.{inserted_as}
use Rattle.group_view.proofs.entry.add_piece.Goals as goal

pub returns : goal.returns
returns c =
    inserted_as c.args.entries.now.entries c.insert.new.self.entries c.in_ok-path.path _ _ _ c.in_ok-insert.ensures.entries c.in_ok-path.ensures
    (ap Shown c.in_ok-source.ensures)
