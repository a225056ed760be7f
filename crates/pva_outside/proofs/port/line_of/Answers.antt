use Rattle.pva_outside.proofs.Line.{line_front}
use Rattle.pva_outside.proofs.port.line_of.Goals as goal

pub returns-clause-line : goal.returns-clause-line
returns-clause-line c = line_front 128 c.copy_from_slice.new.self c.args.text.now c.copy_from_slice.ensures.after c.requires
