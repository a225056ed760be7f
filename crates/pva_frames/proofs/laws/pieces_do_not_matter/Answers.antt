use Rattle.pva_frames.proofs.Cuts.{any_pieces}
use Rattle.pva_frames.proofs.laws.pieces_do_not_matter.Goals as goal

pub returns : goal.returns
returns c = any_pieces
