use Rattle.pva_frames.proofs.Cuts.{every_cut}
use Rattle.pva_frames.proofs.laws.every_byte_has_its_frame.Goals as goal

pub returns : goal.returns
returns c = every_cut
