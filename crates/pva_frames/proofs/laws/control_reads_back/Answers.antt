use Rattle.pva_frames.proofs.ReadBack.{control_reads_back}
use Rattle.pva_frames.proofs.laws.control_reads_back.Goals as goal

pub returns : goal.returns
returns c = control_reads_back
