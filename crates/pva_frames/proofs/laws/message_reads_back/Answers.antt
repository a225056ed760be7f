use Rattle.pva_frames.proofs.ReadBack.{message_reads_back}
use Rattle.pva_frames.proofs.laws.message_reads_back.Goals as goal

pub returns : goal.returns
returns c = message_reads_back
