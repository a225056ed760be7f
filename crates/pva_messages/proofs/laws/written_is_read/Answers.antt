use Rattle.pva_messages.proofs.ReadBack.{request_back}
use Rattle.pva_messages.proofs.PartBack.{part_back}
use Rattle.pva_messages.proofs.RepliesBack.{reply_back}
use Rattle.pva_messages.proofs.laws.written_is_read.Goals as goal

pub returns-clause-to_server : goal.returns-clause-to_server
returns-clause-to_server c = request_back

pub returns-clause-part : goal.returns-clause-part
returns-clause-part c = part_back

pub returns-clause-to_client : goal.returns-clause-to_client
returns-clause-to_client c = reply_back
