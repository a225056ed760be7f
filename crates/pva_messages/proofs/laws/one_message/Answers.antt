use Rattle.pva_messages.proofs.Messages.{one_request, one_reply}
use Rattle.pva_messages.proofs.laws.one_message.Goals as goal

pub returns-clause-to_server : goal.returns-clause-to_server
returns-clause-to_server c = one_request

pub returns-clause-to_client : goal.returns-clause-to_client
returns-clause-to_client c = one_reply
