use Rattle.prog_server.proofs.Rows.{one_asked}
use Rattle.prog_server.proofs.words.words_ask_for_one_thing.Goals as goal

pub returns : goal.returns
returns c = one_asked
