use Rattle.cli_text.proofs.ReadBack.{read_back}
use Rattle.cli_text.proofs.law.printed_scalars_are_read_back.Goals as goal

pub returns : goal.returns
returns c = read_back
