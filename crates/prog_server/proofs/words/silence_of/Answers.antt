use Rattle.std.proofs.Common.{map}
use Rattle.prog_server.specs.Words.{asked_of}
use Rattle.prog_server.proofs.Rows.{silence_asked}
use Rattle.prog_server.proofs.words.silence_of.Goals as goal

pub returns-in-Ok : goal.returns-in-Ok
returns-in-Ok c = silence_asked (map (λ s. s.now) c.args.words.now) (asked_of c.in-Ok.asked) c.in-Ok.ensures
