use Rattle.std.proofs.Common.{ℕ, List, Bor, refl, sym}
use Rattle.pva_wire.specs.Reading.{number_at}
use Rattle.pva_messages.proofs.Calls.{no_id}
use Rattle.pva_messages.proofs.reading.id_at.Goals as goal

pub returns-in-Ok : goal.returns-in-Ok
returns-in-Ok c = rw c.in-Ok.ensures.value refl

pub returns-in-Err : goal.returns-in-Err
returns-in-Err c = sym (no_id (ℕ × Bor (List ℕ)) c.in-Err._stop (number_at c.args.order 4 c.args.bytes.now) c.in-Err.ensures.value c.in-Err.ensures.memory)
