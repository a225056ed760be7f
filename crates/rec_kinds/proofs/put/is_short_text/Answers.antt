use Rattle.std.proofs.Common.{refl}
use Rattle.rec_kinds.proofs.put.is_short_text.Goals as goal

pub returns : goal.returns
returns c = refl
