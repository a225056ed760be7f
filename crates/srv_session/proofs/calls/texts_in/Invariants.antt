use Rattle.std.proofs.Common.{◌≡◌, map, take}
use Rattle.srv_session.proofs.calls.texts_in.Given as goal

abbrev pub invariant-loop-row : goal.invariant-loop-row
invariant-loop-row l = l.texts.items ≡ map (λ r. r.text) (take l.row-index l.rows)
