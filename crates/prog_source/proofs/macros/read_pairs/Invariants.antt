use Rattle.std.proofs.Common.{map}
use Rattle.prog_source.proofs.Pairs.{SoFar}
use Rattle.prog_source.proofs.macros.read_pairs.Given as goal

abbrev pub invariant-loop-piece : goal.invariant-loop-piece
invariant-loop-piece l = SoFar (map (λ t. t.now) l.texts) l.piece-index l.macros.items
