use Rattle.std.proofs.Common.{drop}
use Rattle.pvd_codec.specs.Written.{CanSingle, CanEach}
use Rattle.pvd_codec.proofs.lists_writing.read_all.Given as goal

abbrev pub invariant-loop-number : goal.invariant-loop-number
invariant-loop-number g l = CanEach (λ x. CanSingle (g.T.Signed.single x)) (drop l.number-index l.numbers) → CanEach (λ x. CanSingle (g.T.Signed.single x)) l.numbers
