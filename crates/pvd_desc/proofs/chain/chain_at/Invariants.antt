use Rattle.std.proofs.Common.{◌≡◌, length}
use Rattle.pvd_desc.specs.Reading.{chain_at}
use Rattle.pvd_desc.proofs.Chains.{after}
use Rattle.pvd_desc.proofs.chain.chain_at.Given as goal

abbrev pub invariant-loop-after : goal.invariant-loop-after
invariant-loop-after l = after l.ids.items (chain_at l.order l.rest) ≡ chain_at l.order l.bytes

abbrev pub decreases-loop-after : goal.decreases-loop-after
decreases-loop-after l = length l.rest
