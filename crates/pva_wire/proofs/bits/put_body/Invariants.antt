use Rattle.std.proofs.Common.{◌≡◌, ◌++◌, map}
use Rattle.std.specs.List.{range_with_len}
use Rattle.pva_wire.specs.Bits.{place, byte_of}
use Rattle.pva_wire.proofs.bits.put_body.Given as goal

abbrev pub invariant-loop-j : goal.invariant-loop-j
invariant-loop-j l = l.out.items ≡ l.fn.out.items ++ map (λ j. byte_of l.bits (place l.order l.count j)) (range_with_len 0 l.j)
