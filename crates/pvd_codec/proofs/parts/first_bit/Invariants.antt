use Rattle.std.proofs.Common.{◌≡◌, ◌*◌, ◌-◌, length}
use Rattle.pva_wire.specs.Bits.{byte_bit}
use Rattle.pvd_codec.specs.Reading.{first_marked}
use Rattle.pvd_codec.proofs.parts.first_bit.Given as goal

abbrev pub invariant-bits : goal.invariant-bits
invariant-bits l = first_marked (byte_bit l.order l.body) l.bit (8 * length l.body - l.bit) ≡ first_marked (byte_bit l.order l.body) l.start (8 * length l.body - l.start)

abbrev pub decreases-bits : goal.decreases-bits
decreases-bits l = 8 * length l.body - l.bit
