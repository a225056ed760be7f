use Rattle.std.proofs.Common.{◌≡◌, ◌-◌, ◌*◌, ◌≤◌, length}
use Rattle.pva_wire.specs.declared.order.Order.TheVariants.{Big}
use Rattle.pvd_codec.specs.Reading.{items_at, valued}
use Rattle.pvd_codec.proofs.Loop.{with_front}
use Rattle.pvd_codec.proofs.list_numbers.turned_at.Given as goal

abbrev pub invariant-loop-items : goal.invariant-loop-items
invariant-loop-items g l = record {
  read : with_front l.items.items (items_at (valued g.T.FromBytes.meaning Big g.T.FromBytes.size) (l.count - length l.items.items) l.rest) ≡ items_at (valued g.T.FromBytes.meaning Big g.T.FromBytes.size) l.count l.bytes;
  enough : (l.count - length l.items.items) * g.T.FromBytes.size ≤ length l.rest;
}

abbrev pub decreases-loop-items : goal.decreases-loop-items
decreases-loop-items g l = l.count - length l.items.items
