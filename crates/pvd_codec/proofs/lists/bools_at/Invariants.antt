use Rattle.std.proofs.Common.{◌≡◌, ◌-◌}
use Rattle.pvd_codec.specs.Reading.{items_at, bool_at}
use Rattle.pvd_codec.proofs.Loop.{with_front}
use Rattle.pvd_codec.proofs.lists.bools_at.Given as goal

abbrev pub invariant-loop : goal.invariant-loop
invariant-loop l = with_front l.items.items (items_at bool_at (l.count - l.counter) l.rest) ≡ items_at bool_at l.count l.bytes
