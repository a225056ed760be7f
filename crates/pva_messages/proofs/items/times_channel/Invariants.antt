use Rattle.std.proofs.Common.{◌≡◌, ◌-◌}
use Rattle.pvd_codec.specs.Reading.{items_at}
use Rattle.pvd_codec.proofs.Loop.{with_front}
use Rattle.pva_messages.specs.Reading.{channel_at}
use Rattle.pva_messages.proofs.items.times_channel.Given as goal

abbrev pub invariant-loop : goal.invariant-loop
invariant-loop l = with_front l.channels.items (items_at (channel_at l.order) (l.count - l.counter) l.rest) ≡ items_at (channel_at l.order) l.count l.bytes
