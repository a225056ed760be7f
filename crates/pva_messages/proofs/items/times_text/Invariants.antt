use Rattle.std.proofs.Common.{◌≡◌, ◌-◌}
use Rattle.pva_wire.specs.Reading.{text_at}
use Rattle.pvd_codec.specs.Reading.{items_at, lifted}
use Rattle.pvd_codec.proofs.Loop.{with_front}
use Rattle.pva_messages.proofs.items.times_text.Given as goal

abbrev pub invariant-loop : goal.invariant-loop
invariant-loop l = with_front l.texts.items (items_at (λ b. lifted (text_at l.order b)) (l.count - l.counter) l.rest) ≡ items_at (λ b. lifted (text_at l.order b)) l.count l.bytes
