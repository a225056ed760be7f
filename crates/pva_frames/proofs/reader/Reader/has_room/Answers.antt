use Rattle.std.proofs.Common.{◌≡◌, ◌+◌, ◌-◌, length, arith, rules}
use Rattle.std.proofs.lemmas.Grind.{common_steps}
use Rattle.pva_frames.specs.Reader.{run_size, unfinished_of}
use Rattle.pva_frames.proofs.Marks.{held-size}
use Rattle.pva_frames.proofs.reader.Reader.has_room.Goals as goal

pub returns-in-None : goal.returns-in-None
returns-in-None c =
    let self = c.args.self.now in
    let held : length (unfinished_of self.mark self.payload.items).held ≡ self.mark.filled + (length self.payload.items - run_size self.mark.run) = held-size self.mark self.payload.items (omega (arith, self.sound.filled, self.sound.head)) in
    (λ t. search (rules, t), λ h. absurd (c.in-None.ensures (omega (arith, held, h, c.len.ensures, c.run_size.ensures))))

pub returns-in-Some : goal.returns-in-Some
returns-in-Some c =
    let self = c.args.self.now in
    let held : length (unfinished_of self.mark self.payload.items).held ≡ self.mark.filled + (length self.payload.items - run_size self.mark.run) = held-size self.mark self.payload.items (omega (arith, self.sound.filled, self.sound.head)) in
    grind (arith, common_steps, held)
