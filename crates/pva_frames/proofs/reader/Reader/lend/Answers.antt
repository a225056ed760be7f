use Rattle.std.proofs.Common.{rules, ◌≡◌, None, length, ap, ◌∙◌, arith}
use Rattle.pva_frames.specs.Reader.{run_size}
use Rattle.pva_frames.proofs.Lending.{lent}
use Rattle.pva_frames.proofs.reader.Reader.lend.Goals as goal

pub returns-clause-lent : goal.returns-clause-lent
returns-clause-lent c =
    let self = c.args.self.now in
    let head = c.in_ok-header.header in
    let none : self.mark.run ≡ None = search rules in
    let empty : length self.payload.items ≡ 0 = self.sound.header (omega (arith, c.if-self-ne0.false)) ∙ ap run_size none in
    lent self.mark c.at-self.result self.payload.items c.args.piece.now head _ c.if-self-ne0.false none empty c.in_ok-header.ensures (search rules) c.if-piece-size.false c.at-self.ensures.place c.at-self.ensures.filled c.at-self.ensures.run (search rules)
