use Rattle.std.proofs.Common.{◌≡◌, ◌+◌, ℕ, length, take, refl, sym, ap, ◌∙◌, arith}
use Rattle.std.proofs.lemmas.List.{length-take-le}
use Rattle.pva_frames.specs.declared.header.Header.{Header}
use Rattle.pva_frames.specs.Messages.{refusal}
use Rattle.pva_frames.specs.Reader.{run_of, unfinished_of}
use Rattle.pva_frames.proofs.Heads.{magic-refused, still-short, header-refused, Filled}
use Rattle.pva_frames.proofs.reader.Reader.take_header.Goals as goal

pub returns-then-head-clause-ok : goal.returns-then-head-clause-ok
returns-then-head-clause-ok c =
    let self = c.args.self.now in
    let x = take c.min-count.result c.args.bytes.now in
    let size : length x ≡ c.min-count.result = length-take-le c.min-count.result c.args.bytes.now (omega (arith, c.min-count.ensures)) in
    let filled : Filled self.mark x c.fill-head.result (self.mark.filled + length x) = record {
      size = c.fill-head.ensures.size;
      bytes = c.fill-head.ensures.front;
      total = refl;
      some = omega (arith, size, c.min-count.ensures, c.requires.some, c.requires.filled);
      fits = omega (arith, size, c.min-count.ensures, c.requires.filled);
    } in
    magic-refused c.args.ready.now.items self.mark self.payload.items x c.fill-head.result (self.mark.filled + length x) (unfinished_of self.mark self.payload.items) self.sound c.requires.filled filled c.if-head.true

pub returns-then-start-count-lt-SIZE-clause-ok : goal.returns-then-start-count-lt-SIZE-clause-ok
returns-then-start-count-lt-SIZE-clause-ok c =
    let self = c.args.self.now in
    let x = take c.min-count.result c.args.bytes.now in
    let size : length x ≡ c.min-count.result = length-take-le c.min-count.result c.args.bytes.now (omega (arith, c.min-count.ensures)) in
    let filled : Filled self.mark x c.fill-head.result (self.mark.filled + c.min-count.result) = record {
      size = c.fill-head.ensures.size;
      bytes = ap (λ (n : ℕ). take (self.mark.filled + n) c.fill-head.result) (sym size) ∙ c.fill-head.ensures.front;
      total = ap (λ (n : ℕ). self.mark.filled + n) (sym size);
      some = omega (arith, size, c.min-count.ensures, c.requires.some, c.requires.filled);
      fits = omega (arith, size, c.min-count.ensures, c.requires.filled);
    } in
    (still-short c.args.ready.now.items self.mark self.payload.items x c.fill-head.result (self.mark.filled + c.min-count.result) self.sound c.requires.filled filled c.if-head.false c.if-start-count-lt-SIZE.true).takes

pub returns-in-Some-clause-ok : goal.returns-in-Some-clause-ok
returns-in-Some-clause-ok c =
    let self = c.args.self.now in
    let x = take c.min-count.result c.args.bytes.now in
    let size : length x ≡ c.min-count.result = length-take-le c.min-count.result c.args.bytes.now (omega (arith, c.min-count.ensures)) in
    let filled : Filled self.mark x c.fill-head.result (self.mark.filled + length x) = record {
      size = c.fill-head.ensures.size;
      bytes = c.fill-head.ensures.front;
      total = refl;
      some = omega (arith, size, c.min-count.ensures, c.requires.some, c.requires.filled);
      fits = omega (arith, size, c.min-count.ensures, c.requires.filled);
    } in
    let is = sym (c.refuse.ensures self.payload.items self.sound.run ∙ ap (λ (h : Header). refusal (run_of self.mark.run self.payload.items) h self.mark.place) c.header_in-header.ensures) ∙ c.in-Some.is in
    header-refused c.args.ready.now.items self.mark self.payload.items x c.fill-head.result (self.mark.filled + length x) (unfinished_of self.mark self.payload.items) c.in-Some.fault self.sound c.requires.filled filled (omega (arith, size, c.if-start-count-lt-SIZE.false)) c.if-head.false is
