use Rattle.std.proofs.Common.{◌≡◌, ◌+◌, length, drop, refl, ◌∙◌, arith, length-take, length-append}
use Rattle.std.specs.List.{slice_range}
use Rattle.pva_outside.proofs.Front.{read_front}
use Rattle.pva_outside.proofs.memory.MemoryLink.give.Goals as goal

pub returns-clause-step : goal.returns-clause-step
returns-clause-step c =
    let s = c.args.self.now in
    let n = c.min-n.result in
    let front = c.copy_from_slice.new.self in
    let is : front ≡ slice_range s.input.items s.at (s.at + n) = rw c.deref.ensures.value at c.copy_from_slice.ensures.after in
    let long : length front ≡ n = c.copy_from_slice.ensures.len ∙ simp length-take (omega arith) in record {
      some = omega arith;
      fits = omega (arith, length-append front (drop n c.args.buffer.now));
      taken = read_front s.input.items front (drop n c.args.buffer.now) s.at n is long;
      written = refl;
      counts = record { faults = refl; idles = refl; ends = refl };
    }
