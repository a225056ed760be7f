use Rattle.std.proofs.Common.{ℕ, ◌<◌, List, length, refl, sym, ap, subst, arith}
use Rattle.pva_outside.specs.Wire.{Taken}
use Rattle.cli_futures.proofs.link_calls.write_some.Goals as goal

pub write-requires : goal.write-requires
write-requires g c = subst (λ (z : List ℕ). 0 < length z) (sym c.output.ensures) c.requires

pub took-requires : goal.took-requires
took-requires g c = omega (arith, c.in-Took.ensures.step.fits, ap length c.output.ensures)

pub returns-in-Took : goal.returns-in-Took
returns-in-Took g c = record {
  count = c.in-Took.count;
  taken = subst (λ (z : List ℕ). Taken (g.L.Link.wire c.args.link.now) (g.L.Link.wire c.write.new.self) c.in-Took.count z) c.output.ensures c.in-Took.ensures.step;
  keeps = λ ask read written told h. c.took.ensures ask read written told h;
}

pub returns-in-Idle : goal.returns-in-Idle
returns-in-Idle g c = record { idled = c.in-Idle.ensures.step; view = refl }

pub returns-in-Failed : goal.returns-in-Failed
returns-in-Failed g c = c.in-Failed.ensures.step

pub returns-in-NoMemory : goal.returns-in-NoMemory
returns-in-NoMemory g c = c.in-NoMemory.ensures.step
