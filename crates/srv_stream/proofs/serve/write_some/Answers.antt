use Rattle.std.proofs.Common.{ℕ, ◌<◌, List, length, inl, inr, refl, sym, subst}
use Rattle.pva_outside.specs.Wire.{Taken}
use Rattle.srv_stream.proofs.serve.write_some.Goals as goal

pub write-requires : goal.write-requires
write-requires g c = subst (λ (z : List ℕ). 0 < length z) (sym c.output.ensures) c.requires

pub returns-in-Took : goal.returns-in-Took
returns-in-Took g c = inl (record {
  count = c.in-Took.count;
  taken = subst (λ (z : List ℕ). Taken (g.L.Link.wire c.args.link.now) (g.L.Link.wire c.write.new.self) c.in-Took.count z) c.output.ensures c.in-Took.ensures.step;
  view = c.took.ensures;
})

pub returns-in-Idle : goal.returns-in-Idle
returns-in-Idle g c = inr (record { idled = c.in-Idle.ensures.step; view = refl })

pub returns-in-Failed : goal.returns-in-Failed
returns-in-Failed g c = record { failed = c.in-Failed.ensures.step; view = refl }

pub returns-in-NoMemory : goal.returns-in-NoMemory
returns-in-NoMemory g c = record { unchanged = c.in-NoMemory.ensures.step; view = refl }
