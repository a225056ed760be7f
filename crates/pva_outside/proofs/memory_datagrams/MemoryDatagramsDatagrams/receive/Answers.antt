use Rattle.std.proofs.Common.{refl, sym, ◌∙◌}
use Rattle.pva_outside.proofs.Coming.{flat}
use Rattle.pva_outside.proofs.memory_datagrams.MemoryDatagramsDatagrams.receive.Goals as goal

pub returns-clause-meets : goal.returns-clause-meets
returns-clause-meets c =
    let one = flat c.pop_front.result c.in-Some.datagram (sym c.flatten.ensures ∙ c.in-Some.is) in (
      c.in-Some.datagram,
      rw one at c.pop_front.ensures.items,
      rw c.len-count.ensures (record {
        all = c.put-got.ensures.count;
        bytes = c.put-got.ensures.front ∙ c.put-got.ensures.bytes;
        from_is = refl;
      }),
    )
