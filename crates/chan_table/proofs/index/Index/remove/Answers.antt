use Rattle.std.proofs.Common.{sym, arith}
use Rattle.chan_table.proofs.Places.{place-within, sorted-removed, find-removed, find-kept}
use Rattle.chan_table.proofs.index.Index.remove.Goals as goal

pub remove-requires : goal.remove-requires
remove-requires g c =
    omega (
      arith,
      c.args.self.now.entries.ok,
      place-within g.K.Ord.cmp g.met.K.Ord.total c.args.key c.in-Some.value c.place_of-place.result
          c.args.self.now.entries.items c.args.self.now.sorted c.place_of-place.ensures (sym c.in-Some.ensures),
    )

pub invariant_of-self : goal.invariant_of-self
invariant_of-self g c = record {
  sorted = sorted-removed g.met.K.Ord.total c.args.key c.in-Some.value c.place_of-place.result _ _
      c.args.self.now.sorted (sym c.in-Some.ensures) c.place_of-place.ensures c.remove.ensures.items;
}

pub returns-in-Some-clause-finds : goal.returns-in-Some-clause-finds
returns-in-Some-clause-finds g c =
    find-removed g.met.K.Ord.total c.args.key c.in-Some.value c.place_of-place.result _ _
    c.args.self.now.sorted (sym c.in-Some.ensures) c.place_of-place.ensures c.remove.ensures.items

pub returns-in-None-clause-finds : goal.returns-in-None-clause-finds
returns-in-None-clause-finds g c = find-kept g.met.K.Ord.total c.args.key _ (sym c.in-None.ensures)
