use Rattle.std.specs.Prelude.{◌≡◌}
use Rattle.std.proofs.Common.{arith}
use Rattle.std.specs.List.{insert}
use Rattle.std.specs.Ordering.{is_lt}
use Rattle.std.proofs.lemmas.List.Sums.{prefix_len-le-length}
use Rattle.chan_table.proofs.Places.{sorted-inserted, find-inserted}
use Rattle.chan_table.proofs.index.Index.insert.Goals as goal

pub insert-requires : goal.insert-requires
insert-requires g c = omega (arith, c.args.self.now.entries.ok, prefix_len-le-length (λ e. is_lt (g.K.Ord.cmp e.0 c.args.key)) c.args.self.now.entries.items)

pub invariant_of-self : goal.invariant_of-self
invariant_of-self g c =
    let items : c.insert.new.self.items ≡ insert c.args.self.now.entries.items c.place_of-place.result (c.args.key, c.args.value) = grind arith in
    record { sorted = sorted-inserted g.met.K.Ord.total c.args.key c.args.value c.place_of-place.result _ _ c.args.self.now.sorted c.requires.absent c.place_of-place.ensures items }

pub returns-clause-finds : goal.returns-clause-finds
returns-clause-finds g c =
    find-inserted g.met.K.Ord.total c.args.key c.args.value c.place_of-place.result _ _ c.requires.absent c.place_of-place.ensures c.in-Ok.ensures.items
