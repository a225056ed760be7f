use Rattle.std.proofs.Common.{◌≡◌, ◌∙◌, ◌/◌, ap, rules, arith, length, ◌<◌}
use Rattle.smallvec.proofs.SmallVecLemmas.{items-with_items}
use Rattle.pvd_type.specs.Sets.{held}
use Rattle.pvd_type.proofs.Sets.{one_set}
use Rattle.pvd_type.proofs.set.BitSet.insert.Goals as goal

pub returns-clause-ok : goal.returns-clause-ok
returns-clause-ok c =
    let old = c.self.inside.words.items in
    let new = c.widen.new.words.items in
    let within : c.args.bit / 64 < length new = omega (arith, c.in_ok-widen.ensures.enough) in
    let mine : c.deref_mut.result.now ≡ new = search rules in
    let is = one_set old new c.args.bit c.in_ok-widen.ensures.same within in
    ap held (items-with_items c.widen.new.words c.add_bits.new.words (search rules)) ∙ rw (c.add_bits.ensures, mine, ← c.self.view_is) is
