use Rattle.std.proofs.Common.{◌≡◌, ◌∙◌, ◌/◌, ap, rules, arith, length, ◌<◌}
use Rattle.std.specs.FinSet as set
use Rattle.smallvec.proofs.SmallVecLemmas.{items-with_items}
use Rattle.pvd_type.specs.Sets.{held}
use Rattle.pvd_type.proofs.Sets.{byte_set}
use Rattle.pvd_type.proofs.set.BitSet.insert_byte.Goals as goal

pub returns-clause-ok : goal.returns-clause-ok
returns-clause-ok c = λ q.
    let old = c.self.inside.words.items in
    let new = c.widen.new.words.items in
    let within : c.args.place / 8 < length new = omega (arith, c.in_ok-widen.ensures.enough) in
    let mine : c.deref_mut.result.now ≡ new = search rules in
    let small : c.args.byte < 256 = search rules in
    let is = byte_set old new c.args.place c.args.byte c.in_ok-widen.ensures.same within small q in
    ap (λ ws. set.contains (held ws) q) (items-with_items c.widen.new.words c.add_bits.new.words (search rules)) ∙ rw (c.add_bits.ensures, mine, ← c.self.view_is) is
