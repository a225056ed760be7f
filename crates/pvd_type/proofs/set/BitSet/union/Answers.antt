use Rattle.std.proofs.Common.{◌≡◌, ◌∙◌, ap, rules}
use Rattle.std.specs.FinSet as set
use Rattle.smallvec.proofs.SmallVecLemmas.{items-with_items}
use Rattle.pvd_type.specs.Sets.{held}
use Rattle.pvd_type.proofs.Sets.{joined, held_alike}
use Rattle.pvd_type.proofs.set.BitSet.union.Goals as goal

pub returns-clause-ok : goal.returns-clause-ok
returns-clause-ok c =
    let old = c.self.inside.words.items in
    let mine : c.deref_mut.result.now ≡ c.widen.new.words.items = search rules in
    let theirs : c.deref.result.now ≡ c.other.inside.words.items = search rules in
    let is = joined c.deref_mut.result.now c.deref.result.now c.join.new.words c.join.ensures.bits ∙ (λ i. set.union (held (mine i)) (held (theirs i))) in
    let wide = held_alike c.widen.new.words.items old c.in_ok-widen.ensures.same in
    rw (← c.self.view_is, ← c.other.view_is) (ap held (items-with_items c.widen.new.words c.join.new.words (search rules)) ∙ is ∙ ap (λ s. set.union s (held c.other.inside.words.items)) wide)
