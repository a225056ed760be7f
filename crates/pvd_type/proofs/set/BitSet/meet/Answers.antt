use Rattle.std.proofs.Common.{◌≡◌, ◌∙◌, ap, rules}
use Rattle.std.specs.FinSet as set
use Rattle.smallvec.proofs.SmallVecLemmas.{items-with_items}
use Rattle.pvd_type.specs.Sets.{held}
use Rattle.pvd_type.proofs.Sets.{met}
use Rattle.pvd_type.proofs.set.BitSet.meet.Goals as goal

pub returns : goal.returns
returns c =
    let mine : c.deref_mut.result.now ≡ c.self.inside.words.items = search rules in
    let theirs : c.deref.result.now ≡ c.other.inside.words.items = search rules in
    let is = met c.deref_mut.result.now c.deref.result.now c.keep.new.words c.keep.ensures.bits ∙ (λ i. set.intersection (held (mine i)) (held (theirs i))) in
    rw (← c.self.view_is, ← c.other.view_is) (ap held (items-with_items c.self.inside.words c.keep.new.words (search rules)) ∙ is)
