use Rattle.std.proofs.Common.{◌∙◌, ap, sym, eqb, ◌%◌}
use Rattle.std.proofs.lemmas.Nat.Bits.{shr_and_one}
use Rattle.pvd_type.proofs.Sets.{in_held}
use Rattle.pvd_type.proofs.set.BitSet.contains.Goals as goal

pub returns : goal.returns
returns c =
    ap (λ n. eqb n 1) (shr_and_one c.word_at.result (c.args.bit % 64)) ∙ rw (c.word_at.ensures, ← c.self.view_is) (sym (in_held c.self.inside.words.items c.args.bit))
