use Rattle.pvd_type.proofs.Sets.{byte_of_words}
use Rattle.pvd_type.proofs.set.BitSet.byte.Goals as goal

pub returns : goal.returns
returns c = λ k h. rw (c.word_at.ensures, ← c.self.view_is) (byte_of_words c.self.inside.words.items c.args.place k h)
