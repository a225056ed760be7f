use Rattle.std.proofs.Common.{◌≡◌, ◌++◌, drop}
use Rattle.std.specs.List.{flat_map}
use Rattle.pvd_codec.specs.Written.{Begins, CanEach}
use Rattle.pva_wire.specs.Spelling.{IsText, canonical_text}
use Rattle.pva_messages.proofs.writing.put_each_text.Given as goal

abbrev pub invariant-loop-text : goal.invariant-loop-text
invariant-loop-text l = record {
  written : l.out.items ++ flat_map (canonical_text l.order) (drop l.text-index l.texts) ≡ l.fn.out.items ++ flat_map (canonical_text l.order) l.texts;
  can : CanEach IsText (drop l.text-index l.texts) → CanEach IsText l.texts;
  begins : Begins l.fn.out.items l.out.items;
}
