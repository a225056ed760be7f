use Rattle.std.proofs.Common.{◌≡◌, ◌++◌, drop}
use Rattle.group_defs.specs.BareKeys.{text_from, with_quoted_keys}
use Rattle.group_defs.proofs.bare_keys.quoted_bytes.Given as goal

abbrev pub invariant-loop-index : goal.invariant-loop-index
invariant-loop-index l = l.text.items ++ text_from l.within (drop l.index l.bytes) ≡ with_quoted_keys l.bytes
