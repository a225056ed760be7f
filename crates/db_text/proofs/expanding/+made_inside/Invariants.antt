use Rattle.std.proofs.Common.{◌-◌, ◌<◌, ◌^◌, length, vec_len}
use Rattle.db_text.specs.Macros.{before, made_inside}
use Rattle.db_text.proofs.Making.{Goes}
use Rattle.db_text.proofs.expanding.+made_inside.Given as goal

abbrev pub decreases-made_inside : goal.decreases-made_inside
decreases-made_inside l = l.room

abbrev pub invariant-loop-byte : goal.invariant-loop-byte
invariant-loop-byte l = record {
  same : Goes l.macros (l.room - 1) l.out.items l.rest (before l.fn.out.items (made_inside l.macros l.room l.text));
  small : vec_len l.out < 2 ^ 32;
}

abbrev pub decreases-loop-byte : goal.decreases-loop-byte
decreases-loop-byte l = length l.rest
