use Rattle.std.proofs.Common.{◌≡◌, ◌++◌, ◌≤◌, ◌-◌, length, drop}
use Rattle.pva_frames.specs.Spelling.{later_segments, Keeps}
use Rattle.pva_frames.proofs.writing.write_later.Given as goal

-- what is still to be written makes the whole
abbrev pub invariant-loop-at : goal.invariant-loop-at
invariant-loop-at l = record {
  within : l.at ≤ length l.payload;
  all : l.out.items ++ later_segments l.sender.order l.sender.server l.sender.command l.segment (drop l.at l.payload) ≡ l.fn.out.items ++ later_segments l.sender.order l.sender.server l.sender.command l.segment l.payload;
  keeps : Keeps l.fn.out.items l.out.items;
}

abbrev pub decreases-loop-at : goal.decreases-loop-at
decreases-loop-at l = length l.payload - l.at
