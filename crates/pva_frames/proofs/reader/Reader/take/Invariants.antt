use Rattle.std.proofs.Common.{◌≤◌, ◌-◌, None, take, length}
use Rattle.pva_frames.specs.Reader.{unfinished_of, Takes, Grows}
use Rattle.pva_frames.proofs.reader.Reader.take.Given as goal

-- so many bytes were taken, and what was there before can be had again
abbrev pub invariant-loop-at : goal.invariant-loop-at
invariant-loop-at l = record {
  within : l.at ≤ length l.piece;
  takes : Takes l.fn.ready.items (unfinished_of l.fn.self.mark l.fn.self.payload.items) (take l.at l.piece) l.ready.items None (unfinished_of l.self.mark l.self.payload.items);
  grows : Grows l.fn.ready.items l.fn.self.payload.items l.ready.items l.self.payload.items;
}

abbrev pub decreases-loop-at : goal.decreases-loop-at
decreases-loop-at l = length l.piece - l.at
