use Rattle.std.proofs.Common.{◌≡◌, take, drop}
use Rattle.std.specs.VecDeque.{deque_len}
use Rattle.pva_frames.specs.Reader.{first_payload}
use Rattle.pva_frames.proofs.reader.undo.Given as goal

abbrev pub invariant-loop-ready : goal.invariant-loop-ready
invariant-loop-ready l = record {
  front : take l.count l.ready.items ≡ take l.count l.fn.ready.items;
  payload : first_payload (drop l.count l.ready.items) l.payload.items ≡ first_payload (drop l.count l.fn.ready.items) l.fn.payload.items;
}

abbrev pub decreases-loop-ready : goal.decreases-loop-ready
decreases-loop-ready l = deque_len l.ready
