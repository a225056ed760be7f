use Rattle.std.proofs.Common.{◌≡◌, ◌+◌, ◌*◌, length, take, drop, true}
use Rattle.std.specs.FinSet as set
use Rattle.pvd_type.specs.Numbers.{numbered_fields, IsMeasured}
use Rattle.pvd_type.specs.Sets.{IsFirstFrom}
use Rattle.pvd_value.specs.Data.{Row}
use Rattle.pvd_value.specs.Fits.{row_fits}
use Rattle.pvd_value.specs.Merge.{merged_row}
use Rattle.pvd_value.specs.View.{row_view}
use Rattle.pvd_value.proofs.Rows.{joined}
use Rattle.group_view.specs.Seen.{branch_seen, slots_seen}
use Rattle.group_view.specs.Types.{slot_fields}
use Rattle.group_view.proofs.Walks.{size_of, sizes_of}
use Rattle.group_view.specs.Views.{slots_shown, IsRowKept, AreReadyUnder}
use Rattle.group_view.proofs.parts.+parts.Given as goal

abbrev pub decreases-write_slot : goal.decreases-write_slot
decreases-write_slot l = 4 * size_of (branch_seen l.branch.now) + 2

abbrev pub decreases-write_marked : goal.decreases-write_marked
decreases-write_marked l = 4 * size_of (branch_seen l.branch.now) + 1

abbrev pub decreases-write_level : goal.decreases-write_level
decreases-write_level l = 4 * sizes_of (slots_seen l.slots.now) + 1

abbrev pub decreases-write_slots : goal.decreases-write_slots
decreases-write_slots l = 4 * sizes_of (slots_seen l.slots.now)

abbrev pub invariant-write_slots-loop-i : goal.invariant-write_slots-loop-i
invariant-write_slots-loop-i l =
    let all = slots_seen l.slots in
    let rest = slots_seen (drop l.i l.slots) in
    let done = row_view (take l.i l.values.items) in
    let left = row_view (drop l.i l.values.items) in
    record {
      same : joined done (merged_row (set.contains l.mask) l.next (slot_fields rest) left (slots_shown l.states rest))
          ≡ merged_row (set.contains l.mask) l.number (slot_fields all) (row_view l.initial.values.items) (slots_shown l.states all);
      kept : (r : Row) → IsRowKept l.mask l.next (slot_fields rest) left r → IsRowKept l.mask l.number (slot_fields all) (row_view l.initial.values.items) (joined done r);
      fits : (r : Row) → row_fits 16 r (slot_fields rest) ≡ true → row_fits 16 (joined done r) (slot_fields all) ≡ true;
      left_fits : row_fits 16 left (slot_fields rest) ≡ true;
      total : l.next + length (numbered_fields (slot_fields rest)) ≡ l.number + length (numbered_fields (slot_fields all));
      measured : IsMeasured l.sizes (numbered_fields (slot_fields rest));
      ready : AreReadyUnder l.mask l.states l.next rest;
      first : IsFirstFrom l.mask l.next l.first;
      size : length l.values.items ≡ length l.slots;
    }
