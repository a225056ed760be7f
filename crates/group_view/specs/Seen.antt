-- The vectors and maps that stand for the structure of a group.
use Rattle.std.specs.Prelude.{ℕ, List, [], ◌∷◌, map}
use Rattle.std.specs.Borrow.{Bor}
use Rattle.std.specs.Arc.{arc_value}
use Rattle.std.specs.declared.sync.Arc.{Arc}
use Rattle.std.specs.declared.vec.Vec.{Vec}
use Rattle.rec_kinds.specs.Configs.{Config}
use Rattle.group_view.specs.Slots.{Path, Slot, shows, level, Slots, no_slots, slot}
use Rattle.group_view.specs.declared.entry.Entry.{Entry}
use Rattle.group_view.specs.declared.slots.Branch.{Branch, fold-Branch}
use Rattle.group_view.specs.declared.slots.Named.{Named, fold-Named}
use Rattle.group_view.specs.declared.slots.Branch.TheOpen.{Branch-F, Named-F}

abbrev pub configs_seen : {Y : Type 0} → List (Arc Config Y) → List Config
configs_seen cs = map arc_value cs

abbrev pub path_seen : {Y : Type 0} → Vec (Bor (List ℕ)) Y → Path
path_seen path = map (λ part. part.now) path.items

abbrev pub entries_seen : {Y : Type 0} → List (Vec (Bor (List ℕ)) Y × Entry) → List (Path × Entry)
entries_seen es = map (λ e. (path_seen e.0, e.1)) es

-- slots as they stand in a vector
abbrev pub slots_in : List (List ℕ × Slot) → Slots
slots_in [] = no_slots
slots_in (m ∷ ms) = slot m.0 m.1 (slots_in ms)

abbrev pub branch_step : Branch-F Slot (List ℕ × Slot) → Slot
branch_step (Branch-F.Shows s) = shows s
branch_step (Branch-F.Level id named) = level id (slots_in named.items)

abbrev pub named_step : Named-F Slot (List ℕ × Slot) → List ℕ × Slot
named_step m = (m.name, m.branch)

abbrev pub branch_seen : Branch → Slot
branch_seen = fold-Branch Slot (List ℕ × Slot) branch_step named_step

abbrev pub named_seen : Named → List ℕ × Slot
named_seen = fold-Named Slot (List ℕ × Slot) branch_step named_step

abbrev pub slots_seen : List Named → Slots
slots_seen ms = slots_in (map named_seen ms)
