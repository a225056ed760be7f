-- What is known of the link in memory that follows a script.
use Rattle.std.specs.Prelude.{ℕ, ◌-◌, ◌^◌, List, [], ◌∷◌, Some, false, drop}
use Rattle.pva_outside.specs.Wire.{Wire}
use Rattle.pva_outside.specs.declared.memory.MemoryLink.{MemoryLink}
use Rattle.pva_outside.specs.declared.memory.Turn.{Turn}
use Rattle.pva_outside.specs.declared.memory.Turn.TheVariants.{Give}

abbrev pub memory_wire : MemoryLink → Wire
memory_wire l = record { left = Some (drop l.at l.input.items); written = Some l.written.items; faults = l.faults; idles = l.idles; ends = l.ends; steady = false }

-- with this input, nothing written, and counts of 0
abbrev pub memory_start : List ℕ → Wire
memory_start input = record { left = Some input; written = Some []; faults = 0; idles = 0; ends = 0; steady = false }

-- the bytes that are left
abbrev pub memory_left : MemoryLink → List ℕ
memory_left l = drop l.at l.input.items

-- the turns of the script that are left
abbrev pub turns_left : MemoryLink → List Turn
turns_left l = drop l.next l.script.items

-- The turn that the next call meets. After the script it moves all that it can.
abbrev pub first_turn : List Turn → Turn
first_turn [] = Give (2 ^ 64 - 1)
first_turn (turn ∷ _) = turn
