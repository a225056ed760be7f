-- What is known of the link in memory that is always ready.
use Rattle.std.specs.Prelude.{ℕ, List, [], Some, true, drop}
use Rattle.pva_outside.specs.Wire.{Wire}
use Rattle.pva_outside.specs.declared.plain.PlainLink.{PlainLink}

abbrev pub plain_wire : PlainLink → Wire
plain_wire l = record { left = Some (drop l.at l.input.items); written = Some l.written.items; faults = 0; idles = 0; ends = l.ends; steady = true }

-- with this input, nothing written, and counts of 0
abbrev pub plain_start : List ℕ → Wire
plain_start input = record { left = Some input; written = Some []; faults = 0; idles = 0; ends = 0; steady = true }

-- the bytes that are left
abbrev pub plain_left : PlainLink → List ℕ
plain_left l = drop l.at l.input.items
