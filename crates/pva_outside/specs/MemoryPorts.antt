-- What is known of the maker of ports in memory.
use Rattle.std.specs.Prelude.{ℕ, List, [], Some, map}
use Rattle.std.specs.String.{string_bytes}
use Rattle.pva_outside.specs.Makers.{MakerView}
use Rattle.pva_outside.specs.declared.ports.MemoryPorts.{MemoryPorts}

abbrev pub memory_maker : MemoryPorts → MakerView
memory_maker m = record { faults = m.faults; asked = Some (map string_bytes m.asked.items) }

-- before the first call
abbrev pub new_maker : MakerView
new_maker = record { faults = 0; asked = Some [] }

-- the number of the last call, counted from 1
abbrev pub maker_calls : MemoryPorts → ℕ
maker_calls m = m.calls

-- the numbers of the calls that fail
abbrev pub failing_makes : MemoryPorts → List ℕ
failing_makes m = m.failing.items

-- the numbers of the drives that fail, of each port made
abbrev pub drives_to_fail : MemoryPorts → List ℕ
drives_to_fail m = m.drives.items
