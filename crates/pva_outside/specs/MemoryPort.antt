-- What is known of the port in memory.
use Rattle.std.specs.Prelude.{ℕ, List, [], take, Some}
use Rattle.pva_outside.specs.Ports.{PortView}
use Rattle.pva_outside.specs.declared.port.MemoryPort.{MemoryPort}

abbrev pub memory_port : MemoryPort → PortView
memory_port p = record { faults = p.faults; drives = Some (record { count = p.drives; last = take p.len p.last }) }

-- before the first drive
abbrev pub new_port : PortView
new_port = record { faults = 0; drives = Some (record { count = 0; last = [] }) }

-- the numbers of the drives that fail
abbrev pub failing_drives : MemoryPort → List ℕ
failing_drives p = p.failing.items
