-- What is known of a desk's ports.
use Rattle.std.specs.Prelude.{map}
use Rattle.std.specs.Option.{option_map}
use Rattle.pva_outside.specs.Ports.{PortView}
use Rattle.desk_core.specs.Ports.{Ports}
use Rattle.desk_core.specs.declared.solo.SoloDesk.{SoloDesk}

-- what the ports tell, record by record
abbrev pub ports_of : {P : Type 0} → (P → PortView) → SoloDesk P → Ports
ports_of port desk = map (option_map port) desk.cells.ports.items
