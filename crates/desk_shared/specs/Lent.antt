-- What is seen of a port that stands with its record.
use Rattle.std.specs.Prelude.{Option, None, Some}
use Rattle.pva_outside.specs.Ports.{PortView}
use Rattle.desk_shared.specs.declared.lent.LentPort.{LentPort}
use Rattle.desk_shared.specs.declared.lent.LentPort.TheVariants.{Away, Here}

-- of one that is away nothing is seen
abbrev pub lent_port : {P : Type 0} → (P → PortView) → LentPort P → PortView
lent_port port (Here p) = port p
lent_port port Away = record { faults = 0; drives = None }

-- where a port stands that a record may have
abbrev pub place_of : {P : Type 0} → Option P → LentPort P
place_of None = Away
place_of (Some p) = Here p
