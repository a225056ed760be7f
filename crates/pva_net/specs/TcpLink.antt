-- What is known of a link over a TCP connection: its counts, and whether it was closed. It tells no bytes.
use Rattle.std.specs.Prelude.{Bool, is_none, false, None}
use Rattle.pva_outside.specs.Wire.{Wire}
use Rattle.pva_net.specs.declared.tcp_link.TcpLink.{TcpLink}

abbrev pub tcp_wire : TcpLink → Wire
tcp_wire l = record { left = None; written = None; faults = l.faults; idles = l.idles; ends = l.ends; steady = false }

-- with counts of 0
abbrev pub new_wire : Wire
new_wire = record { left = None; written = None; faults = 0; idles = 0; ends = 0; steady = false }

-- the link was closed
abbrev pub is_closed : TcpLink → Bool
is_closed l = is_none l.stream
