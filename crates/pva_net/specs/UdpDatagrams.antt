-- What is known of datagrams over UDP: their counts. They tell neither addresses nor datagrams.
use Rattle.std.specs.Prelude.{None}
use Rattle.pva_outside.specs.Traffic.{DatagramsView}
use Rattle.pva_net.specs.declared.udp_datagrams.UdpDatagrams.{UdpDatagrams}

abbrev pub udp_view : {R S L : Type 0} → UdpDatagrams R S L → DatagramsView
udp_view d = record { faults = d.faults; idles = d.idles; bindings = None; traffic = None }

-- with counts of 0
abbrev pub new_view : DatagramsView
new_view = record { faults = 0; idles = 0; bindings = None; traffic = None }
