-- What is known of a TCP port that clients connect to: its counts. It tells neither addresses nor links.
use Rattle.std.specs.Prelude.{false, None}
use Rattle.pva_outside.specs.Doors.{Door}
use Rattle.pva_net.specs.declared.tcp_listener.TcpListener.{TcpListener}

abbrev pub tcp_door : {R S L : Type 0} → TcpListener R S L → Door
tcp_door l = record {
  faults = l.faults;
  idles = l.idles;
  accepts = l.accepts;
  links = l.links;
  at_end = false;
  bindings = None;
  ahead = None;
  back = None;
}

-- with counts of 0
abbrev pub new_door : Door
new_door = record {
  faults = 0;
  idles = 0;
  accepts = 0;
  links = 0;
  at_end = false;
  bindings = None;
  ahead = None;
  back = None;
}
